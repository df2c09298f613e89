-- The first point of a front, and what is left after it. Assumes nothing.
use Rattle.std.proofs.Common.{◌≡◌, ℕ, zero, suc, ◌<◌, ◌≤◌, Bool, true, false, not, ◌&&◌, ◌||◌, eqb, ltb, leb, ◌⊎◌, List, [], ◌∷◌, length, get_or, Some, None, Option, refl, subst, inl, inr, le_of_suc-le-suc, not-suc-le-zero, le_antisymm, arith}
use mathlib.Core.List.Memᴰ
use Rattle.std.proofs.lemmas.Bool.{leb-true, le-leb, ltb-true, ltb-false, eqb-true, not-true}
use Rattle.drawing.specs.Lists.{keep}
use Rattle.measures.specs.Laws.{Laws}
use Rattle.pricing.specs.Measures.{Measure}
use Rattle.frontier.specs.declared.records.Point.{Point}
use Rattle.frontier.specs.Lists.{◌∈◌, unbeaten, undominated, Rising}
use Rattle.frontier.specs.Points.{at_or_below}
use Rattle.frontier.proofs.Members.{and_left, and_right, and_both, either, never_both, or_cases, implies, implied, all_in, all_make, keep_in, keep_make}
use Rattle.frontier.proofs.Fronts.{Orders, front_in, front_make}
use Rattle.frontier.proofs.Sorted.{rising_in, rising_make, rising_rises, same_rising, distinct_apart, Apart}
use Rattle.frontier.proofs.OneCurve.{price_orders}
use Rattle.frontier.specs.Orders.{point_upto}
use Rattle.solver.specs.Front.{Known, ahead, still_ahead, front}

-- a test that does not pass
pub not_make : (b : Bool) → (b ≡ true → ⊥) → not b ≡ true
not_make true f = absurd (f refl)
not_make false f = refl

-- a number that is not below another is at or above it
pub not_below : (a b : ℕ) → not (ltb a b) ≡ true → b ≤ a
not_below a b t = ltb-false a b (not-true (ltb a b) t)

-- what stands in a list has a place
pub placed : {A : Type 0} (e : A) {x : A} {xs : List A} → x ∈ xs → (i : ℕ) × (i < length xs) × (x ≡ get_or xs i e)
placed e (Memᴰ.head {xs = xs} q) = (0, omega arith, q)
placed e (Memᴰ.tail {xs = xs} j) = let r = placed e j in (suc r.0, omega (arith, r.1), r.2)

-- and what has a place stands in it
pub stands : {A : Type 0} (e : A) (xs : List A) (i : ℕ) → i < length xs → get_or xs i e ∈ xs
stands e [] i h = absurd (not-suc-le-zero h)
stands e (x ∷ xs) zero h = Memᴰ.head refl
stands e (x ∷ xs) (suc i) h = Memᴰ.tail (stands e xs i (le_of_suc-le-suc h))

module _ {V : Type 0} (m : Measure V) where
  -- by power, then by delay, as facts
  pub record Earlier (p q : Point V) : Type 0 where
    pub power : p.power ≤ q.power
    pub delay : p.power ≡ q.power → m.below p.delay q.delay ≡ true

  -- what the test says
  pub earlier_parts : (p q : Point V) → point_upto m p q ≡ true → Earlier p q
  earlier_parts p q t = go (or_cases (ltb p.power q.power) (eqb p.power q.power && m.below p.delay q.delay) t)
    where
      go : (ltb p.power q.power ≡ true) ⊎ (eqb p.power q.power && m.below p.delay q.delay ≡ true) → Earlier p q
      go (inl s) = let h = ltb-true p.power q.power s in record { power = omega arith; delay = λ e. absurd (omega arith) }
      go (inr s) =
          let h = eqb-true _ _ (and_left (eqb p.power q.power) (m.below p.delay q.delay) s) in
          record { power = omega arith; delay = λ e. and_right (eqb p.power q.power) (m.below p.delay q.delay) s }

module _ {V : Type 0} (m : Measure V) {reach : ℕ → V → Type 0} (laws : Laws m.empty m.made m.joined m.below reach) (k : ℕ) (few : k ≤ 24) (ps : List (Point V)) (good : (p : Point V) → p ∈ ps → reach k p.delay) where
  -- points in reach are ordered
  o : Orders (at_or_below m) (λ p. reach k p.delay)
  o = price_orders m laws k few

  -- what is ahead is in reach
  left_good : (a : Option V) (p : Point V) → p ∈ still_ahead m a ps → reach k p.delay
  left_good a p i = good p (keep_in (λ p. ahead m a p.delay) ps i).0

  -- of equal power, two that nothing else is at or below are equal
  pub front_rises : (a : Option V) → Rising (λ p. p.power) (front m a ps)
  front_rises a = rising_rises (λ p. p.power) (undominated (at_or_below m) (still_ahead m a ps)) apart
    where
      pair : (x y : Point V) → x ∈ keep (unbeaten (at_or_below m) (still_ahead m a ps)) (still_ahead m a ps) → y ∈ keep (unbeaten (at_or_below m) (still_ahead m a ps)) (still_ahead m a ps) → x.power ≡ y.power →
          at_or_below m x y && at_or_below m y x ≡ true
      pair x y i j e = go (laws.entire k k x.delay y.delay few few (left_good a x f.0) (left_good a y g.0))
        where
          f : (x ∈ still_ahead m a ps) × (unbeaten (at_or_below m) (still_ahead m a ps) x ≡ true)
          f = keep_in (unbeaten (at_or_below m) (still_ahead m a ps)) (still_ahead m a ps) i

          g : (y ∈ still_ahead m a ps) × (unbeaten (at_or_below m) (still_ahead m a ps) y ≡ true)
          g = keep_in (unbeaten (at_or_below m) (still_ahead m a ps)) (still_ahead m a ps) j

          go : (m.below x.delay y.delay ≡ true) ⊎ (m.below y.delay x.delay ≡ true) → at_or_below m x y && at_or_below m y x ≡ true
          go (inl t) =
              let xy : (at_or_below m x y ≡ true) = and_both (leb x.power y.power) (m.below x.delay y.delay) (le-leb _ _ (omega arith)) t in
              and_both (at_or_below m x y) (at_or_below m y x) xy (implies (at_or_below m x y) (at_or_below m y x) (all_in (λ z. not (at_or_below m z y) || at_or_below m y z) f.0 g.1) xy)
          go (inr t) =
              let yx : (at_or_below m y x ≡ true) = and_both (leb y.power x.power) (m.below y.delay x.delay) (le-leb _ _ (omega arith)) t in
              and_both (at_or_below m x y) (at_or_below m y x) (implies (at_or_below m y x) (at_or_below m x y) (all_in (λ z. not (at_or_below m z x) || at_or_below m x z) g.0 f.1) yx) yx

      apart : Apart (λ p. p.power) (undominated (at_or_below m) (still_ahead m a ps))
      apart = distinct_apart (λ p. p.power) (at_or_below m) (keep (unbeaten (at_or_below m) (still_ahead m a ps)) (still_ahead m a ps)) pair

  -- what stands in a front
  front_of : (a : Option V) {p : Point V} → p ∈ front m a ps → (p ∈ still_ahead m a ps) × (unbeaten (at_or_below m) (still_ahead m a ps) p ≡ true)
  front_of a i = front_in (at_or_below m) o (still_ahead m a ps) (rising_in (λ p. p.power) (undominated (at_or_below m) (still_ahead m a ps)) i)

  -- and the other way
  front_with : (a : Option V) {p : Point V} → p ∈ still_ahead m a ps → unbeaten (at_or_below m) (still_ahead m a ps) p ≡ true → p ∈ front m a ps
  front_with a i t = rising_make (λ p. p.power) (front_make (at_or_below m) o (still_ahead m a ps) (left_good a) i t)

  -- none ahead
  pub front_none : (a : Option V) → ((p : Point V) → p ∈ ps → ahead m a p.delay ≡ true → ⊥) → front m a ps ≡ []
  front_none a none = empty (front m a ps) (λ p i. let f = keep_in (λ p. ahead m a p.delay) ps (front_of a i).0 in none p f.0 f.1)
    where
      empty : (xs : List (Point V)) → ((p : Point V) → p ∈ xs → ⊥) → xs ≡ []
      empty [] h = refl
      empty (x ∷ xs) h = absurd (h x (Memᴰ.head refl))

  module _ (a : Option V) (known : Known ps a) (p : Point V) (here : p ∈ ps) (free : (ahead m a p.delay ≡ true)) (least : (q : Point V) → q ∈ ps → ahead m a q.delay ≡ true → (point_upto m p q ≡ true)) where
    -- what is ahead of p is ahead of what p is ahead of
    pub further : (v : V) → reach k v → not (m.below p.delay v) ≡ true → ahead m a v ≡ true
    further v r t = go a known free
      where
        go : (b : Option V) → Known ps b → ahead m b p.delay ≡ true → ahead m b v ≡ true
        go None s f = refl
        go (Some u) s f = not_make (m.below u v) (λ uv. never_both (m.below p.delay v) t
            (laws.transitive k k k p.delay u v few few few (good p here) ru r (lower (laws.entire k k p.delay u few few (good p here) ru)) uv))
          where
            ru : reach k u
            ru = subst (λ (w : V). reach k w) s.2 (good s.0 s.1)

            lower : (m.below p.delay u ≡ true) ⊎ (m.below u p.delay ≡ true) → m.below p.delay u ≡ true
            lower (inl h) = h
            lower (inr h) = absurd (never_both (m.below u p.delay) f h)

    -- it is still ahead
    in_left : p ∈ still_ahead m a ps
    in_left = keep_make (λ p. ahead m a p.delay) here free

    -- what is ahead of it was ahead
    rest_left : {x : Point V} → x ∈ still_ahead m (Some p.delay) ps → x ∈ still_ahead m a ps
    rest_left {x} i =
        let f = keep_in (λ z. ahead m (Some p.delay) z.delay) ps i in
        keep_make (λ z. ahead m a z.delay) f.0 (further x.delay (good x f.0) f.1)

    -- it is on the front
    first : p ∈ front m a ps
    first = front_with a in_left (all_make (λ z. not (at_or_below m z p) || at_or_below m p z) (still_ahead m a ps) (λ z j.
        implied (at_or_below m z p) (at_or_below m p z) (λ zp.
        let f = keep_in (λ z. ahead m a z.delay) ps j in
        let b = earlier_parts m p z (least z f.0 f.1) in
        let le : z.power ≤ p.power = leb-true _ _ (and_left (leb z.power p.power) (m.below z.delay p.delay) zp) in
        and_both (leb p.power z.power) (m.below p.delay z.delay) (le-leb _ _ b.power) (b.delay (le_antisymm b.power le)))))

    -- what else is on the front is ahead of it
    to : (x : Point V) → x ∈ front m a ps → x ∈ (p ∷ front m (Some p.delay) ps)
    to x i = go (either (m.below p.delay x.delay))
      where
        f : (x ∈ still_ahead m a ps) × (unbeaten (at_or_below m) (still_ahead m a ps) x ≡ true)
        f = front_of a i

        g : (x ∈ ps) × (ahead m a x.delay ≡ true)
        g = keep_in (λ z. ahead m a z.delay) ps f.0

        go : (m.below p.delay x.delay ≡ true) ⊎ (not (m.below p.delay x.delay) ≡ true) → x ∈ (p ∷ front m (Some p.delay) ps)
        go (inl t) =
            let b = earlier_parts m p x (least x g.0 g.1) in
            let px : (at_or_below m p x ≡ true) = and_both (leb p.power x.power) (m.below p.delay x.delay) (le-leb _ _ b.power) t in
            let xp : (at_or_below m x p ≡ true) = implies (at_or_below m p x) (at_or_below m x p) (all_in (λ z. not (at_or_below m z x) || at_or_below m x z) in_left f.1) px in
            Memᴰ.head (o.one x p (good x g.0) (good p here) xp px)
        go (inr t) =
            Memᴰ.tail (front_with (Some p.delay) (keep_make (λ z. ahead m (Some p.delay) z.delay) g.0 t)
            (all_make (λ z. not (at_or_below m z x) || at_or_below m x z) (still_ahead m (Some p.delay) ps) (λ z j. all_in (λ z. not (at_or_below m z x) || at_or_below m x z) (rest_left j) f.1)))

    -- and the other way
    from : (x : Point V) → x ∈ (p ∷ front m (Some p.delay) ps) → x ∈ front m a ps
    from x i = go (Memᴰ.cases_cons i)
      where
        go : (x ≡ p) ⊎ (x ∈ front m (Some p.delay) ps) → x ∈ front m a ps
        go (inl e) = Memᴰ.cast e first
        go (inr j) =
            let f = front_of (Some p.delay) j in
            let g = keep_in (λ z. ahead m (Some p.delay) z.delay) ps f.0 in
            front_with a (rest_left f.0) (all_make (λ z. not (at_or_below m z x) || at_or_below m x z) (still_ahead m a ps) (λ z k'.
            implied (at_or_below m z x) (at_or_below m x z) (λ zx.
            let h = keep_in (λ z. ahead m a z.delay) ps k' in
            let dzx : (m.below z.delay x.delay ≡ true) = and_right (leb z.power x.power) (m.below z.delay x.delay) zx in
            let t : (not (m.below p.delay z.delay) ≡ true) = not_make (m.below p.delay z.delay) (λ pz.
            never_both (m.below p.delay x.delay) g.1 (laws.transitive k k k p.delay z.delay x.delay few few few (good p here) (good z h.0) (good x g.0) pz dzx)) in
            implies (at_or_below m z x) (at_or_below m x z)
            (all_in (λ z. not (at_or_below m z x) || at_or_below m x z) (keep_make (λ z. ahead m (Some p.delay) z.delay) h.0 t) f.1) zx)))

    -- what is ahead of it is of more power
    later : (y : Point V) → y ∈ front m (Some p.delay) ps → p.power < y.power
    later y j = go (either (ltb p.power y.power))
      where
        f : (y ∈ still_ahead m (Some p.delay) ps) × (unbeaten (at_or_below m) (still_ahead m (Some p.delay) ps) y ≡ true)
        f = front_of (Some p.delay) j

        g : (y ∈ ps) × (ahead m (Some p.delay) y.delay ≡ true)
        g = keep_in (λ z. ahead m (Some p.delay) z.delay) ps f.0

        b : Earlier m p y
        b = earlier_parts m p y (least y g.0 (further y.delay (good y g.0) g.1))

        go : (ltb p.power y.power ≡ true) ⊎ (not (ltb p.power y.power) ≡ true) → p.power < y.power
        go (inl t) = ltb-true _ _ t
        go (inr t) =
            let low : y.power ≤ p.power = not_below p.power y.power t in
            let same : p.power ≡ y.power = le_antisymm b.power low in
            absurd (never_both (m.below p.delay y.delay) g.1 (b.delay same))

    -- it is the first point of the front, and what is ahead of it the rest
    pub front_step : front m a ps ≡ p ∷ front m (Some p.delay) ps
    front_step = same_rising (λ z. z.power) (front m a ps) (p ∷ front m (Some p.delay) ps) (front_rises a) (later, front_rises (Some p.delay)) to from
