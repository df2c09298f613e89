-- The least row so far, turn by turn, and the point that it is. Assumes nothing.
use Rattle.std.proofs.Common.{◌≡◌, ℕ, zero, suc, ◌+◌, ◌<◌, ◌≤◌, Bool, true, false, cond, not, ◌&&◌, eqb, ltb, leb, ◌⊎◌, List, [], ◌∷◌, length, get_or, Some, None, Option, sym, refl, ap, ◌∙◌, subst, inl, inr, le_of_suc-le-suc, not-suc-le-zero, le_antisymm, arith}
use lib.ListN.{length-map}
use Rattle.std.proofs.lemmas.Bool.{lt-ltb, ltb-true, eq-eqb, cases_lt, both_ways}
use borrow.Author.Tests.{clash}
use Rattle.drawing.specs.Lists.{keep}
use Rattle.measures.specs.Laws.{Laws}
use Rattle.pricing.specs.Lists.{some_is}
use Rattle.pricing.specs.Measures.{Measure}
use Rattle.frontier.specs.declared.records.Point.{Point}
use Rattle.frontier.specs.declared.records.State.{State}
use Rattle.frontier.specs.Lists.{put, distinct, unbeaten, place, rising}
use Rattle.frontier.specs.Points.{at_or_below}
use Rattle.frontier.proofs.Members.{and_both, either, never_both, or_left, or_right, map_in, map_make}
use Rattle.frontier.specs.Orders.{blank_state, point_upto}
use Rattle.solver.specs.Front.{row_at, point_in, points_in, InReach, Known, ahead, still_ahead, front, InRows, lower_row, earlier_row, LeastIn}
use Rattle.solver.proofs.FrontSteps.{placed, stands, Earlier, earlier_parts, not_below, front_none, front_step}

-- what stands in a list does not hang on the default
pub reads : {A : Type 0} (xs : List A) (i : ℕ) (a b : A) → i < length xs → get_or xs i a ≡ get_or xs i b
reads [] i a b h = absurd (not-suc-le-zero h)
reads (x ∷ xs) zero a b h = refl
reads (x ∷ xs) (suc i) a b h = reads xs i a b (le_of_suc-le-suc h)

module _ {V : Type 0} (m : Measure V) where
  -- the test passes where the facts hold
  earlier_make : (p q : Point V) → Earlier m p q → point_upto m p q ≡ true
  earlier_make p q b = go (either (ltb p.power q.power))
    where
      go : (ltb p.power q.power ≡ true) ⊎ (not (ltb p.power q.power) ≡ true) → point_upto m p q ≡ true
      go (inl t) = or_left (ltb p.power q.power) (eqb p.power q.power && m.below p.delay q.delay) t
      go (inr t) =
          let low = not_below p.power q.power t in
          let same : p.power ≡ q.power = le_antisymm b.power low in
          or_right (ltb p.power q.power) (eqb p.power q.power && m.below p.delay q.delay)
          (and_both (eqb p.power q.power) (m.below p.delay q.delay) (eq-eqb p.power q.power same) (b.delay same))

module _ {V : Type 0} (m : Measure V) {reach : ℕ → V → Type 0} (laws : Laws m.empty m.made m.joined m.below reach) (k : ℕ) (few : k ≤ 24) where
  -- nothing is later than itself
  earlier_same : (p : Point V) → reach k p.delay → point_upto m p p ≡ true
  earlier_same p g = earlier_make m p p (record { power = omega arith; delay = λ e. laws.reflexive k p.delay few g })

  -- from one to the next to the third
  pub earlier_through : (p q r : Point V) → reach k p.delay → reach k q.delay → reach k r.delay → point_upto m p q ≡ true → point_upto m q r ≡ true → point_upto m p r ≡ true
  earlier_through p q r gp gq gr s t =
      let a = earlier_parts m p q s in
      let b = earlier_parts m q r t in
      earlier_make m p r (record {
        power = let x = a.power in let y = b.power in omega arith;
        delay = λ e.
            let x = a.power in
            let y = b.power in
            laws.transitive k k k p.delay q.delay r.delay few few few gp gq gr (a.delay (omega arith)) (b.delay (omega arith));
      })

  -- what is not before comes after
  pub earlier_turned : (p q : Point V) → reach k p.delay → reach k q.delay → not (point_upto m p q) ≡ true → point_upto m q p ≡ true
  earlier_turned p q gp gq t = earlier_make m q p (record { power = low (either (ltb p.power q.power)); delay = λ e. lower e (laws.entire k k q.delay p.delay few few gq gp) })
    where
      low : (ltb p.power q.power ≡ true) ⊎ (not (ltb p.power q.power) ≡ true) → q.power ≤ p.power
      low (inl s) = absurd (never_both (point_upto m p q) t (or_left (ltb p.power q.power) (eqb p.power q.power && m.below p.delay q.delay) s))
      low (inr s) = not_below p.power q.power s

      lower : q.power ≡ p.power → (m.below q.delay p.delay ≡ true) ⊎ (m.below p.delay q.delay ≡ true) → m.below q.delay p.delay ≡ true
      lower e (inl h) = h
      lower e (inr h) = absurd (never_both (point_upto m p q) t (earlier_make m p q (record { power = omega arith; delay = λ f. h })))

-- what holds of the places of two parts side by side
side : (P : ℕ → Type 0) (a b c : ℕ) → ((i : ℕ) → a ≤ i → i < b → P i) → ((i : ℕ) → b ≤ i → i < c → P i) → (i : ℕ) → a ≤ i → i < c → P i
side P a b c low high i h k = go (cases_lt i b)
  where
    go : (i < b) ⊎ (b ≤ i) → P i
    go (inl s) = low i h s
    go (inr s) = high i s k

module _ {V : Type 0} (m : Measure V) {reach : ℕ → V → Type 0} (laws : Laws m.empty m.made m.joined m.below reach) (e : V) (rows : List (State V)) (fine : InReach reach (points_in rows)) (o : Option V) where
  -- a row is in reach
  pub good : (i : ℕ) → i < length rows → reach fine.0 (row_at e rows i).delay
  good i h = fine.2 (point_in (row_at e rows i)) (map_make point_in (stands (blank_state e) rows i h) refl)

  -- a row that is ahead is the least of itself
  pub least_one : (i : ℕ) → i < length rows → ahead m o (row_at e rows i).delay ≡ true → LeastIn m e rows o i (i + 1) (Some i)
  least_one i h t = record {
    low = omega arith;
    high = omega arith;
    taken = t;
    least = λ j a b s.
        let same : i ≡ j = omega arith in
        subst (λ (z : ℕ). point_upto m (point_in (row_at e rows i)) (point_in (row_at e rows z)) ≡ true) same
        (earlier_same m laws fine.0 fine.1 (point_in (row_at e rows i)) (good i h));
  }

  -- a row that is not ahead
  pub least_none : (i : ℕ) → ahead m o (row_at e rows i).delay ≡ false → LeastIn m e rows o i (i + 1) None
  least_none i f = λ j a b t. let same : i ≡ j = omega arith in both_ways _ f (subst (λ (z : ℕ). (ahead m o (row_at e rows z).delay ≡ true)) (sym same) t)

  -- what is picked is a row
  pub picked : (a b : ℕ) → b ≤ length rows → (x : Option ℕ) → LeastIn m e rows o a b x → InRows rows x
  picked a b h None p = tt
  picked a b h (Some x) p = let k = p.high in omega arith

  -- one row and none
  pub stays : (x : Option ℕ) → earlier_row m e rows x None ≡ x
  stays None = refl
  stays (Some x) = refl

  -- the rows of two parts side by side
  pub joined : (a b c : ℕ) → a ≤ b → b ≤ c → c ≤ length rows → (x y : Option ℕ) → LeastIn m e rows o a b x → LeastIn m e rows o b c y → LeastIn m e rows o a c (earlier_row m e rows x y)
  joined a b c ab bc in_rows None None p q = side (λ i. ahead m o (row_at e rows i).delay ≡ true → ⊥) a b c p q
  joined a b c ab bc in_rows None (Some y) p q = record {
    low = let k = q.low in omega arith;
    high = q.high;
    taken = q.taken;
    least = side (λ i. ahead m o (row_at e rows i).delay ≡ true → point_upto m (point_in (row_at e rows y)) (point_in (row_at e rows i)) ≡ true) a b c (λ i low lt t. absurd (p i low lt t)) q.least;
  }
  joined a b c ab bc in_rows (Some x) None p q = record {
    low = p.low;
    high = let k = p.high in omega arith;
    taken = p.taken;
    least = side (λ i. ahead m o (row_at e rows i).delay ≡ true → point_upto m (point_in (row_at e rows x)) (point_in (row_at e rows i)) ≡ true) a b c p.least (λ i low lt t. absurd (q i low lt t));
  }
  joined a b c ab bc in_rows (Some x) (Some y) p q = pick (point_upto m px py) refl
    where
      px : Point V
      px = point_in (row_at e rows x)

      py : Point V
      py = point_in (row_at e rows y)

      gx : reach fine.0 px.delay
      gx = good x (let k = p.high in omega arith)

      gy : reach fine.0 py.delay
      gy = good y (let k = q.high in omega arith)

      pick : (v : Bool) → point_upto m px py ≡ v → LeastIn m e rows o a c (cond v (Some x) (Some y))
      pick true t = record {
        low = p.low;
        high = let k = p.high in omega arith;
        taken = p.taken;
        least = side (λ i. ahead m o (row_at e rows i).delay ≡ true → point_upto m px (point_in (row_at e rows i)) ≡ true) a b c p.least
            (λ i low lt s. earlier_through m laws fine.0 fine.1 px py (point_in (row_at e rows i)) gx gy (good i (omega arith)) t (q.least i low lt s));
      }
      pick false t = record {
        low = let k = q.low in omega arith;
        high = q.high;
        taken = q.taken;
        least = side (λ i. ahead m o (row_at e rows i).delay ≡ true → point_upto m py (point_in (row_at e rows i)) ≡ true) a b c
            (λ i low lt s. earlier_through m laws fine.0 fine.1 py px (point_in (row_at e rows i)) gy gx (good i (omega arith)) (earlier_turned m laws fine.0 fine.1 px py gx gy (ap not t)) (p.least i low lt s)) q.least;
      }

  -- where power does not fall, all that follow a row of more power have more
  pub ended : (from i to : ℕ) → i < to → to ≤ length rows → ((j k : ℕ) → from ≤ j → j ≤ k → k < to → (row_at e rows j).power ≤ (row_at e rows k).power) → from ≤ i →
      (x : Option ℕ) → LeastIn m e rows o from i x → lower_row e rows x (row_at e rows i).power ≡ true → LeastIn m e rows o from to x
  ended from i to h long up low None p t = absurd (clash t)
  ended from i to h long up low (Some best) p t = record {
    low = p.low;
    high = let x = p.high in omega arith;
    taken = p.taken;
    least = side (λ j. ahead m o (row_at e rows j).delay ≡ true → point_upto m (point_in (row_at e rows best)) (point_in (row_at e rows j)) ≡ true) from i to p.least
        (λ j a b s.
        let more = ltb-true _ _ t in
        let rest = up i j low a b in
        or_left (ltb (row_at e rows best).power (row_at e rows j).power) _ (lt-ltb _ _ (omega arith)));
  }

  -- the next row is the next point
  module _ (known : Known (points_in rows) o) where
    -- no row is next: the front is gone through
    pub next_none : LeastIn m e rows o 0 (length rows) None → front m o (points_in rows) ≡ []
    next_none b = front_none m laws fine.0 fine.1 (points_in rows) fine.2 o (λ p i t.
        let a = map_in point_in rows i in
        let x = placed (blank_state e) a.1 in
        b x.0 (omega arith) x.1 (subst (λ (z : Point V). (ahead m o z.delay ≡ true)) (a.2 ∙ ap point_in x.2) t))

    -- it is the first point of the front
    pub next_point : (r : ℕ) → LeastIn m e rows o 0 (length rows) (Some r) → front m o (points_in rows) ≡ point_in (row_at e rows r) ∷ front m (Some (row_at e rows r).delay) (points_in rows)
    next_point r b = front_step m laws fine.0 fine.1 (points_in rows) fine.2 o known (point_in (row_at e rows r)) (map_make point_in (stands (blank_state e) rows r b.high) refl) b.taken (λ p i t.
        let a = map_in point_in rows i in
        let x = placed (blank_state e) a.1 in
        let q : p ≡ point_in (row_at e rows x.0) = a.2 ∙ ap point_in x.2 in
        subst (λ (z : Point V). (point_upto m (point_in (row_at e rows r)) z ≡ true)) (sym q) (b.least x.0 (omega arith) x.1 (subst (λ (z : Point V). (ahead m o z.delay ≡ true)) q t)))

    -- its delay is a row's
    pub next_known : (r : ℕ) → r < length rows → Known (points_in rows) (Some (row_at e rows r).delay)
    next_known r h = (point_in (row_at e rows r), map_make point_in (stands (blank_state e) rows r h) refl, refl)

-- a front is no longer than the list
module _ {A : Type 0} where
  -- one put in front where a test passes
  put_short : (b : Bool) (x : A) (xs ys : List A) → length xs ≤ length ys → length (put b x xs) ≤ suc (length ys)
  put_short true x xs ys h = omega arith
  put_short false x xs ys h = omega arith

  -- what is kept
  keep_short : (f : A → Bool) (xs : List A) → length (keep f xs) ≤ length xs
  keep_short f [] = omega arith
  keep_short f (x ∷ xs) = put_short (f x) x (keep f xs) xs (keep_short f xs)

  -- the distinct ones
  distinct_short : (le : A → A → Bool) (xs : List A) → length (distinct le xs) ≤ length xs
  distinct_short le [] = omega arith
  distinct_short le (x ∷ xs) = put_short (not (some_is (λ y. le x y && le y x) xs)) x (distinct le xs) xs (distinct_short le xs)

  -- one placed
  place_length : (key : A → ℕ) (x : A) (ys : List A) → length (place key x ys) ≡ suc (length ys)
  place_length key x [] = refl
  place_length key x (y ∷ ys) = go (leb (key x) (key y)) (place_length key x ys)
    where
      go : (b : Bool) → length (place key x ys) ≡ suc (length ys) → length (cond b (x ∷ y ∷ ys) (y ∷ place key x ys)) ≡ suc (suc (length ys))
      go true h = refl
      go false h = ap suc h

  -- a list put in order
  rising_length : (key : A → ℕ) (xs : List A) → length (rising key xs) ≡ length xs
  rising_length key [] = refl
  rising_length key (x ∷ xs) = place_length key x (rising key xs) ∙ ap suc (rising_length key xs)

-- the points of a front are no more than the rows
pub front_short : {V : Type 0} (m : Measure V) (o : Option V) (rows : List (State V)) → length (front m o (points_in rows)) ≤ length rows
front_short m o rows =
    let l = still_ahead m o (points_in rows) in
    let k = keep (unbeaten (at_or_below m) l) l in
    let a = rising_length (λ p. p.power) (distinct (at_or_below m) k) in
    let b = distinct_short (at_or_below m) k in
    let c = keep_short (unbeaten (at_or_below m) l) l in
    let d = keep_short (λ p. ahead m o p.delay) (points_in rows) in
    let f = length-map rows point_in in
    omega arith
