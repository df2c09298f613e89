-- The order in which a stage's states stand. Assumes nothing.
use Rattle.std.proofs.Common.{◌≡◌, ℕ, ◌+◌, ◌<◌, ◌≤◌, Bool, true, ◌&&◌, ◌||◌, eqb, ltb, ◌⊎◌, sym, refl, ap, ◌∙◌, subst, inl, inr, arith}
use Rattle.std.proofs.lemmas.Bool.{ltb-true, eqb-true, lt-ltb, eq-eqb, cases_order}
use Rattle.drawing.specs.declared.words.Wire.{Wire}
use Rattle.drawing.specs.Plans.{within_limits}
use Rattle.measures.specs.Laws.{Laws}
use Rattle.pricing.specs.Measures.{Measure}
use Rattle.pricing.specs.WirePrices.{wire_delay, wire_power}
use Rattle.frontier.specs.Orders.{upto}
use Rattle.frontier.specs.States.{Kept, state_below}
use Rattle.frontier.specs.Stages.{extended}
use Rattle.frontier.proofs.Members.{and_left, and_right, and_both, or_cases, or_left, or_right}
use Rattle.frontier.proofs.Reach.{delay_small}
use Rattle.frontier.proofs.Extending.{Below, below_parts, below_make}
use Rattle.stages.specs.Table.{laid_as, Step, Fit}

module _ {V : Type 0} (m : Measure V) where
  -- how one state comes no later than another
  pub data Comes (x y : Kept V) : Type 0 where
    by_power : x.power < y.power → Comes x y
    by_used : x.power ≡ y.power → x.used < y.used → Comes x y
    by_delay : x.power ≡ y.power → x.used ≡ y.used → m.below x.delay y.delay ≡ true → Comes x y

  -- how, where the test passes
  pub comes : (x y : Kept V) → upto m x y ≡ true → Comes x y
  comes x y t = one (or_cases lp rest t)
    where
      lp : Bool
      lp = ltb x.power y.power

      ep : Bool
      ep = eqb x.power y.power

      lu : Bool
      lu = ltb x.used y.used

      eu : Bool
      eu = eqb x.used y.used

      na : Bool
      na = m.below x.delay y.delay

      rest : Bool
      rest = ep && (lu || (eu && na))

      two : ep ≡ true → (lu ≡ true) ⊎ (eu && na ≡ true) → Comes x y
      two e (inl u) = by_used (eqb-true _ _ e) (ltb-true _ _ u)
      two e (inr u) = by_delay (eqb-true _ _ e) (eqb-true _ _ (and_left eu na u)) (and_right eu na u)

      one : (lp ≡ true) ⊎ (rest ≡ true) → Comes x y
      one (inl p) = by_power (ltb-true _ _ p)
      one (inr r) = two (and_left ep (lu || (eu && na)) r) (or_cases lu (eu && na) (and_right ep (lu || (eu && na)) r))

  -- and the other way
  pub comes_make : (x y : Kept V) → Comes x y → upto m x y ≡ true
  comes_make x y c =
      let lp = ltb x.power y.power in
      let ep = eqb x.power y.power in
      let lu = ltb x.used y.used in
      let eu = eqb x.used y.used in
      let na = m.below x.delay y.delay in
      elim c [
        | by_power p ↦ or_left lp (ep && (lu || (eu && na))) (lt-ltb _ _ p)
        | by_used p u ↦ or_right lp (ep && (lu || (eu && na))) (and_both ep (lu || (eu && na)) (eq-eqb _ _ p) (or_left lu (eu && na) (lt-ltb _ _ u)))
        | by_delay p u d ↦ or_right lp (ep && (lu || (eu && na))) (and_both ep (lu || (eu && na)) (eq-eqb _ _ p) (or_right lu (eu && na) (and_both eu na (eq-eqb _ _ u) d)))
      ]

-- in reach of at most 24 wires
abbrev pub Near : {V : Type 0} → (ℕ → V → Type 0) → Kept V → Type 0
Near reach s = (k : ℕ) × (k ≤ 24) × reach k s.delay

module _ {V : Type 0} (m : Measure V) {reach : ℕ → V → Type 0} (laws : Laws m.empty m.made m.joined m.below reach) where
  -- of two states one comes no later
  pub upto_total : (x y : Kept V) → Near reach x → Near reach y → (upto m x y ≡ true) ⊎ (upto m y x ≡ true)
  upto_total x y gx gy = one (cases_order x.power y.power)
    where
      three : x.power ≡ y.power → x.used ≡ y.used → (m.below x.delay y.delay ≡ true) ⊎ (m.below y.delay x.delay ≡ true) → (upto m x y ≡ true) ⊎ (upto m y x ≡ true)
      three p u (inl d) = inl (comes_make m x y (by_delay p u d))
      three p u (inr d) = inr (comes_make m y x (by_delay (sym p) (sym u) d))

      two : x.power ≡ y.power → (x.used ≡ y.used) ⊎ ((x.used < y.used) ⊎ (y.used < x.used)) → (upto m x y ≡ true) ⊎ (upto m y x ≡ true)
      two p (inr (inl h)) = inl (comes_make m x y (by_used p h))
      two p (inr (inr h)) = inr (comes_make m y x (by_used (sym p) h))
      two p (inl h) = three p h (laws.entire gx.0 gy.0 x.delay y.delay gx.1 gy.1 gx.2 gy.2)

      one : (x.power ≡ y.power) ⊎ ((x.power < y.power) ⊎ (y.power < x.power)) → (upto m x y ≡ true) ⊎ (upto m y x ≡ true)
      one (inr (inl h)) = inl (comes_make m x y (by_power h))
      one (inr (inr h)) = inr (comes_make m y x (by_power h))
      one (inl h) = two h (cases_order x.used y.used)

  -- the order is transitive
  pub upto_through : (x y z : Kept V) → Near reach x → Near reach y → Near reach z → upto m x y ≡ true → upto m y z ≡ true → upto m x z ≡ true
  upto_through x y z gx gy gz p q = comes_make m x z (go (comes m x y p) (comes m y z q))
    where
      go : Comes m x y → Comes m y z → Comes m x z
      go (by_power a) (by_power b) = by_power (omega arith)
      go (by_power a) (by_used b c) = by_power (omega arith)
      go (by_power a) (by_delay b c d) = by_power (omega arith)
      go (by_used a b) (by_power c) = by_power (omega arith)
      go (by_used a b) (by_used c d) = by_used (a ∙ c) (omega arith)
      go (by_used a b) (by_delay c d e) = by_used (a ∙ c) (omega arith)
      go (by_delay a b c) (by_power d) = by_power (omega arith)
      go (by_delay a b c) (by_used d e) = by_used (a ∙ d) (omega arith)
      go (by_delay a b c) (by_delay d e f) =
          by_delay (a ∙ d) (b ∙ e) (laws.transitive gx.0 gy.0 gz.0 x.delay y.delay z.delay gx.1 gy.1 gz.1 gx.2 gy.2 gz.2 c f)

  -- a state at or below another that comes no later is that one
  pub below_first : (y x : Kept V) → Near reach y → Near reach x → state_below m y x ≡ true → upto m x y ≡ true → y ≡ x
  below_first y x gy gx b u = go (comes m x y u)
    where
      o : Below m y x
      o = below_parts m y x b

      go : Comes m x y → y ≡ x
      go (by_power p) = let h = o.power in absurd (omega arith)
      go (by_used p h) = let k = o.used in absurd (omega arith)
      go (by_delay p h d) =
          let ed : y.delay ≡ x.delay = laws.antisymmetric gy.0 gx.0 y.delay x.delay gy.1 gx.1 gy.2 gx.2 o.delay d in
          λ i. record { last = o.last i; used = sym h i; power = sym p i; delay = ed i }

  -- a state is at or below itself
  pub below_same : (x : Kept V) → Near reach x → state_below m x x ≡ true
  below_same x g = below_make m x x (record { last = refl; used = omega arith; power = omega arith; delay = laws.reflexive g.0 x.delay g.1 g.2 })

  -- at or below is transitive
  pub below_through : (x y z : Kept V) → Near reach x → Near reach y → Near reach z → state_below m x y ≡ true → state_below m y z ≡ true → state_below m x z ≡ true
  below_through x y z gx gy gz p q =
      let a = below_parts m x y p in
      let b = below_parts m y z q in
      below_make m x z (record {
        last = a.last ∙ b.last;
        used = omega (arith, a.used, b.used);
        power = omega (arith, a.power, b.power);
        delay = laws.transitive gx.0 gy.0 gz.0 x.delay y.delay z.delay gx.1 gy.1 gz.1 gx.2 gy.2 gz.2 a.delay b.delay;
      })

  module _ (channel : ℕ) (q : Wire) (fits : within_limits q ≡ true) where
    -- one wire more stays in reach
    pub extended_near : (s : Kept V) (w r : ℕ) → Fit m reach channel s → Step w → Near reach (extended m q s w r)
    extended_near s w r f h =
        let y = laid_as q s.last w r in
        let n = f.near in
        (n.0 + 1, omega (arith, n.1), laws.joined_reach n.0 1 s.delay (m.made (wire_delay y) q.t) (omega (arith, n.1)) n.2 (laws.made_reach (wire_delay y) q.t (delay_small y fits h.1)))

    -- one wire more behind each of two states of one last space leaves their order
    pub extended_upto : (s u : Kept V) (w r : ℕ) → Fit m reach channel s → Fit m reach channel u → Step w → s.last ≡ u.last → upto m s u ≡ true → upto m (extended m q s w r) (extended m q u w r) ≡ true
    extended_upto s u w r fs fu h e t =
        let ep : wire_power (laid_as q s.last w r) ≡ wire_power (laid_as q u.last w r) = ap (λ (l : ℕ). wire_power (laid_as q l w r)) e in
        comes_make m (extended m q s w r) (extended m q u w r) (go ep (comes m s u t))
      where
        joined : m.below s.delay u.delay ≡ true →
            (m.below (m.joined s.delay (m.made (wire_delay (laid_as q s.last w r)) q.t)) (m.joined u.delay (m.made (wire_delay (laid_as q u.last w r)) q.t)) ≡ true)
        joined d =
            let y = laid_as q s.last w r in
            let ns = fs.near in
            let nu = fu.near in
            let made = laws.made_reach (wire_delay y) q.t (delay_small y fits h.1) in
            let j = laws.steady_right ns.0 nu.0 1 s.delay u.delay (m.made (wire_delay y) q.t) (omega (arith, ns.1)) (omega (arith, nu.1)) ns.2 nu.2 made d in
            subst (λ (l : ℕ). m.below (m.joined s.delay (m.made (wire_delay (laid_as q s.last w r)) q.t)) (m.joined u.delay (m.made (wire_delay (laid_as q l w r)) q.t)) ≡ true) e j

        go : wire_power (laid_as q s.last w r) ≡ wire_power (laid_as q u.last w r) → Comes m s u → Comes m (extended m q s w r) (extended m q u w r)
        go ep (by_power p) = by_power (omega arith)
        go ep (by_used p v) = by_used (omega arith) (omega arith)
        go ep (by_delay p v d) = by_delay (omega arith) (omega arith) (joined d)
