-- To drop the states that are beaten loses nothing. Assumes nothing.
use Rattle.std.proofs.Common.{◌≡◌, ℕ, suc, ◌+◌, ◌≤◌, true, ◌&&◌, eqb, leb, ◌↔◌, List, [], ◌∷◌, ◌++◌, map, length, sym, refl, ap, ◌∙◌, subst, le_antisymm, arith}
use Rattle.std.proofs.lemmas.Bool.{eqb-true, eq-eqb, leb-true, le-leb}
use Rattle.drawing.specs.declared.words.Grid.{Grid}
use Rattle.drawing.specs.declared.words.Wire.{Wire}
use Rattle.drawing.specs.Lists.{keep}
use Rattle.drawing.specs.Plans.{within_limits}
use Rattle.drawing.specs.Steps.{steps}
use Rattle.measures.specs.Laws.{Laws}
use Rattle.pricing.specs.Allocations.{Laid, Book}
use Rattle.pricing.specs.Measures.{Measure}
use Rattle.pricing.specs.WirePrices.{wire_delay, wire_power}
use Rattle.frontier.specs.Lists.{each, undominated, ◌∈◌}
use Rattle.frontier.specs.States.{Kept, states, state_below}
use Rattle.frontier.specs.Stages.{extended, may_follow, extensions}
use Rattle.frontier.proofs.Members.{and_left, and_right, and_both, keep_in, keep_make, each_in, each_make, map_in, map_make}
use Rattle.frontier.proofs.Rows.{length_snoc, all_snoc}
use Rattle.frontier.proofs.Fronts.{Orders, front_in, front_covers, front_to, front_from}
use Rattle.frontier.proofs.Allocations.{drawn, among_make, next_in, next_make}
use Rattle.frontier.proofs.Reach.{LimitedWires, delay_small, step_small, state_reach}

module _ {V : Type 0} (m : Measure V) where
  -- one state at or below another of the same last space, part by part
  pub record Below (s r : Kept V) : Type 0 where
    pub last : s.last ≡ r.last
    pub used : s.used ≤ r.used
    pub power : s.power ≤ r.power
    pub delay : m.below s.delay r.delay ≡ true

  -- what the test says, part by part
  pub below_parts : (s r : Kept V) → state_below m s r ≡ true → Below s r
  below_parts s r t =
      let a = eqb s.last r.last in
      let b = leb s.used r.used in
      let c = leb s.power r.power in
      let d = m.below s.delay r.delay in
      let bcd = and_right a (b && (c && d)) t in
      let cd = and_right b (c && d) bcd in
      record {
        last = eqb-true _ _ (and_left a (b && (c && d)) t);
        used = leb-true _ _ (and_left b (c && d) bcd);
        power = leb-true _ _ (and_left c d cd);
        delay = and_right c d cd;
      }

  -- and the other way
  pub below_make : (s r : Kept V) → Below s r → state_below m s r ≡ true
  below_make s r h =
      let a = eqb s.last r.last in
      let b = leb s.used r.used in
      let c = leb s.power r.power in
      let d = m.below s.delay r.delay in
      and_both a (b && (c && d)) (eq-eqb _ _ h.last)
      (and_both b (c && d) (le-leb _ _ h.used) (and_both c d (le-leb _ _ h.power) h.delay))

module _ {V : Type 0} (m : Measure V) {reach : ℕ → V → Type 0} (laws : Laws m.empty m.made m.joined m.below reach) where
  -- the test orders the states whose delays are in reach
  pub state_orders : (n : ℕ) → n ≤ 24 → Orders (state_below m) (λ s. reach n s.delay)
  state_orders n h = record {
    same = λ s g. below_make m s s (record { last = refl; used = omega arith; power = omega arith; delay = laws.reflexive n s.delay h g });
    through = λ s r t gs gr gt p q.
        let a = below_parts m s r p in
        let b = below_parts m r t q in
        below_make m s t (record { last = a.last ∙ b.last; used = omega arith; power = omega arith; delay = laws.transitive n n n s.delay r.delay t.delay h h h gs gr gt a.delay b.delay });
    one = λ s r gs gr p q.
        let a = below_parts m s r p in
        let b = below_parts m r s q in
        let eu : s.used ≡ r.used = le_antisymm a.used b.used in
        let ep : s.power ≡ r.power = le_antisymm a.power b.power in
        let ed : s.delay ≡ r.delay = laws.antisymmetric n n s.delay r.delay h h gs gr a.delay b.delay in
        λ i. record { last = a.last i; used = eu i; power = ep i; delay = ed i };
  }

  module _ (book : Book) (grid : Grid) (channel : ℕ) where
    -- a state at or below another has an extension at or below each of the other's
    monotone : (n : ℕ) → n + 1 ≤ 24 → (q : Wire) → within_limits q ≡ true → (s s' t : Kept V) → reach n s.delay → reach n s'.delay →
        (state_below m s' s ≡ true) → t ∈ extensions m book grid channel q s → (t' : Kept V) × (t' ∈ extensions m book grid channel q s') × (state_below m t' t ≡ true)
    monotone n h q fit s s' t g g' b i =
        let o = below_parts m s' s b in
        let a = each_in (λ v. map (extended m q s v) (keep (may_follow book channel s v) (steps grid.spaces))) (steps grid.widths) i in
        let w = a.0 in
        let c = map_in (extended m q s w) (keep (may_follow book channel s w) (steps grid.spaces)) a.2 in
        let r = c.0 in
        let k = keep_in (may_follow book channel s w) (steps grid.spaces) c.1 in
        let lb = leb (s.used + w + r) channel in
        let admits : book s'.last w r ≡ true = subst (λ (l : ℕ). book l w r ≡ true) (sym o.last) (and_left (book s.last w r) lb k.1) in
        let room : s.used + w + r ≤ channel = leb-true _ _ (and_right (book s.last w r) lb k.1) in
        let room' : s'.used + w + r ≤ channel = omega (arith, o.used) in
        let f : may_follow book channel s' w r ≡ true = and_both (book s'.last w r) (leb (s'.used + w + r) channel) admits (le-leb _ _ room') in
        let y : Laid = record { wire = q; left = s.last; width = w; right = r } in
        let y' : Laid = record { wire = q; left = s'.last; width = w; right = r } in
        let ey : y' ≡ y = λ i. record { wire = q; left = o.last i; width = w; right = r } in
        let made = laws.made_reach (wire_delay y) q.t (delay_small y fit (step_small grid.widths w (among_make (steps grid.widths) a.1))) in
        let joined : m.below (m.joined s'.delay (m.made (wire_delay y) q.t)) (m.joined s.delay (m.made (wire_delay y) q.t)) ≡ true =
        laws.steady_right n n 1 s'.delay s.delay (m.made (wire_delay y) q.t) h h g' g made o.delay in
        let below : state_below m (extended m q s' w r) (extended m q s w r) ≡ true =
        below_make m (extended m q s' w r) (extended m q s w r) (record {
          last = refl;
          used = omega (arith, o.used);
          power = omega (arith, o.power, ap wire_power ey);
          delay = subst (λ (z : Laid). m.below (m.joined s'.delay (m.made (wire_delay z) q.t)) (m.joined s.delay (m.made (wire_delay y) q.t)) ≡ true) (sym ey) joined;
        }) in (
          extended m q s' w r,
          each_make (λ v. map (extended m q s' v) (keep (may_follow book channel s' v) (steps grid.spaces))) a.1
              (map_make (extended m q s' w) (keep_make (may_follow book channel s' w) k.0 f) refl),
          subst (λ (z : Kept V). state_below m (extended m q s' w r) z ≡ true) (sym c.2) below,
        )

    -- the kept states of one wire more
    pub next_kept : (qs : List Wire) (q : Wire) → LimitedWires (qs ++ (q ∷ [])) → (s : Kept V) →
        (s ∈ undominated (state_below m) (states m book (drawn grid channel (qs ++ (q ∷ []))))) ↔
        (s ∈ undominated (state_below m) (each (extensions m book grid channel q) (undominated (state_below m) (states m book (drawn grid channel qs)))))
    next_kept qs q ok s =
        let le = state_below m in
        let n = length qs in
        let n' = length (qs ++ (q ∷ [])) in
        let en : n' ≡ suc n = length_snoc qs q in
        let few : n' ≤ 24 = ok.few in
        let split = all_snoc within_limits qs q ok.limited in
        let before : LimitedWires qs = record { few = omega arith; limited = split.0 } in
        let old = states m book (drawn grid channel qs) in
        let new = states m book (drawn grid channel (qs ++ (q ∷ []))) in
        let part = each (extensions m book grid channel q) (undominated le old) in
        let o = state_orders n before.few in
        let o' = state_orders n' few in
        let good_old : (x : Kept V) → x ∈ old → reach n x.delay = state_reach m laws book (drawn grid channel qs) before in
        let good : (x : Kept V) → x ∈ new → reach n' x.delay = state_reach m laws book (drawn grid channel (qs ++ (q ∷ []))) ok in
        let sub : (x : Kept V) → x ∈ part → x ∈ new = λ x i.
        let a = each_in (extensions m book grid channel q) (undominated le old) i in
        next_make m book grid channel qs q (front_in le o old a.1).0 a.2 in
        let covers : (x : Kept V) → x ∈ new → (y : Kept V) × (y ∈ part) × (le y x ≡ true) = λ x i.
        let a = next_in m book grid channel qs q i in
        let c = front_covers le o old good_old a.1 in
        let t = monotone n (omega arith) q split.1 a.0 c.0 x (good_old a.0 a.1) (good_old c.0 (front_in le o old c.1).0) c.2 a.2 in
        (t.0, each_make (extensions m book grid channel q) {y = t.0} c.1 t.1, t.2) in
        (λ i. front_to le o' new part good sub covers i, λ i. front_from le o' new part good sub covers i)
