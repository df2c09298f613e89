-- The curve is the undominated part of the last stage's kept states, is what a curve is, and no other list is.
-- Assumes nothing.
use Rattle.std.proofs.Common.{◌≡◌, ℕ, suc, ◌<◌, ◌≤◌, true, leb, ◌⊎◌, ◌↔◌, List, [], ◌∷◌, ◌++◌, map, length, get_or, take, sym, refl, ap, ◌∙◌, subst, inl, inr, le_antisymm, arith, length-take, take_all, take-suc}
use mathlib.Core.List.Memᴰ
use Rattle.std.proofs.lemmas.Bool.{leb-true, le-leb}
use Rattle.drawing.specs.declared.words.Wire.{Wire}
use Rattle.drawing.specs.Lists.{keep}
use Rattle.drawing.specs.Plans.{Plan, within_limits}
use Rattle.drawing.proofs.Lists.{all_take}
use Rattle.measures.specs.Laws.{Laws}
use Rattle.pricing.specs.Allocations.{Allocation, Book, lawful}
use Rattle.pricing.specs.Measures.{Measure}
use Rattle.frontier.specs.declared.records.Point.{Point}
use Rattle.frontier.specs.Lists.{equals, spares, each, undominated, unbeaten, Rising, ◌∈◌}
use Rattle.frontier.specs.Points.{allocations, point_of, at_or_below, prices}
use Rattle.frontier.specs.Curves.{power_at, curve, IsCurve}
use Rattle.frontier.specs.States.{Kept, state_of, states, state_below, kept}
use Rattle.frontier.specs.Stages.{extensions, point_at}
use Rattle.frontier.proofs.Members.{and_left, and_right, and_both, implies, all_in, keep_in, keep_make, map_in, map_make}
use Rattle.frontier.proofs.Fronts.{Orders, front_in, front_covers, front_to, front_from}
use Rattle.frontier.proofs.Sorted.{rising_in, rising_make, rising_rises, same_rising, distinct_apart}
use Rattle.frontier.proofs.Allocations.{drawn, lawful_listed, states_in, states_make}
use Rattle.frontier.proofs.Reach.{LimitedWires, state_reach}
use Rattle.frontier.proofs.Extending.{state_orders, below_parts, next_kept}

-- fewer wires are within the same limits
pub limited_take : (j : ℕ) (qs : List Wire) → LimitedWires qs → LimitedWires (take j qs)
limited_take j qs ok = record { few = let h = ok.few in simp length-take (omega arith); limited = all_take within_limits j qs ok.limited }

module _ {V : Type 0} (m : Measure V) where
  -- what stands among the prices is the price of a lawful allocation
  pub prices_in : (book : Book) (d : Plan) {p : Point V} → p ∈ prices m book d → (x : Allocation) × (lawful book d x ≡ true) × (p ≡ point_of m d.wires x)
  prices_in book d i =
      let r = map_in (point_of m d.wires) (keep (lawful book d) (allocations d)) i in
      (r.0, (keep_in (lawful book d) (allocations d) r.1).1, r.2)

  -- and the other way
  pub prices_make : (book : Book) (d : Plan) (x : Allocation) {p : Point V} → lawful book d x ≡ true → p ≡ point_of m d.wires x → p ∈ prices m book d
  prices_make book d x t e = map_make (point_of m d.wires) (keep_make (lawful book d) (lawful_listed book d x t) t) e

module _ {V : Type 0} (m : Measure V) {reach : ℕ → V → Type 0} (laws : Laws m.empty m.made m.joined m.below reach) where
  -- the test orders the points whose delays are in reach
  pub price_orders : (n : ℕ) → n ≤ 24 → Orders (at_or_below m) (λ p. reach n p.delay)
  price_orders n h = record {
    same = λ p g. and_both (leb p.power p.power) (m.below p.delay p.delay) (le-leb _ _ (omega arith)) (laws.reflexive n p.delay h g);
    through = λ p q r gp gq gr a b.
        let a0 : p.power ≤ q.power = leb-true _ _ (and_left (leb p.power q.power) (m.below p.delay q.delay) a) in
        let b0 : q.power ≤ r.power = leb-true _ _ (and_left (leb q.power r.power) (m.below q.delay r.delay) b) in
        let ab : p.power ≤ r.power = omega arith in
        and_both (leb p.power r.power) (m.below p.delay r.delay) (le-leb _ _ ab)
        (laws.transitive n n n p.delay q.delay r.delay h h h gp gq gr (and_right (leb p.power q.power) (m.below p.delay q.delay) a) (and_right (leb q.power r.power) (m.below q.delay r.delay) b));
    one = λ p q gp gq a b.
        let ep : p.power ≡ q.power = le_antisymm (leb-true _ _ (and_left (leb p.power q.power) (m.below p.delay q.delay) a)) (leb-true _ _ (and_left (leb q.power p.power) (m.below q.delay p.delay) b)) in
        let ed : p.delay ≡ q.delay = laws.antisymmetric n n p.delay q.delay h h gp gq (and_right (leb p.power q.power) (m.below p.delay q.delay) a) (and_right (leb q.power p.power) (m.below q.delay p.delay) b) in
        λ i. record { power = ep i; delay = ed i };
  }

  module _ (book : Book) (d : Plan) (ok : LimitedWires d.wires) where
    -- the delay of a price
    pub price_reach : (p : Point V) → p ∈ prices m book d → reach (length d.wires) p.delay
    price_reach p i =
        let r = prices_in m book d i in
        subst (λ (z : Point V). reach (length d.wires) z.delay) (sym r.2)
        (state_reach m laws book d ok (state_of m d.wires r.0) (states_make m book d r.0 r.1 refl))

    -- the kept states of a stage, each with the next wire behind it, less those that are beaten, and the kept states of the next stage
    pub next_kept_holds : (j : ℕ) (q : Wire) → j < length d.wires → q ≡ get_or d.wires j q → (s : Kept V) →
        (s ∈ kept m book d (suc j)) ↔ (s ∈ undominated (state_below m) (each (extensions m book d.grid d.channel q) (kept m book d j)))
    next_kept_holds j q h eq s =
        let qs = d.wires in
        let e : take (suc j) qs ≡ take j qs ++ (q ∷ []) = take-suc qs j q h ∙ ap (λ z. take j qs ++ (z ∷ [])) (sym eq) in
        subst (λ (rs : List Wire). (s ∈ undominated (state_below m) (states m book (drawn d.grid d.channel rs))) ↔
        (s ∈ undominated (state_below m) (each (extensions m book d.grid d.channel q) (kept m book d j))))
        (sym e) (next_kept m laws book d.grid d.channel (take j qs) q (subst LimitedWires e (limited_take (suc j) qs ok)) s)

    -- the prices of the last stage's kept states, less those that are beaten, and the curve
    pub curve_of_kept_holds : (p : Point V) →
        (p ∈ curve m book d) ↔ (p ∈ undominated (at_or_below m) (map point_at (kept m book d (length d.wires))))
    curve_of_kept_holds p =
        let n = length d.wires in
        let le = at_or_below m in
        let lt = state_below m in
        let o = price_orders n ok.few in
        let so = state_orders m laws n ok.few in
        let all_states = states m book d in
        let last_kept = undominated lt all_states in
        let part = map (point_at) last_kept in
        let good = price_reach in
        let good_states : (s : Kept V) → s ∈ all_states → reach n s.delay = state_reach m laws book d ok in
        let sub : (x : Point V) → x ∈ part → x ∈ prices m book d = λ x i.
        let a = map_in (point_at) last_kept i in
        let b = states_in m book d (front_in lt so all_states a.1).0 in
        prices_make m book d b.0 b.1 (a.2 ∙ ap (point_at) b.2) in
        let covers : (x : Point V) → x ∈ prices m book d → (y : Point V) × (y ∈ part) × (le y x ≡ true) = λ x i.
        let a = prices_in m book d i in
        let s = state_of m d.wires a.0 in
        let c = front_covers lt so all_states good_states (states_make m book d a.0 {s = s} a.1 refl) in
        let b = below_parts m c.0 s c.2 in
        let below : le (point_at c.0) (point_at s) ≡ true = and_both (leb c.0.power s.power) (m.below c.0.delay s.delay) (le-leb _ _ b.power) b.delay in
        (point_at c.0, map_make (point_at) c.1 refl, subst (λ (z : Point V). le (point_at c.0) z ≡ true) (sym a.2) below) in
        let whole : take n d.wires ≡ d.wires = take_all n d.wires (omega arith) in
        let same : kept m book d n ≡ last_kept = ap (λ (rs : List Wire). undominated lt (states m book (drawn d.grid d.channel rs))) whole in
        let F : List (Kept V) → Type 0 = λ ks. p ∈ undominated le (map (point_at) ks) in (
          (λ i. subst F (sym same) (front_to le o (prices m book d) part good sub covers (rising_in power_at (undominated le (prices m book d)) i))),
          λ i. rising_make power_at (front_from le o (prices m book d) part good sub covers (subst F same i)),
        )

    -- every lawful price has one of the curve at or below it
    pub curve_covers : (x : Allocation) → lawful book d x ≡ true →
        (p : Point V) × (p ∈ curve m book d) × (at_or_below m p (point_of m d.wires x) ≡ true)
    curve_covers x t =
        let i = prices_make m book d x {p = point_of m d.wires x} t refl in
        let c = front_covers (at_or_below m) (price_orders (length d.wires) ok.few) (prices m book d) price_reach i in
        (c.0, rising_make power_at c.1, c.2)

    -- what stands on the curve is a price that no other beats
    on_curve : (p : Point V) → p ∈ curve m book d → (p ∈ prices m book d) × (unbeaten (at_or_below m) (prices m book d) p ≡ true)
    on_curve p i =
        front_in (at_or_below m) (price_orders (length d.wires) ok.few) (prices m book d)
        (rising_in power_at (undominated (at_or_below m) (prices m book d)) i)

    -- of two unbeaten prices of the same power each is at or below the other
    alike : (x y : Point V) → x ∈ keep (unbeaten (at_or_below m) (prices m book d)) (prices m book d) →
        y ∈ keep (unbeaten (at_or_below m) (prices m book d)) (prices m book d) → x.power ≡ y.power → equals (at_or_below m) x y ≡ true
    alike x y i j e =
        go (laws.entire n n x.delay y.delay ok.few ok.few (price_reach x a.0) (price_reach y b.0))
      where
        n : ℕ
        n = length d.wires

        a : (x ∈ prices m book d) × (unbeaten (at_or_below m) (prices m book d) x ≡ true)
        a = keep_in (unbeaten (at_or_below m) (prices m book d)) (prices m book d) i

        b : (y ∈ prices m book d) × (unbeaten (at_or_below m) (prices m book d) y ≡ true)
        b = keep_in (unbeaten (at_or_below m) (prices m book d)) (prices m book d) j

        go : (m.below x.delay y.delay ≡ true) ⊎ (m.below y.delay x.delay ≡ true) → equals (at_or_below m) x y ≡ true
        go (inl t) =
            let xy : at_or_below m x y ≡ true = and_both (leb x.power y.power) (m.below x.delay y.delay) (le-leb _ _ (omega arith)) t in
            and_both (at_or_below m x y) (at_or_below m y x) xy (implies (at_or_below m x y) (at_or_below m y x) (all_in (spares (at_or_below m) y) a.0 b.1) xy)
        go (inr t) =
            let yx : at_or_below m y x ≡ true = and_both (leb y.power x.power) (m.below y.delay x.delay) (le-leb _ _ (omega arith)) t in
            and_both (at_or_below m x y) (at_or_below m y x) (implies (at_or_below m y x) (at_or_below m x y) (all_in (spares (at_or_below m) x) b.0 a.1) yx) yx

    -- power rises strictly along the curve
    pub curve_rises : Rising power_at (curve m book d)
    curve_rises =
        rising_rises power_at (undominated (at_or_below m) (prices m book d))
        (distinct_apart power_at (at_or_below m) (keep (unbeaten (at_or_below m) (prices m book d)) (prices m book d)) alike)

    -- the list that is computed is the curve
    pub curve_is : IsCurve m book d (curve m book d)
    curve_is = record {
      covers = curve_covers;
      attained = λ p i.
          let a = prices_in m book d (on_curve p i).0 in
          (a.0, a.1, sym a.2);
      alone = λ p q i j b.
          let f = on_curve p i in
          let g = on_curve q j in
          (price_orders (length d.wires) ok.few).one q p (price_reach q g.0) (price_reach p f.0) b
          (implies (at_or_below m q p) (at_or_below m p q) (all_in (spares (at_or_below m) p) g.0 f.1) b);
      in_order = curve_rises;
    }

    -- a point of one list that is the curve stands in every other
    within_curve : (xs ys : List (Point V)) → IsCurve m book d xs → IsCurve m book d ys → (p : Point V) → p ∈ xs → p ∈ ys
    within_curve xs ys h k p i =
        let o = price_orders (length d.wires) ok.few in
        let a = h.attained p i in
        let c = k.covers a.0 a.1 in
        let q = c.0 in
        let b = k.attained q c.1 in
        let e = h.covers b.0 b.1 in
        let r = e.0 in
        let f = h.attained r e.1 in
        let good_p = price_reach p (prices_make m book d a.0 a.1 (sym a.2)) in
        let good_q = price_reach q (prices_make m book d b.0 b.1 (sym b.2)) in
        let good_r = price_reach r (prices_make m book d f.0 f.1 (sym f.2)) in
        let qp : at_or_below m q p ≡ true = subst (λ (z : Point V). at_or_below m q z ≡ true) a.2 c.2 in
        let rq : at_or_below m r q ≡ true = subst (λ (z : Point V). at_or_below m r z ≡ true) b.2 e.2 in
        let rp : r ≡ p = h.alone p r i e.1 (o.through r q p good_r good_q good_p rq qp) in
        let pq : at_or_below m p q ≡ true = subst (λ (z : Point V). at_or_below m z q ≡ true) rp rq in
        Memᴰ.cast (o.one p q good_p good_q pq qp) c.1

    -- two lists that are the curve are one
    pub curve_unique : (xs ys : List (Point V)) → IsCurve m book d xs → IsCurve m book d ys → xs ≡ ys
    curve_unique xs ys h k = same_rising power_at xs ys h.in_order k.in_order (within_curve xs ys h k) (within_curve ys xs k h)
