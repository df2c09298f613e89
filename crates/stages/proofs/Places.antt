-- Places of a table against members of lists: what is sifted is what nothing else is at or below. Assumes nothing.
use Rattle.std.proofs.Common.{◌≡◌, ℕ, zero, suc, ◌+◌, ◌-◌, ◌<◌, ◌≤◌, Bool, true, leb, List, [], ◌∷◌, map, length, get_or, take, drop, sym, refl, ap, ◌∙◌, subst, le_of_suc-le-suc, not-suc-le-zero, le_antisymm, arith, length-drop, length-take, get_or-drop, get_or-take}
use mathlib.Core.List.Memᴰ
use lib.ListN.{length-map}
use Rattle.std.proofs.lemmas.List.{get_or-map}
use Rattle.std.proofs.lemmas.Bool.{leb-true}
use Rattle.drawing.specs.declared.words.Grid.{Grid}
use Rattle.drawing.specs.declared.words.Wire.{Wire}
use Rattle.drawing.specs.Lists.{keep}
use Rattle.drawing.specs.Plans.{within_limits}
use Rattle.drawing.specs.Steps.{steps}
use Rattle.measures.specs.Laws.{Laws}
use Rattle.pricing.specs.Allocations.{Book, is_step_of}
use Rattle.pricing.specs.Measures.{Measure}
use Rattle.pricing.proofs.Steps.{step_from}
use Rattle.frontier.specs.declared.records.State.{State}
use Rattle.frontier.specs.Lists.{◌∈◌, Fresh, spares, undominated}
use Rattle.frontier.specs.States.{Kept, kept_of, state_below}
use Rattle.frontier.specs.Stages.{extended, may_follow, extensions}
use Rattle.frontier.proofs.Members.{and_left, and_right, all_in, all_make, implies, implied, keep_in, keep_make, each_in, each_make, map_in, map_make}
use Rattle.frontier.proofs.Fronts.{Orders, front_in, front_make}
use Rattle.frontier.proofs.Allocations.{among_in, among_make}
use Rattle.frontier.proofs.Extending.{below_parts}
use Rattle.frontier.proofs.Counts.{count_le}
use Rattle.stages.specs.Table.{Step, rows, blank, slot, at, Standing, Offered, Sifted, Before, all_offers, Next, Between}
use Rattle.stages.proofs.Order.{Near, below_same, below_through}
use Rattle.stages.proofs.Sift.{offer_near}

module _ {A : Type 0} where
  -- what stands in a list stands at a place
  pub member_at : (xs : List A) (d : A) {x : A} → x ∈ xs → (k : ℕ) × (k < length xs) × (x ≡ get_or xs k d)
  member_at [] d i = elim i [ ]
  member_at (y ∷ ys) d (Memᴰ.head e) = (0, omega arith, e)
  member_at (y ∷ ys) d (Memᴰ.tail i) = let r = member_at ys d i in (suc r.0, omega (arith, r.1), r.2)

  -- and the other way
  pub at_member : (xs : List A) (k : ℕ) (d : A) → k < length xs → get_or xs k d ∈ xs
  at_member [] k d h = absurd (not-suc-le-zero h)
  at_member (y ∷ ys) zero d h = Memᴰ.head refl
  at_member (y ∷ ys) (suc k) d h = Memᴰ.tail (at_member ys k d (le_of_suc-le-suc h))

  -- a list whose places all differ has none twice
  pub fresh_from : (xs : List A) (d : A) → ((k k' : ℕ) → k < k' → k' < length xs → get_or xs k d ≡ get_or xs k' d → ⊥) → Fresh xs
  fresh_from [] d h = tt
  fresh_from (y ∷ ys) d h = (
    λ i. let r = member_at ys d i in h 0 (suc r.0) (omega arith) (omega (arith, r.1)) r.2,
    fresh_from ys d (λ k k' l j e. h (suc k) (suc k') (omega arith) (omega arith) e),
  )

module _ {V : Type 0} (m : Measure V) (t : List (State V)) (b end : ℕ) (low : b ≤ end) (high : end ≤ length t) where
  -- the rows by number
  pub rows_length : length (rows t b end) ≡ end - b
  rows_length = simp (length-map, length-take, length-drop) (omega arith)

  -- the rows by place
  pub rows_at : (k : ℕ) (d : Kept V) → k < end - b → get_or (rows t b end) k d ≡ at m t (b + k)
  rows_at k d h =
      let part = take (end - b) (drop b t) in
      let long : k < length part = simp (length-take, length-drop) (omega arith) in
      get_or-map kept_of part k (blank m) d long ∙ ap kept_of (get_or-take (end - b) (drop b t) k (blank m) h ∙ get_or-drop b t k (blank m))

  -- a row stands at a place of the table
  pub rows_in : {x : Kept V} → x ∈ rows t b end → (k : ℕ) × (b ≤ k) × (k < end) × (x ≡ at m t k)
  rows_in {x} i =
      let r = member_at (rows t b end) x i in
      let lt : r.0 < end - b = omega (arith, r.1, rows_length) in
      (b + r.0, omega arith, omega arith, r.2 ∙ rows_at r.0 x lt)

  -- and the other way
  pub rows_make : (k : ℕ) → b ≤ k → k < end → at m t k ∈ rows t b end
  rows_make k h l =
      let d = at m t k in
      let lt : k - b < end - b = omega arith in
      let e : b + (k - b) ≡ k = omega arith in
      let is : get_or (rows t b end) (k - b) d ≡ at m t k = rows_at (k - b) d lt ∙ ap (at m t) e in
      Memᴰ.cast (sym is) (at_member (rows t b end) (k - b) d (omega (arith, rows_length)))

  -- the rows of places that all differ
  pub rows_fresh : ((k k' : ℕ) → b ≤ k → k < k' → k' < end → at m t k ≡ at m t k' → ⊥) → Fresh (rows t b end)
  rows_fresh h = fresh_from (rows t b end) (kept_of (blank m)) (λ k k' l j e.
      let lt' : k' < end - b = omega (arith, rows_length) in
      let lt : k < end - b = omega arith in
      h (b + k) (b + k') (omega arith) (omega arith) (omega arith) (sym (rows_at k (kept_of (blank m)) lt) ∙ e ∙ rows_at k' (kept_of (blank m)) lt'))

-- a step of a grid byte is from 1 to 6
pub step_in : (byte w : ℕ) → is_step_of byte w ≡ true → Step w
step_in byte w t =
    let on = step_from byte w t in
    (leb-true 1 w (and_left (leb 1 w) (leb w 6) on), leb-true w 6 (and_right (leb 1 w) (leb w 6) on))

module _ {V : Type 0} (m : Measure V) {reach : ℕ → V → Type 0} (laws : Laws m.empty m.made m.joined m.below reach) (book : Book) (grid : Grid) (channel : ℕ) (q : Wire) (fits : within_limits q ≡ true)
    (t : List (State V)) (a b : ℕ) (st : Standing m reach channel t a b) (low : a ≤ b) (high : b ≤ length t) where
  -- a lawful offer
  abbrev O : ℕ → ℕ → ℕ → Type 0
  O i w r = Offered m book grid channel q t a b i w r

  -- what counts of an offer
  abbrev off : ℕ → ℕ → ℕ → Kept V
  off i w r = extended m q (at m t i) w r

  -- at or below
  abbrev le : Kept V → Kept V → Bool
  le = state_below m

  -- all offers
  abbrev offers : List (Kept V)
  offers = all_offers m book grid channel q t a b

  -- what is offered is a lawful offer
  pub offers_in : {x : Kept V} → x ∈ offers → (i : ℕ) × (w : ℕ) × (r : ℕ) × O i w r × (x ≡ off i w r)
  offers_in {x} i =
      let ext = extensions m book grid channel q in
      let s = each_in ext (rows t a b) i in
      let p = rows_in m t a b low high s.1 in
      let o = at m t p.0 in
      let j = subst (λ (z : Kept V). x ∈ extensions m book grid channel q z) p.3 s.2 in
      let w = each_in (λ v. map (extended m q o v) (keep (may_follow book channel o v) (steps grid.spaces))) (steps grid.widths) j in
      let r = map_in (extended m q o w.0) (keep (may_follow book channel o w.0) (steps grid.spaces)) w.2 in
      let k = keep_in (may_follow book channel o w.0) (steps grid.spaces) r.1 in
      let wi = among_make (steps grid.widths) {x = w.0} w.1 in
      let ri = among_make (steps grid.spaces) {x = r.0} k.0 in
      (p.0, w.0, r.0, record { low = p.1; high = p.2; width = step_in grid.widths w.0 wi; width_in = wi; space = step_in grid.spaces r.0 ri; space_in = ri; follows = k.1 }, r.2)

  -- and the other way
  offers_make : (i w r : ℕ) → O i w r → off i w r ∈ offers
  offers_make i w r o =
      let s = at m t i in
      each_make (extensions m book grid channel q) (rows_make m t a b low high i o.low o.high)
      (each_make (λ v. map (extended m q s v) (keep (may_follow book channel s v) (steps grid.spaces))) (among_in (steps grid.widths) w o.width_in)
      (map_make (extended m q s w) (keep_make (may_follow book channel s w) (among_in (steps grid.spaces) r o.space_in) o.follows) refl))

  -- at or below orders what is in reach
  pub orders : Orders le (Near reach)
  orders = record {
    same = λ x g. below_same m laws x g;
    through = λ x y z gx gy gz p r. below_through m laws x y z gx gy gz p r;
    one = λ x y gx gy p r.
        let c = below_parts m x y p in
        let d = below_parts m y x r in
        let eu : x.used ≡ y.used = le_antisymm c.used d.used in
        let ep : x.power ≡ y.power = le_antisymm c.power d.power in
        let ed : x.delay ≡ y.delay = laws.antisymmetric gx.0 gy.0 x.delay y.delay gx.1 gy.1 gx.2 gy.2 c.delay d.delay in
        λ i. record { last = c.last i; used = eu i; power = ep i; delay = ed i };
  }

  -- every offer is in reach
  pub offers_good : (x : Kept V) → x ∈ offers → Near reach x
  offers_good x i =
      let o = offers_in i in
      subst (λ (z : Kept V). Near reach z) (sym o.4) (offer_near m laws book grid channel q fits t a b st o.0 o.1 o.2 o.3)

  module _ (Done : ℕ → ℕ → ℕ → Type 0) (s : ℕ) (t' : List (State V)) (end : ℕ) (S : Sifted m book grid channel q t a b Done s t' end) (low' : b ≤ end) (high' : end ≤ length t') where
    -- what is held is undominated
    pub sifted_in : (x : Kept V) → x ∈ rows t' b end → x ∈ undominated le offers
    sifted_in x i =
        let p = rows_in m t' b end low' high' i in
        let k = p.0 in
        let made = S.made k p.1 p.2 in
        let is : x ≡ off (slot m t' k).from (slot m t' k).width (at m t' k).last = p.3 ∙ made.is in
        let there : x ∈ offers = Memᴰ.cast is (offers_make (slot m t' k).from (slot m t' k).width (at m t' k).last made.offered) in
        front_make le orders offers offers_good there
        (all_make (spares le x) offers (λ y j.
        implied (le y x) (le x y) (λ below.
        let o = offers_in j in
        let below' : le (off o.0 o.1 o.2) (at m t' k) ≡ true = subst (λ (z : Kept V). le z (at m t' k) ≡ true) o.4 (subst (λ (z : Kept V). le y z ≡ true) p.3 below) in
        let e : y ≡ x = o.4 ∙ S.alone k p.1 p.2 o.0 o.1 o.2 o.3 below' ∙ sym p.3 in
        subst (λ (z : Kept V). le x z ≡ true) (sym e) (below_same m laws x (offers_good x there)))))

    -- and stands once
    pub sifted_fresh : Fresh (rows t' b end)
    sifted_fresh = rows_fresh m t' b end low' high' S.fresh

    -- so no more is held than is undominated
    pub sifted_count : end - b ≤ length (undominated le offers)
    sifted_count = let c = count_le (rows t' b end) (undominated le offers) sifted_fresh sifted_in in omega (arith, rows_length m t' b end low' high')

    -- where all offers are done, all that is undominated is held
    pub sifted_all : ((i w r : ℕ) → O i w r → Done i w r) → (x : Kept V) → x ∈ undominated le offers → x ∈ rows t' b end
    sifted_all done x i =
        let f = front_in le orders offers i in
        let o = offers_in f.0 in
        let c = S.covered o.0 o.1 o.2 o.3 (done o.0 o.1 o.2 o.3) in
        let k = c.0 in
        let below : le (at m t' k) x ≡ true = subst (λ (z : Kept V). le (at m t' k) z ≡ true) (sym o.4) c.3 in
        let made = S.made k c.1 c.2 in
        let y = off (slot m t' k).from (slot m t' k).width (at m t' k).last in
        let j : at m t' k ∈ offers = Memᴰ.cast made.is (offers_make (slot m t' k).from (slot m t' k).width (at m t' k).last made.offered) in
        let over : le x (at m t' k) ≡ true = implies (le (at m t' k) x) (le x (at m t' k)) (all_in (spares le x) j f.1) below in
        let e : x ≡ at m t' k = orders.one x (at m t' k) (offers_good x f.0) (offers_good (at m t' k) j) over below in
        Memᴰ.cast e (rows_make m t' b end low' high' k c.1 c.2)

  -- all six spaces are done
  pub next : (t' : List (State V)) (end : ℕ) → Between m book grid channel q t a b 7 t' end → Next m book grid channel q t a b t' end
  next t' end B =
      let S = B.sifted in
      record {
        low = B.low;
        high = B.high;
        made = S.made;
        exactly = λ x. (
          λ i. sifted_in (Before m book grid channel q t a b 7) 7 t' end S B.low B.high x i,
          λ i. sifted_all (Before m book grid channel q t a b 7) 7 t' end S B.low B.high (λ i w r o. omega (arith, o.space.1)) x i,
        );
        fresh = sifted_fresh (Before m book grid channel q t a b 7) 7 t' end S B.low B.high;
        ordered = λ k k' h i j. (S.ordered k k' h i j).1;
      }
