-- Lists with none twice and the same members are equally long; so the kept states of a stage have one count. Assumes nothing.
use Rattle.std.proofs.Common.{◌≡◌, ℕ, suc, ◌<◌, ◌≤◌, Bool, true, false, not, ◌⊎◌, ◌↔◌, List, [], ◌∷◌, ◌++◌, length, get_or, take, sym, refl, ap, ◌∙◌, subst, inl, inr, le_antisymm, arith, take-suc}
use mathlib.Core.List.Memᴰ
use Rattle.drawing.specs.declared.words.Wire.{Wire}
use Rattle.drawing.specs.Lists.{keep}
use Rattle.drawing.specs.Plans.{Plan}
use Rattle.measures.specs.Laws.{Laws}
use Rattle.pricing.specs.Lists.{some_is}
use Rattle.pricing.specs.Allocations.{Book}
use Rattle.pricing.specs.Measures.{Measure}
use Rattle.frontier.specs.Lists.{◌∈◌, Fresh, put, equals, spares, each, distinct, unbeaten, undominated}
use Rattle.frontier.specs.States.{Kept, state_of, states, state_below, first, kept, IsKept, KeptRow}
use Rattle.frontier.specs.Stages.{extensions, KeptIs, KeptCounted, RowNext}
use Rattle.frontier.proofs.Members.{and_both, never_both, implies, implied, all_in, all_make, some_make, keep_in, each_in, each_make}
use Rattle.frontier.proofs.Fronts.{Orders, distinct_in, front_in, front_make}
use Rattle.frontier.proofs.Allocations.{drawn, states_in, states_make, next_make}
use Rattle.frontier.proofs.Reach.{LimitedWires, state_reach}
use Rattle.frontier.proofs.Extending.{state_orders}
use Rattle.frontier.proofs.OneCurve.{limited_take, next_kept_holds}

module _ {A : Type 0} where
  -- ys without the place of one of its members
  without : {x : A} {ys : List A} → x ∈ ys → List A
  without (Memᴰ.head {xs = ys} e) = ys
  without (Memᴰ.tail {x = y} i) = y ∷ without i

  -- it is one shorter
  without_length : {x : A} {ys : List A} (i : x ∈ ys) → length ys ≡ suc (length (without i))
  unfolding without
  without_length (Memᴰ.head e) = refl
  without_length (Memᴰ.tail i) = ap suc (without_length i)

  -- every other member is still there
  without_other : {x z : A} {ys : List A} (i : x ∈ ys) → z ∈ ys → (z ≡ x) ⊎ (z ∈ without i)
  unfolding without
  without_other {x} {z} (Memᴰ.head {x = y} {xs = ys} e) j = one (Memᴰ.cases_cons j)
    where
      one : (z ≡ y) ⊎ (z ∈ ys) → (z ≡ x) ⊎ (z ∈ ys)
      one (inl f) = inl (f ∙ sym e)
      one (inr k) = inr k
  without_other {x} {z} (Memᴰ.tail {x = y} {xs = ys} i) j = two (Memᴰ.cases_cons j) (without_other {z = z} i)
    where
      deeper : (z ≡ x) ⊎ (z ∈ without i) → (z ≡ x) ⊎ (z ∈ (y ∷ without i))
      deeper (inl f) = inl f
      deeper (inr k) = inr (Memᴰ.tail k)

      two : (z ≡ y) ⊎ (z ∈ ys) → (z ∈ ys → (z ≡ x) ⊎ (z ∈ without i)) → (z ≡ x) ⊎ (z ∈ (y ∷ without i))
      two (inl f) rest = inr (Memᴰ.head f)
      two (inr k) rest = deeper (rest k)

  -- a list with none twice is no longer than one that has its members
  pub count_le : (xs ys : List A) → Fresh xs → ((z : A) → z ∈ xs → z ∈ ys) → length xs ≤ length ys
  count_le [] ys f sub = omega arith
  count_le (x ∷ xs) ys f sub =
      let i = sub x (Memᴰ.head refl) in
      let rest = count_le xs (without i) f.1 (λ z j. other z j (without_other i (sub z (Memᴰ.tail j)))) in
      omega (arith, without_length i)
    where
      other : (z : A) → z ∈ xs → (z ≡ x) ⊎ (z ∈ without (sub x (Memᴰ.head refl))) → z ∈ without (sub x (Memᴰ.head refl))
      other z j (inl e) = absurd (f.0 (Memᴰ.cast (sym e) j))
      other z j (inr k) = k

  -- lists with none twice and the same members are equally long
  pub same_count : (xs ys : List A) → Fresh xs → Fresh ys → ((z : A) → z ∈ xs → z ∈ ys) → ((z : A) → z ∈ ys → z ∈ xs) → length xs ≡ length ys
  same_count xs ys f g to from = le_antisymm (count_le xs ys f to) (count_le ys xs g from)

  -- where each element is at or below itself, none stands twice once equals are dropped
  pub distinct_fresh : (le : A → A → Bool) (xs : List A) → ((x : A) → x ∈ xs → (le x x ≡ true)) → Fresh (distinct le xs)
  distinct_fresh le [] h = tt
  distinct_fresh le (x ∷ xs) h = go (some_is (equals le x) xs) new (distinct_fresh le xs (λ y i. h y (Memᴰ.tail i)))
    where
      new : not (some_is (equals le x) xs) ≡ true → x ∈ distinct le xs → ⊥
      new t i =
          let s = h x (Memᴰ.head refl) in
          never_both (some_is (equals le x) xs) t (some_make (equals le x) (distinct_in le xs i) (and_both (le x x) (le x x) s s))

      go : (b : Bool) → (not b ≡ true → x ∈ distinct le xs → ⊥) → Fresh (distinct le xs) → Fresh (put (not b) x (distinct le xs))
      go true n rest = rest
      go false n rest = (n refl, rest)

module _ {V : Type 0} (m : Measure V) {reach : ℕ → V → Type 0} (laws : Laws m.empty m.made m.joined m.below reach) (book : Book) where
  module _ (d : Plan) (ok : LimitedWires d.wires) where
    -- the delays of the states are in reach
    pub good : (s : Kept V) → s ∈ states m book d → reach (length d.wires) s.delay
    good = state_reach m laws book d ok

    -- the test orders the states
    pub orders : Orders (state_below m) (λ s. reach (length d.wires) s.delay)
    orders = state_orders m laws (length d.wires) ok.few

    -- the undominated states are the kept ones
    pub front_is : (s : Kept V) → (s ∈ undominated (state_below m) (states m book d)) ↔ IsKept m book d s
    front_is s = (to, from)
      where
        to : s ∈ undominated (state_below m) (states m book d) → IsKept m book d s
        to i =
            let f = front_in (state_below m) orders (states m book d) i in
            let a = states_in m book d f.0 in
            record {
              of = a.0;
              lawful_one = a.1;
              at = sym a.2;
              alone = λ x t b.
                  let v = state_of m d.wires x in
                  let j = states_make m book d x {s = v} t refl in
                  orders.one v s (good v j) (good s f.0) b (implies (state_below m v s) (state_below m s v) (all_in (spares (state_below m) s) j f.1) b);
            }

        from : IsKept m book d s → s ∈ undominated (state_below m) (states m book d)
        from c =
            let i = states_make m book d c.of c.lawful_one (sym c.at) in
            front_make (state_below m) orders (states m book d) good i
            (all_make (spares (state_below m) s) (states m book d) (λ z j.
            implied (state_below m z s) (state_below m s z) (λ b.
            let a = states_in m book d j in
            let e : z ≡ s = a.2 ∙ c.alone a.0 a.1 (subst (λ (v : Kept V). state_below m v s ≡ true) a.2 b) in
            subst (λ (v : Kept V). state_below m s v ≡ true) (sym e) (orders.same s (good s i)))))

    -- the undominated states are exactly the kept ones, none twice
    pub front_row : KeptRow m book d (undominated (state_below m) (states m book d))
    front_row = record {
      exactly = front_is;
      fresh = distinct_fresh (state_below m) (keep (unbeaten (state_below m) (states m book d)) (states m book d))
          (λ s i. orders.same s (good s (keep_in (unbeaten (state_below m) (states m book d)) (states m book d) i).0));
    }

    -- every list of exactly the kept states is as long
    pub row_count : (row : List (Kept V)) → KeptRow m book d row → length row ≡ length (undominated (state_below m) (states m book d))
    row_count row h =
        same_count row (undominated (state_below m) (states m book d)) h.fresh front_row.fresh
        (λ s i. (front_is s).1 ((h.exactly s).0 i)) (λ s i. (h.exactly s).1 ((front_is s).0 i))

  module _ (d : Plan) (ok : LimitedWires d.wires) where
    -- the computed kept states are the kept states, at each stage
    pub kept_is_holds : KeptIs m book d
    kept_is_holds j = front_row (first j d) (limited_take j d.wires ok)

    -- every list of exactly the kept states is as long, at each stage
    pub kept_counted_holds : KeptCounted m book d
    kept_counted_holds j row h = row_count (first j d) (limited_take j d.wires ok) row h

    -- the states of the next stage hold the extensions of this one's
    extension_in : (j : ℕ) (q : Wire) → j < length d.wires → q ≡ get_or d.wires j q → (s t : Kept V) → s ∈ kept m book d j →
        t ∈ extensions m book d.grid d.channel q s → t ∈ states m book (first (suc j) d)
    extension_in j q h eq s t i k =
        let qs = d.wires in
        let e : take (suc j) qs ≡ take j qs ++ (q ∷ []) = take-suc qs j q h ∙ ap (λ z. take j qs ++ (z ∷ [])) (sym eq) in
        let o = orders (first j d) (limited_take j qs ok) in
        let there = next_make m book d.grid d.channel (take j qs) q (front_in (state_below m) o (states m book (first j d)) i).0 k in
        subst (λ (rs : List Wire). t ∈ states m book (drawn d.grid d.channel rs)) (sym e) there

    -- the kept states of the next stage, from any list of those of this one
    pub row_next_holds : RowNext m book d
    row_next_holds j q h eq row row' r fresh' same = record { exactly = λ s. (to s, from s); fresh = fresh' }
      where
        ext : Kept V → List (Kept V)
        ext = extensions m book d.grid d.channel q

        ok_j : LimitedWires (take j d.wires)
        ok_j = limited_take j d.wires ok

        ok_next : LimitedWires (take (suc j) d.wires)
        ok_next = limited_take (suc j) d.wires ok

        row_kept : (s : Kept V) → s ∈ row → s ∈ kept m book d j
        row_kept s i = (front_is (first j d) ok_j s).1 ((r.exactly s).0 i)

        kept_row : (s : Kept V) → s ∈ kept m book d j → s ∈ row
        kept_row s i = (r.exactly s).1 ((front_is (first j d) ok_j s).0 i)

        across : (xs ys : List (Kept V)) → ((s : Kept V) → s ∈ xs → s ∈ kept m book d j) → ((s : Kept V) → s ∈ ys → s ∈ kept m book d j) → ((s : Kept V) → s ∈ xs → s ∈ ys) → ((s : Kept V) → s ∈ ys → s ∈ xs) →
            (t : Kept V) → t ∈ undominated (state_below m) (each ext xs) → t ∈ undominated (state_below m) (each ext ys)
        across xs ys in-x in-y xy yx t i =
            let o = orders (first (suc j) d) ok_next in
            let f = front_in (state_below m) o (each ext xs) i in
            let a = each_in ext xs f.0 in
            front_make (state_below m) o (each ext ys)
            (λ u k. let b = each_in ext ys k in good (first (suc j) d) ok_next u (extension_in j q h eq b.0 u (in-y b.0 b.1) b.2))
            (each_make ext (xy a.0 a.1) a.2)
            (all_make (spares (state_below m) t) (each ext ys) (λ z k.
            let b = each_in ext ys k in
            all_in (spares (state_below m) t) (each_make ext (yx b.0 b.1) b.2) f.1))

        to : (s : Kept V) → s ∈ row' → IsKept m book (first (suc j) d) s
        to s i =
            let a = across row (kept m book d j) row_kept (λ s i. i) row_kept kept_row s ((same s).0 i) in
            (front_is (first (suc j) d) ok_next s).0 ((next_kept_holds m laws book d ok j q h eq s).1 a)

        from : (s : Kept V) → IsKept m book (first (suc j) d) s → s ∈ row'
        from s c =
            let a = (next_kept_holds m laws book d ok j q h eq s).0 ((front_is (first (suc j) d) ok_next s).1 c) in
            (same s).1 (across (kept m book d j) row (λ s i. i) row_kept kept_row row_kept s a)
