-- The least row over six runs in each of which power does not fall. Assumes nothing.
use Rattle.std.proofs.Common.{◌≡◌, ℕ, zero, suc, ◌+◌, ◌<◌, ◌≤◌, true, false, ◌⊎◌, List, [], ◌∷◌, length, get_or, set, Some, None, Option, sym, refl, ap, ◌∙◌, subst, inl, inr, arith, length-set, get_or-set_other, get_or-set_same}
use Rattle.std.proofs.lemmas.Bool.{cases_lt, cases_eq, both_ways}
use Rattle.std.specs.Prelude.{MatchOption, unwrap_or}
use Rattle.std.specs.Iterator.{Yields, Drains}
use Rattle.measures.specs.Laws.{Laws}
use Rattle.pricing.specs.Measures.{Measure}
use Rattle.frontier.specs.declared.records.Point.{Point}
use Rattle.frontier.specs.declared.records.State.{State}
use Rattle.frontier.proofs.Members.{map_in, map_make}
use Rattle.frontier.specs.Orders.{blank_state, point_upto}
use Rattle.solver.specs.Front.{row_at, point_in, points_in, InReach, Known, ahead, front, LeastIn, Runs, FirstAhead, Head, Heads, Going}
use Rattle.solver.proofs.FrontSteps.{placed, stands, further}
use Rattle.solver.proofs.Bests.{good, joined, next_point, next_known}

-- the first place at which a test passes is the first row ahead
pub first_of : {V : Type 0} (m : Measure V) (e : V) (rows : List (State V)) (o : Option V) (from to : ℕ) → from ≤ to → (r : Option ℕ) →
    MatchOption r ((k : ℕ) → from ≤ k → k < to → ahead m o (row_at e rows k).delay ≡ false)
    (λ i. (from ≤ i) × (i < to) × (ahead m o (row_at e rows i).delay ≡ true) × ((k : ℕ) → from ≤ k → k < i → ahead m o (row_at e rows k).delay ≡ false)) →
    FirstAhead m e rows o from to (unwrap_or r to)
first_of m e rows o from to h None none = record { low = h; high = omega arith; skipped = λ i a b. both_ways _ (none i a b); here = λ k. absurd (omega arith) }
first_of m e rows o from to h (Some r) (low, high, t, none) = record { low = low; high = omega arith; skipped = λ i a b. both_ways _ (none i a b); here = λ k. t }

module _ {V : Type 0} (m : Measure V) {reach : ℕ → V → Type 0} (laws : Laws m.empty m.made m.joined m.below reach) (e : V) (rows : List (State V)) (fine : InReach reach (points_in rows)) (o : Option V)
    (cuts : List ℕ) (runs : Runs e rows cuts) (k : ℕ) (six : k < 6)
    (head : ℕ) (was : Head m e rows cuts o k head) (h : ℕ) (first : FirstAhead m e rows o head (get_or cuts (k + 1) 0) h) where
  -- what lies before the head is not ahead
  passed : (i : ℕ) → get_or cuts k 0 ≤ i → i < h → ahead m o (row_at e rows i).delay ≡ true → ⊥
  passed i low lt t = go (cases_lt i head)
    where
      go : (i < head) ⊎ (head ≤ i) → ⊥
      go (inl s) = was.done i low s t
      go (inr s) = first.skipped i s lt t

  -- the head moved
  pub head_new : Head m e rows cuts o k h
  head_new = record { low = let x = was.low in let y = first.low in omega arith; high = first.high; done = passed }

  -- the least of the run
  pub run_least : (x : Option ℕ) → LeastIn m e rows o h (get_or cuts (k + 1) 0) x → LeastIn m e rows o (get_or cuts k 0) (get_or cuts (k + 1) 0) x
  run_least x p =
      let low = head_new.low in
      let long = runs.inside (k + 1) (omega arith) in
      joined m laws e rows fine o (get_or cuts k 0) h (get_or cuts (k + 1) 0) low first.high long None x passed p

-- the first six of a list
first_six : (cuts : List ℕ) (k : ℕ) → k < 6 → get_or (get_or cuts 0 0 ∷ get_or cuts 1 0 ∷ get_or cuts 2 0 ∷ get_or cuts 3 0 ∷ get_or cuts 4 0 ∷ get_or cuts 5 0 ∷ []) k 0 ≡ get_or cuts k 0
first_six cuts zero h = refl
first_six cuts (suc zero) h = refl
first_six cuts (suc (suc zero)) h = refl
first_six cuts (suc (suc (suc zero))) h = refl
first_six cuts (suc (suc (suc (suc zero)))) h = refl
first_six cuts (suc (suc (suc (suc (suc zero))))) h = refl
first_six cuts (suc (suc (suc (suc (suc (suc k)))))) h = absurd (omega arith)

-- one head moved
pub heads_set : {V : Type 0} (m : Measure V) (e : V) (rows : List (State V)) (cuts : List ℕ) (o : Option V) (heads : List ℕ) (k h : ℕ) → k < 6 → Heads m e rows cuts o heads → Head m e rows cuts o k h → Heads m e rows cuts o (set heads k h)
heads_set m e rows cuts o heads k h six was new = record { six = simp length-set was.six; each = λ j lt. go j lt (cases_eq j k) }
  where
    long : k < length heads
    long = let a = was.six in omega arith

    go : (j : ℕ) → j < 6 → (j ≡ k) ⊎ (j ≡ k → ⊥) → Head m e rows cuts o j (get_or (set heads k h) j 0)
    go j lt (inl q) =
        let l = long in
        let at_k : get_or (set heads k h) k 0 ≡ h = rw get_or-set_same in
        subst (λ (z : ℕ). Head m e rows cuts o z (get_or (set heads k h) z 0)) (sym q) (subst (λ (z : ℕ). Head m e rows cuts o k z) (sym at_k) new)
    go j lt (inr ne) =
        let at_j : get_or (set heads k h) j 0 ≡ get_or heads j 0 = rw get_or-set_other in
        subst (λ (z : ℕ). Head m e rows cuts o j z) (sym at_j) (was.each j lt)

module _ {V : Type 0} (m : Measure V) (e : V) (rows : List (State V)) (cuts : List ℕ) (runs : Runs e rows cuts) where
  -- nothing is gone through yet
  pub heads_start : Heads m e rows cuts None (get_or cuts 0 0 ∷ get_or cuts 1 0 ∷ get_or cuts 2 0 ∷ get_or cuts 3 0 ∷ get_or cuts 4 0 ∷ get_or cuts 5 0 ∷ [])
  heads_start = record {
    six = refl;
    each = λ k h.
        let q = first_six cuts k h in
        let r = runs.rises k h in
        record { low = omega arith; high = omega arith; done = λ i a b t. absurd (omega arith) };
  }

  -- what is not ahead stays so after the next point
  pub heads_later : {reach : ℕ → V → Type 0} (laws : Laws m.empty m.made m.joined m.below reach) (fine : InReach reach (points_in rows)) (o : Option V) (known : Known (points_in rows) o) (r : ℕ) →
      LeastIn m e rows o 0 (length rows) (Some r) →
      (heads : List ℕ) → Heads m e rows cuts o heads → Heads m e rows cuts (Some (row_at e rows r).delay) heads
  heads_later laws fine o known r next heads was = record {
    six = was.six;
    each = λ k lt.
        let old = was.each k lt in
        let z = runs.inside (k + 1) (omega arith) in
        record {
          low = old.low;
          high = old.high;
          done = λ i a b t.
              let y = old.high in
              old.done i a b (further m laws fine.0 fine.1 (points_in rows) fine.2 o known (point_in (row_at e rows r)) (map_make point_in (stands (blank_state e) rows r next.high) refl) next.taken
              (λ p i t.
              let u = map_in point_in rows i in
              let x = placed (blank_state e) u.1 in
              let q : p ≡ point_in (row_at e rows x.0) = u.2 ∙ ap point_in x.2 in
              subst (λ (z : Point V). (point_upto m (point_in (row_at e rows r)) z ≡ true)) (sym q) (next.least x.0 (omega arith) x.1 (subst (λ (z : Point V). (ahead m o z.delay ≡ true)) q t)))
              (row_at e rows i).delay (good m laws e rows fine o i (omega arith)) t);
        };
  }

module _ {V : Type 0} (m : Measure V) {reach : ℕ → V → Type 0} (laws : Laws m.empty m.made m.joined m.below reach) (e : V) (rows : List (State V)) (cuts heads : List ℕ) (o : Option V) (was : Going m e rows reach cuts heads o) where
  -- a row is taken
  pub taken : (r : ℕ) → LeastIn m e rows o 0 (length rows) (Some r) →
      Going m e rows reach cuts heads (Some (row_at e rows r).delay) × (front m o (points_in rows) ≡ point_in (row_at e rows r) ∷ front m (Some (row_at e rows r).delay) (points_in rows))
  taken r b = (
    record {
      reached = was.reached;
      known = next_known m laws e rows was.reached o was.known r b.high;
      runs = was.runs;
      gone = heads_later m e rows cuts was.runs laws was.reached o was.known r b heads was.gone;
    },
    next_point m laws e rows was.reached o was.known r b,
  )

-- the calls of an iterator until it ends are as many as a number that each lowers by one
module _ {S A : Type 0} (left : S → ℕ) (steps : S → Option A → S → Type 0) (more : (s : S) (x : A) (t : S) → steps s (Some x) t → left s ≡ suc (left t)) (none : (s t : S) → steps s None t → left s ≡ 0) where
  counted_from : (xs : List A) (s t u : S) → Yields steps s xs t → steps t None u → length xs ≡ left s
  counted_from [] s t u e n = sym (ap left e ∙ none t u n)
  counted_from (x ∷ xs) s t u (j, st, rest) n = ap suc (counted_from xs j t u rest n) ∙ sym (more s x j st)

  pub counted : (xs : List A) (s : S) → Drains steps s xs → length xs ≡ left s
  counted xs s d = counted_from xs s d.1.0 d.0 d.1.1 d.1.2
