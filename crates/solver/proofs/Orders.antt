-- Ordered rows stand in six runs. Assumes nothing.
use Rattle.std.proofs.Common.{◌≡◌, ℕ, ◌+◌, ◌<◌, ◌≤◌, true, false, leb, ◌⊎◌, List, length, get_or, inl, inr, arith}
use Rattle.std.specs.List.Sorted.{IsPartitionPoint}
use Rattle.std.proofs.lemmas.Bool.{cases_lt, leb-true, leb-false}
use Rattle.frontier.specs.Orders.{blank_state}
use Rattle.frontier.specs.declared.records.State.{State}
use Rattle.solver.specs.Front.{row_at, Runs, Ordered, Cut}

module _ {V : Type 0} (e : V) (rows : List (State V)) where
  -- where those of a last space of at most k end
  pub cut_of : (k c : ℕ) → c ≤ length rows → IsPartitionPoint (λ (s : State V). leb s.last k ≡ true) (λ (s : State V). leb s.last k ≡ false) rows c → Cut e rows k c
  cut_of k c h p = record {
    within = h;
    below = λ i lt. leb-true (row_at e rows i).last k (p.0 i (blank_state e) (omega arith) lt);
    above = λ i low lt. leb-false (row_at e rows i).last k (p.1 i (blank_state e) low lt);
  }

  module _ (ordered : Ordered e rows) where
    -- all cuts
    pub runs_of : (cuts : List ℕ) → length cuts ≡ 7 → ((k : ℕ) → k < 7 → Cut e rows k (get_or cuts k 0)) → Runs e rows cuts
    runs_of cuts seven all = record {
      seven = seven;
      starts = first (cases_lt 0 (get_or cuts 0 0));
      ends = last (cases_lt (get_or cuts 6 0) (length rows));
      rises = λ k h. up k h (cases_lt (get_or cuts (k + 1) 0) (get_or cuts k 0));
      inside = λ k h. (all k h).within;
      sorted = λ k i j h a b c.
          let cj = all (k + 1) (omega arith) in
          let ci = all k (omega arith) in
          let long = cj.within in
          let ji = cj.below j c in
          let ii = cj.below i (omega arith) in
          let ia = ci.above i a (omega arith) in
          let ja = ci.above j (omega arith) (omega arith) in
          ordered.sorted i j b (omega arith) (omega arith);
    }
      where
        first : (0 < get_or cuts 0 0) ⊎ (get_or cuts 0 0 ≤ 0) → get_or cuts 0 0 ≡ 0
        first (inl h) =
            let c = all 0 (omega arith) in
            let w = c.within in
            let a = c.below 0 h in
            let b = ordered.low 0 (omega arith) in
            absurd (omega arith)
        first (inr h) = omega arith

        last : (get_or cuts 6 0 < length rows) ⊎ (length rows ≤ get_or cuts 6 0) → get_or cuts 6 0 ≡ length rows
        last (inl h) =
            let c = all 6 (omega arith) in
            let a = c.above (get_or cuts 6 0) (omega arith) h in
            let b = ordered.high (get_or cuts 6 0) h in
            absurd (omega arith)
        last (inr h) = let w = (all 6 (omega arith)).within in omega arith

        up : (k : ℕ) → k < 6 → (get_or cuts (k + 1) 0 < get_or cuts k 0) ⊎ (get_or cuts k 0 ≤ get_or cuts (k + 1) 0) → get_or cuts k 0 ≤ get_or cuts (k + 1) 0
        up k h (inl s) =
            let c = all k (omega arith) in
            let d = all (k + 1) (omega arith) in
            let w = c.within in
            let a = c.below (get_or cuts (k + 1) 0) s in
            let b = d.above (get_or cuts (k + 1) 0) (omega arith) (omega arith) in
            absurd (omega arith)
        up k h (inr s) = s
