-- The first place of a last space, in a part of the table. Assumes nothing.
use Rattle.std.proofs.Common.{◌≡◌, ℕ, ◌+◌, ◌-◌, ◌<◌, ◌≤◌, ◌==◌, List, length, get_or, drop, slice_range, sym, ap, ◌∙◌, arith, length-drop, length-take, get_or-drop, get_or-take}
use Rattle.std.specs.List.{position_or_len}
use Rattle.std.proofs.lemmas.Bool.{eqb-true, eq-eqb, both_ways}
use Rattle.std.proofs.lemmas.List.Sums.{prefix_len-le-length, fails_before_first, passes_at_first}
use Rattle.frontier.specs.declared.records.State.{State}
use Rattle.stages.specs.Table.{Skipped}

-- the first place that is found in the part from i on and before b, counted from the start of the table
pub skipped : {V : Type 0} (t : List (State V)) (i b l r : ℕ) → i ≤ b → b ≤ length t → r ≡ position_or_len (λ s. s.last == l) (slice_range t i b) → Skipped t i b l (i + r)
skipped {V} t i b l r le high is = record {
  low = omega arith;
  high = omega (arith, inside);
  passed = λ k d ik kr e.
      let j : i + (k - i) ≡ k = omega arith in
      let part = at (k - i) d (omega (arith, inside)) ∙ ap (λ (z : ℕ). get_or t z d) j in
      let no = fails_before_first (λ s. s.last == l) (slice_range t i b) (k - i) d (omega (arith, is)) in
      both_ways _ no (ap (λ (z : State V). z.last == l) part ∙ eq-eqb _ _ e);
  found = λ d rb.
      let part = at r d (omega arith) in
      let yes = passes_at_first (λ s. s.last == l) (slice_range t i b) d (omega (arith, is, long)) in
      sym (ap (λ (z : State V). z.last) part) ∙ eqb-true _ _ (ap (λ (z : ℕ). (get_or (slice_range t i b) z d).last == l) is ∙ yes);
}
  where
    long : length (slice_range t i b) ≡ b - i
    long = simp (length-take, length-drop) (omega arith)

    inside : r ≤ b - i
    inside = let short : position_or_len (λ s. s.last == l) (slice_range t i b) ≤ length (slice_range t i b) = prefix_len-le-length _ _ in omega (arith, is, long)

    at : (j : ℕ) (d : State V) → j < b - i → get_or (slice_range t i b) j d ≡ get_or t (i + j) d
    at j d h = get_or-take (b - i) (drop i t) j d h ∙ get_or-drop i t j d
