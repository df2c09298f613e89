-- The first place that `position` finds, or the length.
use Rattle.std.proofs.Common.{◌≡◌, ℕ, ◌≤◌, Bool, true, false, cond, ltb, ◌==◌, length, Some, None, ap, ◌∙◌, refl, arith, rules, tests}
use Rattle.std.proofs.lemmas.List.Sums.{prefix_len-le-length}
use Rattle.std.specs.List.{position_or_len}
use Rattle.std.specs.Option.{unwrap_or}
use Rattle.std.proofs.lemmas.Iterator.{YieldsList-from_slice}
use Rattle.std.proofs.lemmas.Iterator.Search.{position_from_yields_List}
use Rattle.std.proofs.lemmas.Bool.{ltb-false}
use Rattle.stages.proofs.streams.skip.Goals as goal

first_or : (n len : ℕ) → n ≤ len → (b : Bool) → ltb n len ≡ b → unwrap_or (cond b (Some n) None) len ≡ n
first_or n len h true e = refl
first_or n len h false e = let past = ltb-false n len e in omega arith

pub returns-clause-first : goal.returns-clause-first
returns-clause-first g c =
    let n = position_or_len (λ s. s.last == c.args.last) c.args.states.now in
    let found = position_from_yields_List (λ s. s.last == c.args.last) _ _ c.position.result c.position.ensures.ran (YieldsList-from_slice _ c.iter.ensures.rest) (λ x b q k. search (rules, tests)) in
    c.unwrap_or.ensures ∙ ap (λ o. unwrap_or o (length c.args.states.now)) found ∙ first_or n (length c.args.states.now) (prefix_len-le-length _ _) _ refl
