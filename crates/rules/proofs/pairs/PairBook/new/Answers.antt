-- With no mark at all, what stands is what is of steps.
use Rattle.std.proofs.Common.{◌≡◌, ℕ, ◌<◌, Bool, false, List, get_or, replicate, arith}
use lib.ListN.{get_or-replicate}
use Rattle.std.proofs.lemmas.Bool.Decides.{nat_tests}
use Rattle.rules.specs.Steps.{three_steps}
use Rattle.rules.specs.Pairs.{neither_barred}
use Rattle.rules.proofs.pairs.PairBook.new.Goals as goal

unmarked : (marks : List Bool) → ((k : ℕ) → k < 36 → get_or marks k false ≡ false)
    → (l w r : ℕ) → neither_barred marks l w r ≡ three_steps l w r
unmarked marks none l w r = grind (arith, nat_tests)

pub returns : goal.returns
returns c = unmarked (replicate 36 false) (λ k h. get_or-replicate 36 k false false h)
