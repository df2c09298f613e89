use Rattle.std.proofs.Common.{◌≡◌, ◌+◌, ◌^◌, ◌<◌, ◌≤◌, drop}
use Rattle.text.specs.Runs.{rising, set_of}
use Rattle.text.proofs.fields.set_in.Given as goal

abbrev pub invariant-loop-b : goal.invariant-loop-b
invariant-loop-b l = (rising l.last 0 l.part ≡ rising l.last l.low (drop l.b-index l.part))
    × (set_of l.part ≡ l.steps + set_of (drop l.b-index l.part))
    × (l.steps < 2 ^ l.low)
    × (l.low ≤ l.last)
