-- Last spaces do not fall.
use Rattle.std.proofs.Common.{ℕ, leb, rules, tests}
use Rattle.std.proofs.lemmas.List.Sorted.{IsNonDecreasingBy-from_default, IsPartitionedBy-leb, IsPartitionPoint-from_clause}
use Rattle.frontier.specs.declared.records.State.{State}
use Rattle.frontier.specs.Orders.{blank_state}
use Rattle.solver.proofs.Orders.{cut_of}
use Rattle.solver.proofs.points.run_end.Goals as goal

pub returns : goal.returns
returns g c =
    let V = g.row.M-Value.Denot in
    let e = g.M.DelayMeasure.EMPTY in
    let rows = c.args.rows.now in
    let last : State V → ℕ = λ s. s.last in
    cut_of e rows c.args.k c.partition_point.result c.partition_point.ensures.bound
    (IsPartitionPoint-from_clause (λ (s : State V). leb s.last c.args.k) rows c.partition_point.result c.partition_point.ensures.partitioned
    (IsPartitionedBy-leb last rows c.args.k (IsNonDecreasingBy-from_default last rows (blank_state e) c.requires)) (λ a r q h. search (rules, tests)))
