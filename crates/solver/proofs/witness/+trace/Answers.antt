-- The row before is written first, then a width and a space.
use Rattle.std.proofs.Common.{◌≡◌, ℕ, suc, ◌+◌, ◌-◌, ◌<◌, get_or, set, sym, ap, ◌∙◌, subst, arith, rules}
use Rattle.frontier.specs.declared.records.State.{State}
use Rattle.solver.specs.Front.{row_at}
use Rattle.solver.specs.Strips.{row_bytes}
use Rattle.solver.specs.Trail.{path_to, Back, Safe}
use Rattle.solver.proofs.Bests.{reads}
use Rattle.solver.proofs.Bytes.{path_bytes}
use Rattle.solver.proofs.witness.+trace.Goals as goal

pub trace-requires : goal.trace-requires
trace-requires g t c κs within =
    let e = g.M.DelayMeasure.EMPTY in
    let table = c.args.table.now in
    let i = c.args.slot in
    let j : c.args.stage ≡ suc (c.args.stage - 1) = let h = c.if-stage-eq0.false in omega arith in
    let b : Back e table (suc (c.args.stage - 1)) c.args.slot = subst (λ (k : ℕ). Back e table k c.args.slot) j c.requires.safe.1 in
    let f : (row_at e table i).from ≡ (get_or table i c.index-table-slot-else-stage-eq0-2.result).from = ap (λ (s : State g.row.M-Value.Denot). s.from) (reads table i _ _ c.requires.safe.0) in
    let s : Safe e table (c.args.stage - 1) (get_or table i c.index-table-slot-else-stage-eq0-2.result).from = subst (λ (k : ℕ). Safe e table (c.args.stage - 1) k) f b in
    (search rules, (search rules, (search rules, (s, (search rules, c.requires.noughts)))))

pub returns-else-stage-eq0 : goal.returns-else-stage-eq0
returns-else-stage-eq0 g t c =
    let V = g.row.M-Value.Denot in
    let e = g.M.DelayMeasure.EMPTY in
    let table = c.args.table.now in
    let k = c.args.stage - 1 in
    let i = c.args.slot in
    let j : c.args.stage ≡ suc k = let h = c.if-stage-eq0.false in omega arith in
    let l : 24 + c.args.stage ≡ 25 + k = omega arith in
    let rf : get_or table i c.index-table-slot-else-stage-eq0-2.result ≡ row_at e table i = reads table i _ _ c.requires.safe.0 in
    let rw' : get_or table i c.index-table-slot-else-stage-eq0.result ≡ row_at e table i = reads table i _ _ c.requires.safe.0 in
    let rl : get_or table i c.index-table-slot.result ≡ row_at e table i = reads table i _ _ c.requires.safe.0 in
    let was : c.trace.new.part ≡ row_bytes (path_to e table k (row_at e table i).from) = c.trace.ensures ∙ ap (λ (s : State V). row_bytes (path_to e table k s.from)) rf in
    let n : k < 24 = let h = c.requires.few in omega arith in
    ap (λ z. set (set z k (get_or table i c.index-table-slot-else-stage-eq0.result).width) (24 + c.args.stage) (get_or table i c.index-table-slot.result).last) was
    ∙ ap (λ (s : State V). set (set (row_bytes (path_to e table k (row_at e table i).from)) k s.width) (24 + c.args.stage) (get_or table i c.index-table-slot.result).last) rw'
    ∙ ap (λ (s : State V). set (set (row_bytes (path_to e table k (row_at e table i).from)) k (row_at e table i).width) (24 + c.args.stage) s.last) rl
    ∙ ap (λ z. set (set (row_bytes (path_to e table k (row_at e table i).from)) k (row_at e table i).width) z (row_at e table i).last) l
    ∙ path_bytes e table k i n
    ∙ ap (λ z. row_bytes (path_to e table z i)) (sym j)
