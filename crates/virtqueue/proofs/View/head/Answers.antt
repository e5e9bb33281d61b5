use Rattle.std.proofs.Common.{sym, ◌∙◌}
use Rattle.std.proofs.lemmas.Result.{err_from_is_err_and}
use Rattle.answer.specs.Answer.{◌onward◌}
use Rattle.virtqueue.specs.Ring.{head_at, in_table}
use Rattle.virtqueue.proofs.Checks.{past-table, within-table}
use Rattle.virtqueue.proofs.Results.{stops, goes, onto}
use Rattle.virtqueue.proofs.View.head.Goals as goal

pub returns-in_err-head : goal.returns-in_err-head
unfolding head_at ◌onward◌
returns-in_err-head c =
    let p = err_from_is_err_and c.from_residual.result c.from_residual.ensures.1 in
    rw (p.1, p.2) (onto _ _ _ (in_table c.args.self.now.queue c.args.heads) c.in_err-head.ensures)

pub returns-in_err-when : goal.returns-in_err-when
unfolding head_at ◌onward◌
returns-in_err-when c =
    let p = err_from_is_err_and c.from_residual-in_err-when.result c.from_residual-in_err-when.ensures.1 in
    let s = stops _ _ _ _ _ (rw c.at.ensures at c.in_err-when.ensures) in
    rw (p.1, p.2) (s.1 ∙ sym (past-table _ _ _ s.0) ∙ onto _ _ _ (in_table c.args.self.now.queue c.args.heads) c.in_ok-head.ensures)

pub returns : goal.returns
unfolding head_at ◌onward◌
returns c =
    sym (within-table c.args.self.now.queue c.args.heads _ (goes _ _ _ c.in_ok-when.ensures)) ∙ onto _ _ _ (in_table c.args.self.now.queue c.args.heads) c.in_ok-head.ensures
