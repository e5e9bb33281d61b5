use Rattle.std.proofs.Common.{sym, ◌∙◌}
use Rattle.std.proofs.lemmas.Result.{err_from_is_err_and}
use Rattle.virtqueue.specs.Ring.{described}
use Rattle.virtqueue.proofs.Checks.{direct, not-direct}
use Rattle.virtqueue.proofs.Results.{stops, goes, falls, gives}
use Rattle.virtqueue.proofs.View.descriptor.Goals as goal

pub returns-in_err-at : goal.returns-in_err-at
unfolding described
returns-in_err-at c =
    let p = err_from_is_err_and c.from_residual.result c.from_residual.ensures.1 in
    rw (p.1, p.2) (falls _ _ _ _ _ c.in_err-at.ensures.reads)

pub returns-in_err-when : goal.returns-in_err-when
unfolding described
returns-in_err-when c =
    let p = err_from_is_err_and c.from_residual-in_err-when.result c.from_residual-in_err-when.ensures.1 in
    let s = stops _ _ _ _ _ (rw (c.at.ensures, c.is_indirect.ensures) at c.in_err-when.ensures) in
    rw (p.1, p.2) (s.1 ∙ sym (not-direct _ _ s.0) ∙ rw c.get-x.ensures (gives c.in_ok-at.at _ _ _ c.in_ok-at.ensures.reads))

pub returns : goal.returns
unfolding described
returns c =
    sym (direct c.args.heads _ (sym c.is_indirect.ensures ∙ goes _ _ _ c.in_ok-when.ensures)) ∙ rw c.get-x.ensures (gives c.in_ok-at.at _ _ _ c.in_ok-at.ensures.reads)
