use Rattle.std.proofs.Common.{ltb-true, ltb-false}
use Rattle.std.proofs.lemmas.Result.{err_from_is_err_and}
use Rattle.virtqueue.proofs.Results.{stopped, passed}
use Rattle.virtqueue.proofs.Offering.{judged-refused, short-refused, stores}
use Rattle.virtqueue.proofs.walk_queue.Goals as goal

pub returns-in_err-found : goal.returns-in_err-found
returns-in_err-found c =
    let p = err_from_is_err_and c.from_residual.result c.from_residual.ensures.1 in
    rw (p.1, p.2) (judged-refused _ c.in_err-found.ensures)

pub returns-in_err-when : goal.returns-in_err-when
returns-in_err-when c =
    let p = err_from_is_err_and c.from_residual-in_err-when.result c.from_residual-in_err-when.ensures.1 in
    let s = stopped _ _ _ _ c.in_err-when.ensures in
    rw (p.1, p.2) (short-refused _ c.in_ok-found.ensures _ s.1 (ltb-true _ _ s.0))

pub returns : goal.returns
returns c = stores _ c.in_ok-found.ensures _ _ (ltb-false _ _ (passed _ _ c.in_ok-when.ensures)) c.walk-2.ensures
