use Rattle.std.proofs.Common.{sym, ◌∙◌, ltb-false}
use Rattle.std.proofs.lemmas.Result.{err_from_is_err_and}
use Rattle.virtqueue.specs.Ring.{distance}
use Rattle.virtqueue.proofs.Checks.{near_far, near_by}
use Rattle.virtqueue.proofs.Results.{stopped, passed}
use Rattle.virtqueue.proofs.Offering.{offers-refused, index-refused, far-refused, heads-refused, heads_done}
use Rattle.virtqueue.proofs.View.walk.Goals as goal

pub returns-in_err-index : goal.returns-in_err-index
returns-in_err-index c =
    let p = err_from_is_err_and c.from_residual.result c.from_residual.ensures.1 in
    rw (p.1, p.2) (index-refused _ _ _ _ c.in_err-index.ensures)

pub returns-in_err-when : goal.returns-in_err-when
unfolding distance
returns-in_err-when c =
    let p = err_from_is_err_and c.from_residual-in_err-when.result c.from_residual-in_err-when.ensures.1 in
    let s = stopped _ _ _ _ c.in_err-when.ensures in
    rw (p.1, p.2) (offers-refused _ _ _ _ (far-refused _ _ _ _ c.in_ok-index.ensures _ _ (near_far c.args.self.now.queue c.args.last c.in_ok-index.index s.0 ∙ sym s.1)))

pub chains-requires : goal.chains-requires
chains-requires c = ltb-false _ _ (passed _ _ c.in_ok-when.ensures)

pub returns-in_err-buffers : goal.returns-in_err-buffers
unfolding distance
returns-in_err-buffers c =
    let p = err_from_is_err_and c.from_residual-in_err-buffers.result c.from_residual-in_err-buffers.ensures.1 in
    rw (p.1, p.2) (heads-refused _ _ _ _ c.in_ok-index.ensures (near_by c.args.self.now.queue c.args.last c.in_ok-index.index (passed _ _ c.in_ok-when.ensures)) _ c.in_err-buffers.ensures)

pub returns : goal.returns
unfolding distance
returns c = heads_done _ _ _ _ c.in_ok-index.ensures (near_by c.args.self.now.queue c.args.last c.in_ok-index.index (passed _ _ c.in_ok-when.ensures)) _ c.in_ok-buffers.ensures
