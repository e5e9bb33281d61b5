use Rattle.std.proofs.Common.{ap, sym, ◌∙◌}
use Rattle.std.proofs.lemmas.Result.{err_from_is_err_and}
use Rattle.answer.specs.Answer.{done}
use Rattle.virtqueue.proofs.Numbers.{pair}
use Rattle.virtqueue.proofs.Results.{falls, gives}
use Rattle.virtqueue.proofs.View.number.Goals as goal

pub returns-in_err-at : goal.returns-in_err-at
returns-in_err-at c =
    let p = err_from_is_err_and c.from_residual.result c.from_residual.ensures.1 in
    rw (p.1, p.2) (falls _ _ _ _ _ c.in_err-at.ensures.reads)

pub returns : goal.returns
returns c = ap done (c.get.ensures ∙ sym (pair _ _)) ∙ gives c.in_ok-at.at _ _ _ c.in_ok-at.ensures.reads
