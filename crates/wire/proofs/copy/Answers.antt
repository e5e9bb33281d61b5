-- One more byte is copied.
use Rattle.std.proofs.Common.{◌∙◌, arith}
use Rattle.wire.proofs.Laws.{copy_more}
use Rattle.wire.proofs.copy.Goals as goal

pub loop-i-preserved : goal.loop-i-preserved
loop-i-preserved c =
    let a = c.args in
    (omega arith, c.loop-i.invariant.1 ∙ copy_more _ a.src.now a.to a.from a.n c.loop-i.i (omega arith) (omega arith))
