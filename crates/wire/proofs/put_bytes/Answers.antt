-- One more digit is written.
use Rattle.std.proofs.Common.{◌∙◌, arith}
use Rattle.wire.proofs.Laws.{put-more}
use Rattle.wire.proofs.put_bytes.Goals as goal

pub loop-i-preserved : goal.loop-i-preserved
loop-i-preserved c =
    (omega arith, c.loop-i.invariant.1 ∙ put-more _ c.args.at c.args.width c.loop-i.i c.loop-i.y (omega arith))
