use Rattle.virtqueue.proofs.Numbers.{put-short, put-fits}
use Rattle.virtqueue.proofs.put.Goals as goal

pub returns-then-numbers-at : goal.returns-then-numbers-at
returns-then-numbers-at c = put-short _ _ _ c.if-numbers-at.true

pub returns : goal.returns
returns c = put-fits _ _ _ c.if-numbers-at.false
