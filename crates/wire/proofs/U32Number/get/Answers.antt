-- A field is its two halves.
use Rattle.wire.proofs.Laws.{field-halves}
use Rattle.wire.proofs.U32Number.get.Goals as goal

pub returns : goal.returns
returns c = field-halves c.args.s.now c.args.at 2 c.get-low.ensures c.get-high.ensures
