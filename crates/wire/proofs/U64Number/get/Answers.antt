-- A field is its two halves.
use Rattle.wire.proofs.Laws.{field-halves}
use Rattle.wire.proofs.U64Number.get.Goals as goal

pub returns : goal.returns
returns c = field-halves c.args.s.now c.args.at 4 c.get-low.ensures c.get-high.ensures
