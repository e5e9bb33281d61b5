-- A run of stores is a copy of the bytes and a run of marks.
use Rattle.wire.proofs.Laws.{length_part}
use Rattle.memory.proofs.Edits.{stored}
use Rattle.memory.proofs.store.Goals as goal

pub returns : goal.returns
returns c = stored _ _ _ _ _ _ _ (length_part c.args.src.now c.args.from c.args.n c.requires.2) c.copy.ensures c.set_range.ensures
