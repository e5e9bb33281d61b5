use Rattle.dma.proofs.Ahead.{ready-sound}
use Rattle.dma.proofs.check_transfer.Goals as goal

pub find-first-requires : goal.find-first-requires
find-first-requires c = (ready-sound c.requires.0).table
