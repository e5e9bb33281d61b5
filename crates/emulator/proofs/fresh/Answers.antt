use Rattle.emulator.proofs.PowerOn.{fresh-state}
use Rattle.emulator.proofs.fresh.Goals as goal

pub returns : goal.returns
returns c s = fresh-state _ _ _ _ _ s c.words_of.ensures c.reset.ensures c.disabled.ensures
