use Rattle.registers.proofs.Cards.{words-card}
use Rattle.conformance.proofs.check.Goals as goal

pub scan-requires : goal.scan-requires
scan-requires c = rw c.words_of.ensures (words-card _)
