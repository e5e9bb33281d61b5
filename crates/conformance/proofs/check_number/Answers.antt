use Rattle.std.proofs.Common.{refl}
use Rattle.registers.proofs.Cards.{card-small, words-card}
use Rattle.conformance.proofs.Laws.{tells-save, tells-length}
use Rattle.conformance.proofs.check_number.Goals as goal

pub returns-in-Ok : goal.returns-in-Ok
returns-in-Ok c = tells-save _ _ _ c.in-Ok.ensures refl

pub returns-in-Err : goal.returns-in-Err
returns-in-Err c = tells-length _ _ _ c.in-Err.ensures (card-small _ (words-card c.args.card)) _ refl
