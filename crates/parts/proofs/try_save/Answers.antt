-- `parts::try_save` meets its contract: a buffer that passed its checks has the room.
use Rattle.std.proofs.Common.{sym}
use borrow.Author.Tests.{ltb-false}
use Rattle.answer.proofs.Checks.{then_pass, when_pass}
use Rattle.registers.proofs.Cards.{card-small}
use Rattle.parts.specs.Save.{save_checks}
use Rattle.parts.proofs.try_save.Goals as goal

pub check_save-requires : goal.check_save-requires
check_save-requires c = card-small _ c.requires

pub save-requires : goal.save-requires
unfolding save_checks
save-requires c = (c.requires, ltb-false _ _ (when_pass _ _ (then_pass _ _ (sym c.in_ok-check_save.ensures)).1))
