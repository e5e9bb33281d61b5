-- `registers::is_card` meets its contract.
use Rattle.std.proofs.Common.{refl, sym, ◌∙◌}
use borrow.Author.Tests.{le-leb, lt-leb}
use Rattle.answer.proofs.Tests.{and_false, and_second}
use Rattle.registers.specs.Cards.{is_card}
use Rattle.registers.proofs.is_card.Goals as goal

pub returns-then-words-ge1 : goal.returns-then-words-ge1
unfolding is_card
returns-then-words-ge1 c = and_second (le-leb _ _ c.if-words-ge1.true) refl

pub returns-else-words-ge1 : goal.returns-else-words-ge1
unfolding is_card
returns-else-words-ge1 c = let e = lt-leb _ _ c.if-words-ge1.false in e ∙ sym (and_false _ _ e)
