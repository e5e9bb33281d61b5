-- `registers::are_offered` meets its contract: one word, or two.
use Rattle.std.proofs.Common.{◌≡◌, sym, ◌∙◌, arith}
use Rattle.answer.specs.Tests.{◌and◌}
use Rattle.answer.proofs.Tests.{and_second}
use Rattle.registers.specs.Values.{each_word}
use Rattle.registers.proofs.Cards.{card-one, card-two}
use Rattle.registers.proofs.Features.{each-not}
use Rattle.registers.proofs.are_offered.Goals as goal

pub is_offered-requires : goal.is_offered-requires
is_offered-requires c = (omega arith, omega (arith, card-one c.args.words c.requires.0))

pub returns-else-is_offered : goal.returns-else-is_offered
returns-else-is_offered c =
    c.if-is_offered.false ∙ each-not _ _ 0 _ (omega (arith, card-one c.args.words c.requires.0)) (sym c.is_offered.ensures ∙ c.if-is_offered.false)

pub returns-then-words-lt2 : goal.returns-then-words-lt2
unfolding each_word ◌and◌
returns-then-words-lt2 c =
    let one : c.args.words ≡ 1 = omega (arith, card-one c.args.words c.requires.0) in
    rw one (sym (sym c.is_offered.ensures ∙ c.if-is_offered.true))

pub returns-else-words-lt2 : goal.returns-else-words-lt2
unfolding each_word ◌and◌
returns-else-words-lt2 c =
    let two : c.args.words ≡ 2 = omega (arith, card-two c.args.words c.requires.0) in
    rw two (and_second (sym c.is_offered.ensures ∙ c.if-is_offered.true) c.is_offered-else-words-lt2.ensures)
