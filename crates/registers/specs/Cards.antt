-- The two cards (rule 5.21). They differ in their words of features, of 64 bits each, and in nothing else.
use Rattle.std.specs.Prelude.{ℕ, Bool, leb}
use Rattle.answer.specs.Tests.{◌and◌}
use Rattle.registers.specs.declared.Card.{Card}
use Rattle.registers.specs.declared.Card.TheVariants.{Features64, Features128}

-- rule 5.21: how many words of features a card has
unfoldable pub words_of : Card → ℕ
words_of Features64 = 1
words_of Features128 = 2

-- rule 1.15: a number of words that a card has
unfoldable pub is_card : ℕ → Bool
is_card w = leb 1 w and leb w 2

-- the most words that a register's 32 bytes have room for
abbrev pub word_room : ℕ
word_room = 4
