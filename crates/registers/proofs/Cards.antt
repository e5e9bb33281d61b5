-- Laws of the cards.
use Prim.Native.Nat.{ℕ, ◌≤◌}
use native.Mathlib.Omega.{arith}
use mathlib.Core.Path.{◌≡◌, refl}
use mathlib.Core.Bool.{true}
use borrow.Author.Tests.{leb-true}
use Rattle.answer.specs.Tests.{◌and◌}
use Rattle.answer.proofs.Tests.{and_true}
use Rattle.registers.specs.Cards.{words_of, is_card, word_room}
use Rattle.registers.specs.declared.Card.{Card}
use Rattle.registers.specs.declared.Card.TheVariants.{Features64, Features128}

-- a register has room for a card's words
pub card-small : (w : ℕ) → is_card w ≡ true → w ≤ word_room
unfolding is_card
card-small w h = omega (arith, leb-true w 2 (and_true _ _ h).1)

-- it has one word or two
pub card-one : (w : ℕ) → is_card w ≡ true → 1 ≤ w
unfolding is_card
card-one w h = leb-true 1 w (and_true _ _ h).0

pub card-two : (w : ℕ) → is_card w ≡ true → w ≤ 2
unfolding is_card
card-two w h = leb-true w 2 (and_true _ _ h).1

pub words-card : (card : Card) → is_card (words_of card) ≡ true
unfolding words_of is_card ◌and◌
words-card Features64 = refl
words-card Features128 = refl
