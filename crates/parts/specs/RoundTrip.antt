-- The round trip of registers through a stream (rule 8.4).
use Rattle.std.specs.Prelude.{ℕ, ◌≡◌, true, false, length}
use Rattle.answer.specs.Answer.{done}
use Rattle.registers.specs.Cards.{is_card}
use Rattle.registers.specs.File.{File, kept_count, sound_file}
use Rattle.parts.specs.Load.{load}
use Rattle.parts.specs.Save.{saved}

-- On either card, what is saved of a sound register file loads again, where the device is stopped, to the same file: the same registers are
-- set, with the same values. `w` is the number of words that the card has of features.
unfoldable pub RoundTrip : Type 0
RoundTrip = (w : ℕ) → is_card w ≡ true → (file : File) → length file ≡ kept_count → sound_file w file ≡ true → load w false (saved w file) ≡ done file
