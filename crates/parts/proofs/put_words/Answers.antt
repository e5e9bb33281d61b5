-- `parts::put_words` meets its contract.
use Rattle.std.proofs.Common.{◌≡◌, ◌∙◌, arith}
use Rattle.registers.proofs.Cards.{card-one, card-two}
use Rattle.parts.proofs.Saving.{put_two}
use Rattle.parts.proofs.put_words.Goals as goal

pub copy-requires : goal.copy-requires
copy-requires c =
    let one = card-one c.args.words c.requires.0 in
    (omega (arith, one), omega (arith, one))

pub returns-then-words-gt1 : goal.returns-then-words-gt1
returns-then-words-gt1 c =
    let two : c.args.words ≡ 2 = omega (arith, card-two c.args.words c.requires.0) in
    c.copy-then-words-gt1.ensures ∙ rw (c.copy.ensures, two) (put_two c.args.buf.now c.args.bytes.now c.args.at (omega arith))

pub returns-else-words-gt1 : goal.returns-else-words-gt1
returns-else-words-gt1 c =
    let one : c.args.words ≡ 1 = omega (arith, card-one c.args.words c.requires.0) in
    rw one c.copy.ensures
