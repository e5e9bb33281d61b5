-- `parts::put_part` meets its contract: a header of six fields, and a value behind it.
use Rattle.std.proofs.Common.{ℕ, ◌≡◌, ◌+◌, List, length, sym, ◌∙◌, ap, arith}
use lib.Seq.{sets}
use Rattle.registers.proofs.Cards.{card-small}
use Rattle.registers.proofs.Rows.{size-most, kind_fits, features-size}
use Rattle.parts.specs.Load.{flags_of}
use Rattle.parts.specs.Save.{encoded}
use Rattle.parts.proofs.Saving.{put-behind}
use Rattle.parts.proofs.put_part.Goals as goal
use Rattle.parts.proofs.put_part.Goals.{After-put-5}

pub overflow_cast-number : goal.overflow_cast-number
overflow_cast-number c = omega (arith, c.number.ensures, c.kind_of-kind.ensures, kind_fits c.args.row c.requires.1)

pub overflow_cast-size : goal.overflow_cast-size
overflow_cast-size c = omega (arith, c.size_of-size.ensures, size-most c.args.words c.args.row (card-small _ c.requires.0) c.requires.1)

-- the buffer keeps its length
kept : (c : After-put-5) → length c.put-5.new.buf ≡ length c.args.buf.now
kept c = omega arith

-- the header, and a value behind it, are the part
part : (c : After-put-5) (v : List ℕ) → sets c.put-5.new.buf (c.args.at + 16) v ≡ sets c.args.buf.now c.args.at (encoded c.args.words c.args.row v)
part c v =
    put-behind c.args.words c.args.buf.now c.args.at c.args.row v c.put.ensures c.put-2.ensures c.put-3.ensures c.put-4.ensures c.put-5.ensures
    (c.number.ensures ∙ c.kind_of-kind.ensures) (c.flags.ensures ∙ ap flags_of (sym c.number.ensures)) c.selector_of.ensures c.size_of-size.ensures

pub put_words-requires : goal.put_words-requires
put_words-requires c =
    let all = features-size c.args.words c.args.row c.if-row-lt2.true in
    let same = kept (goal.at.put_words-requires c).After-put-5 in
    let small = card-small _ c.requires.0 in
    (c.requires.0, omega arith, omega arith)

pub copy-requires : goal.copy-requires
copy-requires c =
    let same = kept (goal.at.copy-requires c).After-put-5 in
    let small = size-most c.args.words c.args.row (card-small _ c.requires.0) c.requires.1 in
    (omega (arith, c.size_of-size.ensures), omega (arith, c.size_of-size.ensures))

pub returns-then-row-lt2 : goal.returns-then-row-lt2
returns-then-row-lt2 c =
    c.put_words.ensures ∙ rw (features-size c.args.words c.args.row c.if-row-lt2.true) (part (goal.at.returns-then-row-lt2 c).After-put-5 _)

pub returns-else-row-lt2 : goal.returns-else-row-lt2
returns-else-row-lt2 c = c.copy.ensures ∙ rw c.size_of-size.ensures (part (goal.at.returns-else-row-lt2 c).After-put-5 _)
