-- `registers::is_sound` meets its contract.
use Rattle.std.proofs.Common.{ℕ, ◌≡◌, ◌<◌, ◌≤◌, length, sym, ◌∙◌, arith}
use lib.Seq.{length-take-le}
use Rattle.registers.specs.Cards.{word_room}
use Rattle.registers.specs.Rows.{row_count, size_of}
use Rattle.registers.specs.declared.Register.{Register}
use Rattle.registers.proofs.Cards.{card-small}
use Rattle.registers.proofs.Rows.{size-most}
use Rattle.registers.proofs.File.{sound-register}
use Rattle.registers.proofs.is_sound.Goals as goal

-- the value lies in the register's bytes
fits : {w row size : ℕ} (r : Register) → w ≤ word_room → row < row_count → length r.bytes ≡ 32 → size ≡ size_of w row → size ≤ length r.bytes
fits {w} {row} r small lt whole is = omega (arith, whole, is, size-most w row small lt)

pub slice_bounds-bytes-end : goal.slice_bounds-bytes-end
slice_bounds-bytes-end c = fits c.args.r (card-small _ c.requires.0) c.requires.2 c.requires.3 c.size_of-size.ensures

pub slice_bounds-is_good-end : goal.slice_bounds-is_good-end
slice_bounds-is_good-end c = sym (length-take-le _ _ (fits c.args.r (card-small _ c.requires.0) c.requires.2 c.requires.3 c.size_of-size.ensures))

pub is_good-good-requires : goal.is_good-good-requires
is_good-good-requires c = (
  c.requires.0,
  c.requires.2,
  length-take-le _ _ (fits c.args.r (card-small _ c.requires.0) c.requires.2 c.requires.3 c.size_of-size.ensures) ∙ c.size_of-size.ensures,
)

pub returns : goal.returns
returns c =
    rw (c.is_good-good.ensures, c.size_of-size.ensures) (sym (sound-register c.args.words c.args.row c.args.r (card-small _ c.requires.0) c.requires.2 c.requires.3))
