-- The bits in the first and the last byte, and whole bytes between.
use Rattle.std.proofs.Common.{refl, sym, ◌∙◌, arith}
use mathlib.Core.Bool.{true≢false}
use Rattle.bitmap.proofs.Runs.{ones-same, ones_then}
use Rattle.bitmap.proofs.all_ones.Goals as goal
use Rattle.bitmap.proofs.all_ones.Goals.{then-ones_in_byte, else-ones_in_byte}

pub returns-then-ones_in_bytes : goal.returns-then-ones_in_bytes
returns-then-ones_in_bytes c t =
    elim c.if-ones_in_byte.branch [
      | then-ones_in_byte w ↦ (
          let first = c.ones_in_byte-2.ensures w.if-ones_in_byte.true in
          let whole = w.ones_in_bytes.ensures (sym w.value-is ∙ c.if-ones_in_bytes.true) in
          ones-same _ _ c.args.a _ _ (omega arith) refl
          (ones_then _ _ _ _ _ _ (omega arith) (omega arith) first
          (ones_then _ _ _ _ _ _ (omega arith) refl whole (c.ones_in_byte-then-ones_in_bytes.ensures t)))
          )
      | else-ones_in_byte w ↦ absurd (true≢false (sym c.if-ones_in_bytes.true ∙ w.value-is ∙ w.if-ones_in_byte.false))
    ]
