-- `parts::saved_length` meets its contract.
use Rattle.std.proofs.Common.{◌+◌, arith}
use borrow.Author.Tests.{eq-eqb, ne_eqb}
use Rattle.registers.proofs.Rows.{size-most}
use Rattle.registers.proofs.File.{slot_row, slot_whole}
use Rattle.parts.proofs.Saving.{count-start, count-more, count_none, count-end}
use Rattle.parts.proofs.saved_length.Goals as goal
use Rattle.parts.proofs.saved_length.Goals.{then-r-eq-SET, else-r-eq-SET}

pub overflow_add-n : goal.overflow_add-n
overflow_add-n c = omega (arith, c.size_of-n.ensures, size-most c.args.words 0 (omega arith) (omega arith))

pub loop-i-init : goal.loop-i-init
loop-i-init c = rw c.size_of-n.ensures (count-start _ c.requires _)

pub overflow_add-n-then-r-eq-SET : goal.overflow_add-n-then-r-eq-SET
overflow_add-n-then-r-eq-SET c = omega (arith, c.size_of.ensures, size-most c.args.words (c.loop-i.i + 1) (omega arith) (omega arith))

pub overflow_add-n-then-r-eq-SET-2 : goal.overflow_add-n-then-r-eq-SET-2
overflow_add-n-then-r-eq-SET-2 c =
    omega (arith, c.loop-i.invariant.small, c.size_of.ensures, size-most c.args.words (c.loop-i.i + 1) (omega arith) (omega arith))

pub loop-i-preserved : goal.loop-i-preserved
loop-i-preserved c =
    let shown = slot_row c.args.words c.args.registers c.loop-i.i in
    elim c.if-r-eq-SET.branch [
      | then-r-eq-SET w ↦
          count-more _ c.requires _ _ _ c.loop-i.invariant (omega arith) _ shown (slot_whole c.args.registers _ c.well_formed.1.0 c.loop-i.i c.loop-i-test.true)
          (eq-eqb _ _ w.if-r-eq-SET.true) _ (omega (arith, w.n-is, w.size_of.ensures))
      | else-r-eq-SET w ↦ count_none _ c.requires _ _ _ c.loop-i.invariant (omega arith) _ shown (ne_eqb _ _ w.if-r-eq-SET.false) _ w.n-is
    ]

pub returns : goal.returns
returns c = count-end _ c.requires _ _ _ c.loop-i.invariant (omega arith)
