-- `parts::save` meets its contract.
use Rattle.std.proofs.Common.{◌≡◌, ◌+◌, length, get_or, take, ◌∙◌, ap, arith}
use lib.Seq.{sets, length-sets}
use borrow.Author.Tests.{eq-eqb, ne_eqb}
use Rattle.registers.specs.Rows.{size_of}
use Rattle.registers.specs.File.{file_of}
use Rattle.registers.proofs.Cards.{card-small}
use Rattle.registers.proofs.Rows.{size-most}
use Rattle.registers.proofs.File.{absent, features, features-whole, slot_row, slot_whole}
use Rattle.parts.specs.Save.{encoded}
use Rattle.parts.proofs.Saving.{features-room, left-start, left-room, left-more, left-none, left_end, left-all}
use Rattle.parts.proofs.save.Goals as goal
use Rattle.parts.proofs.save.Goals.{After-put_part, then-r-eq-SET, else-r-eq-SET}

-- the buffer that has the part of offered features
first : (c : After-put_part) → c.put_part.new.buf ≡ sets c.args.buf.now 0 (encoded c.args.words 0 (take (size_of c.args.words 0) features.bytes))
first c = c.put_part.ensures ∙ rw c.offered.ensures

long : (c : After-put_part) → length c.put_part.new.buf ≡ length c.args.buf.now
long c = ap length (first c) ∙ length-sets c.args.buf.now 0 (encoded c.args.words 0 (take (size_of c.args.words 0) features.bytes))

pub put_part-requires : goal.put_part-requires
put_part-requires c = (
  c.requires.0,
  omega arith,
  rw c.offered.ensures features-whole,
  omega (arith, features-room c.args.words (card-small _ c.requires.0) (file_of c.args.words c.args.registers), c.requires.1),
)

pub overflow_add-at : goal.overflow_add-at
overflow_add-at c = omega (arith, c.size_of-at.ensures, size-most c.args.words 0 (card-small _ c.requires.0) (omega arith))

pub loop-i-init : goal.loop-i-init
loop-i-init c = rw c.size_of-at.ensures (left-start _ (card-small _ c.requires.0) _ _)

pub put_part-requires-then-r-eq-SET : goal.put_part-requires-then-r-eq-SET
put_part-requires-then-r-eq-SET c =
    let r = get_or c.args.registers.slots c.loop-i.i absent in
    let whole = slot_whole c.args.registers _ c.well_formed.1.0 c.loop-i.i c.loop-i-test.true in
    let fits = left-room _ (card-small _ c.requires.0) _ _ _ _ _ c.loop-i.invariant (omega arith) r (slot_row _ c.args.registers c.loop-i.i) whole (eq-eqb _ _ c.if-r-eq-SET.true) in
    let given = c.requires.1 in
    (c.requires.0, omega arith, whole, omega (arith, c.loop-i.invariant.same, long (goal.at.put_part-requires-then-r-eq-SET c).After-put_part))

pub overflow_add-at-then-r-eq-SET : goal.overflow_add-at-then-r-eq-SET
overflow_add-at-then-r-eq-SET c =
    omega (arith, c.size_of.ensures, size-most c.args.words (c.loop-i.i + 1) (card-small _ c.requires.0) (omega arith))

pub overflow_add-at-then-r-eq-SET-2 : goal.overflow_add-at-then-r-eq-SET-2
overflow_add-at-then-r-eq-SET-2 c =
    let r = get_or c.args.registers.slots c.loop-i.i absent in
    let whole = slot_whole c.args.registers _ c.well_formed.1.0 c.loop-i.i c.loop-i-test.true in
    let fits = left-room _ (card-small _ c.requires.0) _ _ _ _ _ c.loop-i.invariant (omega arith) r (slot_row _ c.args.registers c.loop-i.i) whole (eq-eqb _ _ c.if-r-eq-SET.true) in
    omega (arith, c.size_of.ensures)

pub loop-i-preserved : goal.loop-i-preserved
loop-i-preserved c =
    let r = get_or c.args.registers.slots c.loop-i.i absent in
    let shown = slot_row c.args.words c.args.registers c.loop-i.i in
    let small = card-small _ c.requires.0 in
    elim c.if-r-eq-SET.branch [
      | then-r-eq-SET w ↦
          left-more _ small _ _ _ _ _ c.loop-i.invariant (omega arith) r shown (slot_whole c.args.registers _ c.well_formed.1.0 c.loop-i.i c.loop-i-test.true)
          (eq-eqb _ _ w.if-r-eq-SET.true) _ _ (w.buf-is ∙ w.put_part-then-r-eq-SET.ensures) (omega (arith, w.at-is, w.size_of.ensures))
      | else-r-eq-SET w ↦ left-none _ small _ _ _ _ _ c.loop-i.invariant (omega arith) r shown (ne_eqb _ _ w.if-r-eq-SET.false) _ _ w.buf-is w.at-is
    ]

pub returns : goal.returns
returns c =
    let small = card-small _ c.requires.0 in
    let e = left_end _ small _ _ _ _ _ c.loop-i.invariant (omega arith) in
    (e.0 ∙ rw (first (goal.at.returns c).After-put_part) (left-all _ small _ _), e.1)
