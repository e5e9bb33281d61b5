use Rattle.std.proofs.Common.{◌≡◌, ◌+◌, ◌≤◌, ◌⊎◌, inl, inr, ℕ, Bool, true, false, ltb, max, refl, length, drop, arith, length-drop}
use Rattle.std.proofs.Math.Seq.{get_or-drop}
use borrow.Author.Tests.{ltb-true, ltb-false}
use Rattle.registers.proofs.Cards.{card-small}
use Rattle.parts.proofs.Steps.{rest-is}
use Rattle.conformance.specs.Saves.{Bytes, Answers}
use Rattle.conformance.specs.Scan.{Finds}
use Rattle.conformance.proofs.Steps.{is_whole, is_broken, is-absent, whole-inside, broken_inside}
use Rattle.conformance.proofs.Pass.{inside, scan-start, scan-left_out, scan-required, scan_broken, scan-whole, scan-save, scan-more}
use Rattle.conformance.proofs.scan.Goals as goal
use Rattle.conformance.proofs.scan.Goals.{After-part_at, in-Whole, in-Absent+else-is_required}

module _ (c : After-part_at) where
  room : c.loop-index.at ≤ length c.args.s.now
  room = inside _ (card-small _ c.requires) _ _ _ _ c.loop-index.invariant

  -- what is left of the stream is bytes
  bytes : Bytes (drop 16 (drop c.loop-index.at c.args.s.now))
  bytes j =
      let s = c.args.s.now in
      rw (get_or-drop 16 (drop c.loop-index.at s) j 0, get_or-drop c.loop-index.at s (16 + j) 0) (omega (arith, c.type_inv.s (c.loop-index.at + (16 + j))))

  -- what is found of the row there
  found : Finds c.args.words c.loop-index.index (drop c.loop-index.at c.args.s.now) c.part_at.result
  found = rw (rest-is c.args.s.now c.loop-index.at) at c.part_at.ensures

-- the larger of two numbers is one of them
either : (a b : ℕ) → (max a b ≡ a) ⊎ (max a b ≡ b)
either a b = go (ltb a b) refl
  where
    go : (t : Bool) → ltb a b ≡ t → (max a b ≡ a) ⊎ (max a b ≡ b)
    go true e = inr (omega (arith, ltb-true a b e))
    go false e = inl (omega (arith, ltb-false a b e))

pub loop-index-init : goal.loop-index-init
loop-index-init c = scan-start _ _

pub overflow_add-at : goal.overflow_add-at
overflow_add-at c =
    let p = (goal.at.overflow_add-at c).After-part_at in
    record { fits = omega (arith, room p, length-drop c.loop-index.at c.args.s.now, whole-inside _ _ _ _ (is_whole _ _ _ _ _ (found p) c.in-Whole.is)) }

pub overflow_add-result : goal.overflow_add-result
overflow_add-result c =
    let p = (goal.at.overflow_add-result c).After-part_at in
    record { fits = omega (arith, room p, length-drop c.loop-index.at c.args.s.now, broken_inside _ _ _ _ (is_broken _ _ _ _ _ (found p) c.in-Broken.is)) }

pub returns-in-Broken : goal.returns-in-Broken
unfolding Answers
returns-in-Broken c =
    let p = (goal.at.returns-in-Broken c).After-part_at in
    scan_broken _ (card-small _ c.requires) _ _ _ _ c.loop-index.invariant c.loop-index-test.true (bytes p) _ (is_broken _ _ _ _ _ (found p) c.in-Broken.is)

pub overflow_add-at-in-Absent : goal.overflow_add-at-in-Absent
overflow_add-at-in-Absent c =
    let p = (goal.at.overflow_add-at-in-Absent c).After-part_at in
    record { fits = omega (arith, room p, length-drop c.loop-index.at c.args.s.now, (is-absent _ _ _ _ _ (found p) c.in-Absent.is).head.second) }

pub returns-then-is_required : goal.returns-then-is_required
unfolding Answers
returns-then-is_required c =
    let p = (goal.at.returns-then-is_required c).After-part_at in
    rw c.max-best.ensures
    (scan-required _ (card-small _ c.requires) _ _ _ _ c.loop-index.invariant c.loop-index-test.true _ _ (is-absent _ _ _ _ _ (found p) c.in-Absent.is) (omega arith) (omega arith) (either _ _)
    (rw c.is_required.ensures at c.if-is_required.true))

pub loop-index-preserved : goal.loop-index-preserved
loop-index-preserved c =
    let p = (goal.at.loop-index-preserved c).After-part_at in
    let small = card-small _ c.requires in
    elim c.match-part_at.branch [
      | in-Whole w ↦
          rw (w.at-is, w.best-is) (scan-whole _ small _ _ _ _ c.loop-index.invariant c.loop-index-test.true (bytes p) _ (is_whole _ _ _ _ _ (found p) w.in-Whole.is))
      | in-Absent+else-is_required w ↦
          rw (w.at-is, w.best-is, w.max-best.ensures)
          (scan-left_out _ small _ _ _ _ c.loop-index.invariant c.loop-index-test.true _ _ (is-absent _ _ _ _ _ (found p) w.in-Absent.is) (omega arith) (omega arith) (either _ _)
          (rw w.is_required.ensures at w.if-is_required.false))
    ]

pub returns-then-at-s : goal.returns-then-at-s
unfolding Answers
returns-then-at-s c = scan-save _ (card-small _ c.requires) _ _ _ _ c.loop-index.invariant c.loop-index-test.false c.if-at-s.true

pub returns : goal.returns
unfolding Answers
returns c = scan-more _ (card-small _ c.requires) _ _ _ _ c.loop-index.invariant c.loop-index-test.false c.if-at-s.false
