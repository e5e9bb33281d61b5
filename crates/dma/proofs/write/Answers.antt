use Rattle.std.proofs.Common.{refl, arith, add_assoc}
use Rattle.dma.proofs.Steps.{turn, items-end, no_gap, writing-done, writing-end, writing-run}
use Rattle.dma.proofs.write.Goals as goal

pub run_at-requires : goal.run_at-requires
run_at-requires c = let s = c.loop-m.invariant in (turn _ _ s.walk c.loop-m-test.true c.if-done-n.false).asks s.accepted.range

pub unwrap-run-requires : goal.unwrap-run-requires
unwrap-run-requires c =
    let s = c.loop-m.invariant in
    let t = turn _ _ s.walk c.loop-m-test.true c.if-done-n.false in
    no_gap s.accepted s.walk _ (t.next c.run_at.ensures refl) t.left

pub store-requires : goal.store-requires
store-requires c =
    let s = c.loop-m.invariant in
    let t = turn _ _ s.walk c.loop-m-test.true c.if-done-n.false in
    let room = t.room (t.next c.run_at.ensures c.unwrap-run.ensures) in
    (omega (arith, room.0, s.bytes-long), omega (arith, room.0, s.shadow-long, c.requires.1), room.1)

pub overflow_add-done : goal.overflow_add-done
overflow_add-done c =
    let s = c.loop-m.invariant in
    let t = turn _ _ s.walk c.loop-m-test.true c.if-done-n.false in
    omega (arith, (t.room (t.next c.run_at.ensures c.unwrap-run.ensures)).1, s.accepted.range)

pub loop-m-preserved : goal.loop-m-preserved
loop-m-preserved c =
    let s = c.loop-m.invariant in
    let t = turn _ _ s.walk c.loop-m-test.true c.if-done-n.false in
    rw (← add_assoc c.args.first c.loop-m.m-index 1) (writing-run s t.more t.left (t.next c.run_at.ensures c.unwrap-run.ensures) _ c.store.ensures)

pub returns-after-loop-m : goal.returns-after-loop-m
returns-after-loop-m c = writing-end c.loop-m.invariant (items-end _ _ _ c.loop-m-test.false)

pub returns-then-done-n : goal.returns-then-done-n
returns-then-done-n c = writing-done c.loop-m.invariant (omega arith)
