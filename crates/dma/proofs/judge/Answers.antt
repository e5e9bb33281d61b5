use Rattle.std.proofs.Common.{◌≡◌, ◌≤◌, ◌<◌, ◌+◌, sym, ◌∙◌, length, arith, rules, add-zero, add_assoc, refl}
use Rattle.std.specs.Prelude.{Result, Ok, Err, IsErrAnd}
use Rattle.answer.specs.Checks.{Verdict, Fail}
use Rattle.answer.specs.Limits.{length_check}
use Rattle.answer.specs.Answer.{number_of, verdict_of}
use Rattle.answer.specs.declared.Refusal.{Refusal}
use Rattle.answer.specs.declared.Reason.TheVariants.{Unmapped}
use Rattle.answer.proofs.Checks.{first_fault-fault}
use Rattle.dma.proofs.Steps.{turn, items-end, err-mapped, judged-start, judged-last, judged-nowhere, judged-fault, judged-run, ok_passes}
use Rattle.dma.proofs.judge.Goals as goal
use Rattle.dma.proofs.judge.Goals.{else-loop-m-test, then-loop-m-test+then-done-n}

-- a refusal goes up as it is
refused : {R : Type 0} (r : Result R Refusal) (e : Refusal) (v : Verdict) → IsErrAnd r (λ y. y ≡ e) → Fail (number_of e.reason) e.place ≡ v → verdict_of r ≡ v
refused (Ok x) e v is h = absurd is
refused (Err y) e v is h = rw is h

pub loop-m-init : goal.loop-m-init
unfolding length_check
loop-m-init c =
    rw (add-zero c.args.first)
    (judged-start _ _ _ _ _ c.requires.0 c.requires.2 c.in_ok-when.ensures (rw c.in_device_range.ensures at c.in_ok-unless.ensures))

pub run_at-requires : goal.run_at-requires
run_at-requires c = let j = c.loop-m.invariant in (turn _ _ j.walk c.loop-m-test.true c.if-done-n.false).asks j.below

pub returns-in_err-run : goal.returns-in_err-run
returns-in_err-run c =
    let j = c.loop-m.invariant in
    let t = turn _ _ j.walk c.loop-m-test.true c.if-done-n.false in
    let same : Err c.in_err-run.field-0.0 ≡ Err c.at.result = rw c.in_err-run.ensures.ok_part at c.in_err-run.ensures.value in
    let is : c.in_err-run.field-0.0 ≡ record { reason = Unmapped; place = c.loop-m.done } = (cc same) ∙ c.at.ensures in
    refused c.from_residual-in_err-run.result _ _ c.from_residual-in_err-run.ensures.1
    (rw is (judged-nowhere j (t.next c.run_at.ensures c.in_err-run.ensures.ok_part) t.left))

pub run_fault-requires : goal.run_fault-requires
run_fault-requires c =
    let t = turn _ _ c.loop-m.invariant.walk c.loop-m-test.true c.if-done-n.false in
    let room = t.room (t.next c.run_at.ensures c.in_ok-run.ensures.ok_part) in
    (omega (arith, room.0, c.requires.1), omega (arith, room.0, c.requires.0.limit), room.2)

pub map_err-requires : goal.map_err-requires
map_err-requires c e is κs _ _ _ _ =
    let t = turn _ _ c.loop-m.invariant.walk c.loop-m-test.true c.if-done-n.false in
    let room = t.room (t.next c.run_at.ensures c.in_ok-run.ensures.ok_part) in
    let fault = first_fault-fault _ _ _ _ (sym (rw is at (c.run_fault.ensures c.args.size 0 room.0))) in
    omega (arith, room.1, fault.below, c.loop-m.invariant.short)

pub returns-in_err-map_err : goal.returns-in_err-map_err
returns-in_err-map_err c =
    let j = c.loop-m.invariant in
    let t = turn _ _ j.walk c.loop-m-test.true c.if-done-n.false in
    let run = t.next c.run_at.ensures c.in_ok-run.ensures.ok_part in
    let fault = err-mapped _ _ _ _ _ c.in_err-map_err.was c.in_err-map_err.ensures.variant c.map_err.ensures.cases in
    let made = fault.2 in
    let is : c.in_err-map_err.field-0.0 ≡ record { reason = fault.0.reason; place = c.loop-m.done + fault.0.place } = search (rules, made) in
    refused c.from_residual-in_err-map_err.result _ _ c.from_residual-in_err-map_err.ensures.1
    (rw is (judged-fault j t.more run t.left (λ left. rw fault.1 at (c.run_fault.ensures c.args.size left (t.room run).0)) _ _ refl))

pub overflow_add-done : goal.overflow_add-done
overflow_add-done c =
    let t = turn _ _ c.loop-m.invariant.walk c.loop-m-test.true c.if-done-n.false in
    omega (arith, (t.room (t.next c.run_at.ensures c.in_ok-run.ensures.ok_part)).1, c.loop-m.invariant.short)

pub loop-m-preserved : goal.loop-m-preserved
loop-m-preserved c =
    let j = c.loop-m.invariant in
    let t = turn _ _ j.walk c.loop-m-test.true c.if-done-n.false in
    let run = t.next c.run_at.ensures c.in_ok-run.ensures.ok_part in
    rw (← add_assoc c.args.first c.loop-m.m-index 1)
    (judged-run j t.more run t.left (λ left. c.run_fault.ensures c.args.size left (t.room run).0) (ok_passes _ c.in_ok-map_err.ensures.variant))

-- the loop ends where no mapping or no offset is left
pub returns : goal.returns
returns c =
    let over : c.loop-m.done < c.args.n → length c.args.mappings.now ≤ c.args.first + c.loop-m.m-index =
    elim c.loop-m-test.branch [ else-loop-m-test w ↦ λ _. items-end _ _ _ w.loop-m-test.false | then-loop-m-test+then-done-n w ↦ λ h. absurd (omega arith) ] in
    rw c.at-2.ensures at c.when-2.ensures ∙ judged-last c.loop-m.invariant over
