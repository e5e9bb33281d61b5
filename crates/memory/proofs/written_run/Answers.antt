use Rattle.std.proofs.Common.{sym, ◌∙◌, true, false, eq-eqb, arith}
use Rattle.bitmap.specs.Bits.{OnesOf}
use Rattle.memory.proofs.Shadow.{mark_is, run_is, run-ones}
use Rattle.memory.proofs.written_run.Goals as goal

pub returns-then-all_ones : goal.returns-then-all_ones
returns-then-all_ones c size room = sym (run-ones size _ _ _ room (c.all_ones.ensures c.if-all_ones.true))

pub loop-run-init : goal.loop-run-init
unfolding OnesOf
loop-run-init c = c.ones_ahead-run.ensures.1

pub returns-then-not-is_one : goal.returns-then-not-is_one
returns-then-not-is_one c size room =
    run_is _ _ _ _
    (record {
      within = omega arith;
      before = λ k h. mark_is size _ _ (omega arith) true (eq-eqb _ _ (c.loop-run.invariant k h));
      stop = λ h. mark_is size _ _ (omega arith) false (sym c.is_one.ensures ∙ c.if-not-is_one.true);
    })

pub returns : goal.returns
returns c size room =
    run_is _ _ _ _
    (record {
      within = omega arith;
      before = λ k h. mark_is size _ _ (omega arith) true (eq-eqb _ _ (c.loop-run.invariant k (omega arith)));
      stop = λ h. absurd (omega arith);
    })
