use Rattle.std.proofs.Common.{◌≡◌, ◌+◌, ◌%◌, ◌^◌, arith}
use native.Mathlib.Nat.{sub-zero}
use Rattle.std.proofs.lemmas.Result.{err_from_is_err_and}
use Rattle.virtqueue.proofs.Passing.{starts, refuses, ends, turn, part-refuses, part_done}
use Rattle.virtqueue.proofs.Chains.{chain-few, taken-refused, taken_on, taken-none, further}
use Rattle.virtqueue.proofs.View.chains.Goals as goal

pub loop-heads-init : goal.loop-heads-init
loop-heads-init c =
    let first : (c.args.index + 0) % 2 ^ 16 ≡ c.args.index = omega arith in
    record { few = omega arith; ahead = rw (sub-zero c.args.n, first) (starts _ _ _) }

pub returns-in_err-head : goal.returns-in_err-head
returns-in_err-head c =
    let p = err_from_is_err_and c.from_residual.result c.from_residual.ensures.1 in
    rw (p.1, p.2) (refuses c.loop-heads.invariant.ahead _ _ (taken-refused _ _ _ _ _ c.loop-heads-test.true _ _ c.in_err-head.ensures))

pub returns-in_err-buffers : goal.returns-in_err-buffers
returns-in_err-buffers c =
    let p = err_from_is_err_and c.from_residual-in_err-buffers.result c.from_residual-in_err-buffers.ensures.1 in
    let next = taken_on _ _ _ _ _ c.loop-heads-test.true _ c.in_ok-head.ensures in
    rw (p.1, p.2) (part-refuses c.loop-heads.invariant.ahead _ _ _ c.in_err-buffers.ensures next)

pub loop-heads-preserved : goal.loop-heads-preserved
loop-heads-preserved c =
    let next = taken_on _ _ _ _ _ c.loop-heads-test.true _ c.in_ok-head.ensures in
    let d = part_done c.in_ok-buffers.ensures in
    let sane = c.args.self.now.walkable.sane in
    let few = c.loop-heads.invariant.few in
    record {
      few = omega (arith, d.2, sane.few, sane.some, chain-few _ _ _ _ _ d.0 d.1);
      ahead = rw (← (further c.args.index c.loop-heads.heads)) (turn c.loop-heads.invariant.ahead c.in_ok-buffers.ensures c.chain.auto.numbers next);
    }

pub returns : goal.returns
returns c = ends c.loop-heads.invariant.ahead (taken-none _ _ _ _ _ c.loop-heads-test.false)
