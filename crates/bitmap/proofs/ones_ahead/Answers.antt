use Rattle.std.proofs.Common.{◌≡◌, ◌+◌, arith}
use Rattle.bitmap.proofs.Runs.{ones_then, ones-whole, ones_none}
use Rattle.bitmap.proofs.ones_ahead.Goals as goal

pub returns-then-first-last : goal.returns-then-first-last
returns-then-first-last c = (omega arith, ones_none _ _)

pub returns-then-not-ones_in_byte : goal.returns-then-not-ones_in_byte
returns-then-not-ones_in_byte c = (omega arith, ones_none _ _)

pub loop-q-preserved : goal.loop-q-preserved
loop-q-preserved c =
    let q = c.loop-q.q in (
      omega arith,
      omega arith,
      ones_then _ _ _ _ _ _ (omega arith) (omega arith) c.loop-q.invariant.2
          (ones-whole _ q 1 (λ j h. let e : q + j ≡ q = omega arith in rw e c.if-map-q.false)),
    )
