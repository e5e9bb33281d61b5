use Rattle.std.proofs.Common.{◌≡◌, ◌+◌, ◌-◌, sym, arith}
use Rattle.answer.specs.Tests.{pick}
use Rattle.bitmap.proofs.Bits.{bound}
use Rattle.bitmap.proofs.Runs.{run_in}
use Rattle.bitmap.proofs.set_in_byte.Goals as goal

pub returns-then-k-e : goal.returns-then-k-e
returns-then-k-e c =
    let a = c.args in
    let e : a.k + (a.e - a.k) ≡ a.e = omega arith in
    let h = run_in a.map.now a.q (c.requires.1 (omega arith)) (pick a.v 1 0) (bound a.v) a.k (a.e - a.k) (omega arith) in
    rw c.with_bits.ensures (sym (rw e at h))
