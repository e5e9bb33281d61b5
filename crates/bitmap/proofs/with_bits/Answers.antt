use Rattle.std.proofs.Common.{◌≡◌, ◌<◌, ◌-◌, ◌^◌, arith}
use lib.Pow.{pow_mono}
use Rattle.answer.specs.Tests.{pick}
use Rattle.bitmap.specs.Bits.{with_bits}
use Rattle.bitmap.proofs.Bits.{bits_are, bits_lt, bound}
use Rattle.bitmap.proofs.with_bits.Goals as goal
use Rattle.bitmap.proofs.with_bits.Goals.{then-v, else-v}

pub overflow_sub-run : goal.overflow_sub-run
overflow_sub-run c = omega (arith, pow_mono {i = c.args.k} {j = c.args.e} c.requires.0)

pub returns : goal.returns
unfolding pick
returns c =
    let a = c.args in
    let run : c.if-v.run ≡ pick a.v (2 ^ a.e - 2 ^ a.k) 0 = elim c.if-v.branch [ then-v w ↦ rw (w.if-v.true, ← c.power-high.ensures, ← c.power-low.ensures) w.run-is | else-v w ↦ rw w.if-v.false w.run-is ] in
    let h : with_bits a.k a.e (pick a.v 1 0) a.x < 2 ^ 8 = bits_lt a.k a.e 8 (pick a.v 1 0) a.x c.requires.1 (bound a.v) (omega arith) in
    let b = bits_are a.k a.e a.x a.v c.requires.0 in
    rw (c.power-high.ensures, c.power-low.ensures, run) (omega (arith, h, b))
