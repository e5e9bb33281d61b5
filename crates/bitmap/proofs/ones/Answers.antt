use Rattle.std.proofs.Common.{◌≡◌, ◌+◌, ◌/◌, ◌%◌, eqb-true}
use Rattle.bitmap.proofs.Bits.{ones-are}
use Rattle.bitmap.proofs.ones.Goals as goal

pub returns : goal.returns
returns c t =
    let x = c.args.x in
    let h : x / c.power.result % c.power-whole.result + 1 ≡ c.power-whole.result = eqb-true _ _ t in
    ones-are _ _ _ c.requires.0 (rw (c.power.ensures, c.power-whole.ensures) at h)
