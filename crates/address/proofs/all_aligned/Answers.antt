-- A low bit of any of the three is one of all together.
use Rattle.std.proofs.Common.{◌∙◌, bit_or}
use Rattle.address.proofs.Alignment.{aligned_or}
use Rattle.address.proofs.all_aligned.Goals as goal

pub returns : goal.returns
returns c =
    let x = c.args in
    c.aligned.ensures ∙ aligned_or (bit_or x.a x.b) x.c ∙ rw (aligned_or x.a x.b)
