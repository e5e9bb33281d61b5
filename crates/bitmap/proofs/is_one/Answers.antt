-- A shift and a remainder are a bit.
use Rattle.std.proofs.Common.{◌/◌, ◌%◌}
use lib.ListN.{get_or}
use Rattle.bitmap.proofs.Bits.{bit_is}
use Rattle.bitmap.proofs.is_one.Goals as goal

pub returns : goal.returns
returns c = let a = c.args in rw (c.power.ensures, bit_is (a.a % 8) (get_or a.map.now (a.a / 8) 0))
