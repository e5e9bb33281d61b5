-- The loop over the parts: those from `at` on decide, over what the parts so far have named.
use Rattle.std.proofs.Common.{◌-◌, length}
use Rattle.parts.proofs.Loading.{Loop}
use Rattle.parts.proofs.load_parts.Given as goal

abbrev pub invariant-loop-part : goal.invariant-loop-part
invariant-loop-part l = Loop l.words l.s l.at l.slots l.offered

abbrev pub decreases-loop-part : goal.decreases-loop-part
decreases-loop-part l = length l.s - l.at
