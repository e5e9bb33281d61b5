-- Each byte that the search passed is 255.
use Rattle.std.proofs.Common.{◌*◌, ◌-◌, ◌≤◌, ◌<◌}
use Rattle.bitmap.specs.Bits.{OnesOf}
use Rattle.bitmap.proofs.ones_ahead.Given as goal

abbrev pub invariant-loop-q : goal.invariant-loop-q
invariant-loop-q l = (l.q ≤ l.last) × (l.a < 8 * l.q) × OnesOf l.map l.a (8 * l.q - l.a)

abbrev pub decreases-loop-q : goal.decreases-loop-q
decreases-loop-q l = l.last - l.q
