-- What is still to be copied makes of the buffer what the whole makes of the one given.
use Rattle.std.proofs.Common.{◌≡◌, ◌+◌, ◌-◌, ◌≤◌}
use Rattle.std.proofs.Math.Seq.{sets}
use Rattle.wire.specs.Field.{slice}
use Rattle.wire.proofs.copy.Given as goal

abbrev pub invariant-loop-i : goal.invariant-loop-i
invariant-loop-i l = (l.i ≤ l.n) × (sets l.initial.dst l.to (slice l.src l.from l.n) ≡ sets l.dst (l.to + l.i) (slice l.src (l.from + l.i) (l.n - l.i)))
