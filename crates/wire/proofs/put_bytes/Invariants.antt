-- What is still to be written makes of the buffer what the whole makes of the one given.
use Rattle.std.proofs.Common.{◌≡◌, ◌+◌, ◌-◌, ◌≤◌}
use Rattle.std.proofs.Math.Seq.{sets}
use Rattle.wire.specs.Field.{bytes_of}
use Rattle.wire.proofs.put_bytes.Given as goal

abbrev pub invariant-loop-i : goal.invariant-loop-i
invariant-loop-i l = (l.i ≤ l.width) × (sets l.initial.buf l.at (bytes_of l.width l.x) ≡ sets l.buf (l.at + l.i) (bytes_of (l.width - l.i) l.y))
