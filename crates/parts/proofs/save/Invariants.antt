-- The loop writes: the parts of the rows from `i + 1` on, written from `at` on, make of the buffer what those of all rows that are kept
-- make of the one that has the part of offered features.
use Rattle.std.proofs.Common.{◌+◌, ◌-◌}
use Rattle.registers.specs.File.{file_of}
use Rattle.parts.proofs.Saving.{Left}
use Rattle.parts.proofs.save.Given as goal

abbrev pub invariant-loop-i : goal.invariant-loop-i
invariant-loop-i l = Left l.words (file_of l.words l.fn.registers) l.initial.buf l.buf l.at (l.i + 1)

abbrev pub decreases-loop-i : goal.decreases-loop-i
decreases-loop-i l = 14 - l.i
