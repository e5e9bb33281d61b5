-- The loop counts: `n` bytes and those of the rows from `i + 1` on are all.
use Rattle.std.proofs.Common.{◌+◌, ◌-◌}
use Rattle.registers.specs.File.{file_of}
use Rattle.parts.proofs.Saving.{Count}
use Rattle.parts.proofs.saved_length.Given as goal

abbrev pub invariant-loop-i : goal.invariant-loop-i
invariant-loop-i l = Count l.words (file_of l.words l.fn.registers) l.n (l.i + 1)

abbrev pub decreases-loop-i : goal.decreases-loop-i
decreases-loop-i l = 14 - l.i
