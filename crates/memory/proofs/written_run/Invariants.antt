-- Each byte that the search passed is written.
use Rattle.std.proofs.Common.{◌≡◌, ℕ, ◌+◌, ◌<◌}
use Rattle.bitmap.specs.Bits.{bit_of}
use Rattle.memory.proofs.written_run.Given as goal

abbrev pub invariant-loop-run : goal.invariant-loop-run
invariant-loop-run l = (k : ℕ) → k < l.run → bit_of l.shadow (l.a + k) ≡ 1
