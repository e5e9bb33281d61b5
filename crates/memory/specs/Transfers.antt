-- The checks of host write, host read and invalidate, each list in the order of its rule.
use Rattle.std.specs.Prelude.{ℕ, zero, suc}
use Rattle.answer.specs.Tests.{pick}
use Rattle.answer.specs.Codes.{Range, Unwritten}
use Rattle.answer.specs.Checks.{Verdict, ◌then◌, ◌unless◌, first_fault}
use Rattle.answer.specs.Limits.{length_check}
use Rattle.address.specs.Address.{memory_offset, in_memory_range}
use Rattle.address.specs.declared.MemoryAddress.{MemoryAddress}
use Rattle.memory.specs.Shadow.{Shadow, initialized}

-- what is wrong with reading the byte at an address
unfoldable pub unwritten_at : Shadow → MemoryAddress → Verdict
unwritten_at shadow a = Unwritten unless initialized shadow a

-- how many of the `n` bytes from `a` on come before the first that is not initialized; `n` where there is none
unfoldable pub written_run : Shadow → MemoryAddress → ℕ → ℕ
written_run shadow a zero = 0
written_run shadow a (suc n) = pick (initialized shadow a) (suc (written_run shadow (memory_offset a 1) n)) 0

-- what is wrong with reading the `n` bytes from `a` on
unfoldable pub unwritten_in : Shadow → MemoryAddress → ℕ → Verdict
unwritten_in shadow a n = first_fault (λ i. unwritten_at shadow (memory_offset a i)) n

-- rule 4.7: a host write of `n` bytes to a memory of `size` bytes
unfoldable pub host_write_checks : ℕ → MemoryAddress → ℕ → Verdict
host_write_checks size a n =
    length_check n
    then Range unless in_memory_range size a n

-- rule 4.8: a host read of `n` bytes is checked as a host write, and then for 16, whose place is an offset and no address
unfoldable pub host_read_checks : ℕ → Shadow → MemoryAddress → ℕ → Verdict
host_read_checks size shadow a n =
    host_write_checks size a n
    then unwritten_in shadow a n

-- rule 4.9: invalidate, of any length, so that 13 is not tried
unfoldable pub invalidate_checks : ℕ → MemoryAddress → ℕ → Verdict
invalidate_checks size a n = Range unless in_memory_range size a n
