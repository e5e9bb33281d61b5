-- What the checks of host transfers and of an invalidation tell where they pass.
use Prim.Native.Nat.{ℕ, ◌+◌, ◌≤◌}
use mathlib.Core.Path.{◌≡◌}
use borrow.Author.Tests.{leb-true}
use Rattle.answer.specs.Checks.{Pass}
use Rattle.answer.proofs.Checks.{then_pass, unless_pass}
use Rattle.address.specs.Address.{in_memory_range}
use Rattle.address.specs.declared.MemoryAddress.{MemoryAddress}
use Rattle.memory.specs.Shadow.{Shadow}
use Rattle.memory.specs.Transfers.{host_write_checks, host_read_checks, invalidate_checks}

module _ (size : ℕ) (a : MemoryAddress) (n : ℕ) where
  pub invalidate-room : invalidate_checks size a n ≡ Pass → a.0 + n ≤ size
  unfolding invalidate_checks in_memory_range
  invalidate-room h = leb-true _ _ (unless_pass _ _ h)

  pub host_write-room : host_write_checks size a n ≡ Pass → a.0 + n ≤ size
  unfolding host_write_checks in_memory_range
  host_write-room h = leb-true _ _ (unless_pass _ _ (then_pass _ _ h).1)

  -- a read is checked as a write, and then its bytes must be written
  pub host_read-room : (shadow : Shadow) → host_read_checks size shadow a n ≡ Pass → a.0 + n ≤ size
  unfolding host_read_checks
  host_read-room shadow h = host_write-room (then_pass _ _ h).0
