-- What the rule's checks come to, by what the code tested.
use Rattle.std.proofs.Common.{◌≡◌, ℕ, true, false, leb, ltb, le-ltb, lt-ltb, refl}
use borrow.Author.Tests.{leb-true, leb-false}
use Rattle.answer.specs.Codes.{RingDistance, DescriptorIndex, Indirect}
use Rattle.answer.specs.Checks.{◌when◌, ◌unless◌, ◌at◌}
use Rattle.answer.specs.Answer.{done, refused, settle}
use Rattle.virtqueue.specs.declared.Queue.{Queue}
use Rattle.virtqueue.specs.declared.Descriptor.{Descriptor}
use Rattle.virtqueue.specs.Ring.{in_table, near, distance, is_indirect}

module _ (q : Queue) where
  pub near_far : (last index : ℕ) → ltb q.size (distance index last) ≡ true → near q last index ≡ refused RingDistance 0
  unfolding near settle ◌when◌
  near_far last index h = rw h refl

  pub near_by : (last index : ℕ) → ltb q.size (distance index last) ≡ false → near q last index ≡ done index
  unfolding near settle ◌when◌
  near_by last index h = rw h refl

  pub past-table : (heads d : ℕ) → leb q.size d ≡ true → in_table q heads d ≡ refused DescriptorIndex heads
  unfolding in_table settle ◌unless◌ ◌at◌
  past-table heads d h = rw (le-ltb _ _ (leb-true _ _ h)) refl

  pub within-table : (heads d : ℕ) → leb q.size d ≡ false → in_table q heads d ≡ done d
  unfolding in_table settle ◌unless◌ ◌at◌
  within-table heads d h = rw (lt-ltb _ _ (leb-false _ _ h)) refl

-- a descriptor that is read, by its flag
pub direct : (heads : ℕ) (x : Descriptor) → is_indirect x ≡ false → settle (Indirect when is_indirect x at heads) x ≡ done x
unfolding settle ◌when◌ ◌at◌
direct heads x h = rw h refl

pub not-direct : (heads : ℕ) (x : Descriptor) → is_indirect x ≡ true → settle (Indirect when is_indirect x at heads) x ≡ refused Indirect heads
unfolding settle ◌when◌ ◌at◌
not-direct heads x h = rw h refl
