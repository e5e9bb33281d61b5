-- What the parts of a walk give: they count buffers, and put their numbers into an array as far as it has room.
use Rattle.std.specs.Prelude.{◌≡◌, ℕ, ◌+◌, ◌*◌, ◌≤◌, List, [], ◌∷◌, length, Result, nat_lt}
use Rattle.std.proofs.lemmas.List.Edits.{sets}
use Rattle.answer.specs.Tests.{pick}
use Rattle.answer.specs.Answer.{Answer, done, ◌onward◌, told}
use Rattle.answer.specs.declared.Refusal.{Refusal}
use Rattle.virtqueue.specs.declared.Queue.{Queue}
use Rattle.virtqueue.specs.declared.Descriptor.{Descriptor}
use Rattle.virtqueue.specs.declared.Found.{Found}
use Rattle.virtqueue.specs.Ring.{Reader, Walked, walked, numbers_of}
use Rattle.virtqueue.specs.Progress.{counted}

-- a buffer's numbers, behind those of `buffers` others, if there is room
unfoldable pub put_at : List ℕ → ℕ → Descriptor → List ℕ
put_at ns buffers x = pick (nat_lt (length ns) (3 * buffers + 3)) ns (sets ns (3 * buffers) (numbers_of (x ∷ [])))

-- the buffers of `a` behind `before` others: how many there are then, and their numbers, where there is room for all
pub record Passes (a : Answer (List Descriptor)) (before : ℕ) (result : Result ℕ Refusal) (ns ns' : List ℕ) : Type 0 where
  pub tells : told result ≡ (a onward λ xs. done (before + length xs))
  pub stored : (xs : List Descriptor) → a ≡ done xs → 3 * (before + length xs) ≤ length ns → ns' ≡ sets ns (3 * before) (numbers_of xs)

-- a pass over what the driver offers, whether the array has room or not
pub record Offers (read : Reader) (q : Queue) (last : ℕ) (result : Result Found Refusal) (ns ns' : List ℕ) : Type 0 where
  pub tells : told result ≡ (walked read q last onward λ w. done (counted w))
  pub stored : (w : Walked) → walked read q last ≡ done w → length (numbers_of w.buffers) ≤ length ns → ns' ≡ sets ns 0 (numbers_of w.buffers)
