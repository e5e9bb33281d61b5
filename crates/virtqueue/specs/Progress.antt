-- What the code's walk asks for, and what it gives.
use Rattle.std.specs.Prelude.{◌≡◌, ℕ, ◌*◌, ◌%◌, ◌<◌, ◌≤◌, List, length, Result}
use Rattle.std.proofs.lemmas.List.Edits.{sets}
use Rattle.answer.specs.Answer.{done, refused, ◌onward◌, told}
use Rattle.answer.specs.declared.Refusal.{Refusal}
use Rattle.iommu.specs.declared.Mapping.{Mapping}
use Rattle.dma.specs.Walk.{Ready}
use Rattle.virtqueue.specs.declared.Queue.{Queue}
use Rattle.virtqueue.specs.declared.Found.{Found}
use Rattle.virtqueue.specs.Ring.{Reader, Walked, walked, numbers_of, fitting}

-- a queue as the register of a sound machine tells of it
pub record Sane (q : Queue) : Type 0 where
  pub some : 0 < q.size
  pub few : q.size ≤ 256
  pub table : q.table % 16 ≡ 0
  pub driver : q.driver % 2 ≡ 0

-- what a walk asks of the mappings, of memory and marks of such lengths, and of the queue
pub record Walkable (ms : List Mapping) (size marks : ℕ) (q : Queue) : Type 0 where
  pub ready : Ready ms size
  pub marked : size ≤ 8 * marks
  pub sane : Sane q

-- what the code tells of a walk
abbrev pub counted : Walked → Found
counted w = record { buffers = length w.buffers; index = w.index }

-- The walk of a queue, which reads by `read` and takes the array from `ns` to `ns'`: it tells what the rule says, and stores the numbers of
-- what was found; a refused one stores nothing.
pub record Walks (read : Reader) (q : Queue) (last : ℕ) (result : Result Found Refusal) (ns ns' : List ℕ) : Type 0 where
  pub tells : told result ≡ (walked read q last onward fitting (length ns) onward λ w. done (counted w))
  pub stored : (w : Walked) → (walked read q last onward fitting (length ns)) ≡ done w → ns' ≡ sets ns 0 (numbers_of w.buffers)
  pub kept : (code place : ℕ) → told result ≡ refused code place → ns' ≡ ns
