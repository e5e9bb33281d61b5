-- The split virtqueue (rules 4.15 to 4.19, with the values of rules 7.37 to 7.47): what a walk of it reads, in which order, and what it comes to. All is over a way to read, so that
-- card reads and the ledger's bytes go by one rule.
use Rattle.std.specs.Prelude.{ℕ, zero, suc, ◌+◌, ◌-◌, ◌*◌, ◌/◌, ◌%◌, ◌^◌, Bool, ltb, List, [], ◌∷◌, ◌++◌, length, ◌==◌, nat_eq, nat_lt}
use Rattle.std.proofs.Math.Option.{Option, none, some}
use Rattle.answer.specs.Tests.{pick}
use Rattle.answer.specs.Codes.{Index, NoSpace, QueueNotReady, RingDistance, DescriptorIndex, ChainLength, Indirect}
use Rattle.answer.specs.Checks.{Verdict, Pass, Fail, ◌when◌, ◌unless◌, ◌at◌}
use Rattle.answer.specs.Answer.{Answer, done, settle, ◌onward◌}
use Rattle.wire.specs.Field.{field}
use Rattle.address.specs.Address.{device_address}
use Rattle.iommu.specs.declared.Mapping.{Mapping}
use Rattle.memory.specs.Memory.{Memory}
use Rattle.dma.specs.Transfers.{device_read_checks, gather}
use Rattle.virtqueue.specs.declared.Queue.{Queue}
use Rattle.virtqueue.specs.declared.Descriptor.{Descriptor}

-- ---- reading

-- the bytes that a read of so many from a start on gives, or its refusal; a start is a whole number, and need not fit into 64 bits
abbrev pub Reader : Type 0
Reader = ℕ → ℕ → Answer (List ℕ)

-- rule 4.16: a place is at most 2^64 − 1
unfoldable pub capped : ℕ → ℕ
capped x = pick (nat_lt x (2 ^ 64)) x (2 ^ 64 - 1)

-- rule 4.16: a read's refusal, placed at the device address of the faulty byte. Refusal 9 has offset 0, and so the read's start.
unfoldable pub placed_from : ℕ → Verdict → Verdict
placed_from start Pass = Pass
placed_from start (Fail code offset) = Fail code (capped (start + offset))

-- rule 4.16: a card read
unfoldable pub card_read : List Mapping → Memory → Reader
card_read ms m start n =
    settle (placed_from start (device_read_checks ms m.shadow (device_address start) n)) (gather ms m (device_address start) n)

-- ---- the queue

-- rule 4.15: the last queue that a card has
abbrev pub last_queue : ℕ
last_queue = 3

-- rule 4.15: how many descriptors a queue's register tells of, where they are, and where the driver's ring is
unfoldable pub queue_of : List ℕ → Queue
queue_of v = record { size = field v 0 2; table = field v 8 8; driver = field v 16 8 }

-- rule 4.15: 28 unless the register is set, and says that the queue is enabled
unfoldable pub readied : Option (List ℕ) → Answer Queue
readied none = settle (Fail QueueNotReady 0) (queue_of [])
readied (some v) = settle (QueueNotReady when nat_eq (field v 4 2) 0) (queue_of v)

-- rule 4.15: of a queue by its number, 6 and 28
unfoldable pub open_queue : ℕ → Option (List ℕ) → Answer Queue
open_queue queue v = settle (Index when ltb last_queue queue) v onward readied

-- ---- chains (rule 4.18)

-- address 8, length 4, flags 2, next 2
unfoldable pub descriptor_of : List ℕ → Descriptor
descriptor_of b = record { address = field b 0 8; length = field b 8 4; flags = field b 12 2; next = field b 14 2 }

-- flag bit 0: the chain goes on with `next`
unfoldable pub goes_on : Descriptor → Bool
goes_on x = x.flags % 2 == 1

-- flag bit 2: the descriptor tells of a table of others
unfoldable pub is_indirect : Descriptor → Bool
is_indirect x = x.flags / 4 % 2 == 1

-- 30 unless the queue has such a descriptor; `heads` are finished
unfoldable pub in_table : Queue → ℕ → ℕ → Answer ℕ
in_table q heads d = settle (DescriptorIndex unless ltb d q.size at heads) d

-- a descriptor, read whole; 32 before its next is looked at
unfoldable pub described : Reader → Queue → ℕ → ℕ → Answer Descriptor
described read q heads d =
    read (q.table + 16 * d) 16
    onward λ b. settle (Indirect when is_indirect (descriptor_of b) at heads) (descriptor_of b)

-- the chain from a descriptor on, which at most `more` others follow; 31 before 30 of the same next
unfoldable pub chain : Reader → Queue → ℕ → ℕ → ℕ → Answer (List Descriptor)
chain read q heads zero d =
    described read q heads d
    onward λ x. settle (ChainLength when goes_on x at heads) (x ∷ [])
chain read q heads (suc more) d =
    described read q heads d
    onward λ x. pick (goes_on x) (in_table q heads x.next onward λ e. chain read q heads more e onward λ xs. done (x ∷ xs)) (done (x ∷ []))

-- ---- heads (rule 4.17)

-- the index after another, modulo 2^16
unfoldable pub next_index : ℕ → ℕ
next_index i = (i + 1) % 2 ^ 16

-- how far an index lies behind another, modulo 2^16
unfoldable pub distance : ℕ → ℕ → ℕ
distance index last = (index + (2 ^ 16 - last)) % 2 ^ 16

-- the head of an index stands at that place modulo the size
unfoldable pub head_at : Reader → Queue → ℕ → ℕ → Answer ℕ
head_at read q heads i = read (q.driver + (4 + 2 * (i % q.size))) 2 onward λ b. in_table q heads (field b 0 2)

-- the buffers of `n` heads from an index on, each chain before the next head
unfoldable pub taken : Reader → Queue → ℕ → ℕ → ℕ → Answer (List Descriptor)
taken read q zero heads i = done []
taken read q (suc n) heads i =
    head_at read q heads i
    onward λ h. chain read q heads (q.size - 1) h
    onward λ xs. taken read q n (suc heads) (next_index i)
    onward λ ys. done (xs ++ ys)

-- ---- the walk

-- what an accepted walk found: the buffers in order, and the ring's index
pub record Walked : Type 0 where
  pub buffers : List Descriptor
  pub index : ℕ

abbrev pub found : List Descriptor → ℕ → Walked
found xs i = record { buffers = xs; index = i }

-- rule 4.17: 29 where more heads stand between the two indices than the queue has places
unfoldable pub near : Queue → ℕ → ℕ → Answer ℕ
near q last index = settle (RingDistance when ltb q.size (distance index last)) index

-- the ring's index first, then heads and chains from the caller's last index on
unfoldable pub walked : Reader → Queue → ℕ → Answer Walked
walked read q last =
    read (q.driver + 2) 2
    onward λ b. near q last (field b 0 2)
    onward λ index. taken read q (distance index last) 0 last
    onward λ xs. done (found xs index)

-- rule 4.19: three numbers for each buffer
unfoldable pub numbers_of : List Descriptor → List ℕ
numbers_of [] = []
numbers_of (x ∷ xs) = x.address ∷ x.length ∷ x.flags ∷ numbers_of xs

-- rule 4.19: 27, last, where they do not fit into an array of `room` numbers
unfoldable pub fitting : ℕ → Walked → Answer Walked
fitting room w = settle (NoSpace when ltb room (length (numbers_of w.buffers))) w

-- rule 4.15, whole: the walk of a queue by its number and its register's value
unfoldable pub walk : Reader → ℕ → Option (List ℕ) → ℕ → ℕ → Answer Walked
walk read queue v last room = open_queue queue v onward λ q. walked read q last onward fitting room
