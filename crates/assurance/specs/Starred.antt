-- The worked values of rules 7.1 to 7.12, 7.19 to 7.22 and 7.26 to 7.36, 7.48 to 7.51, and some of rules 1.19, 3.24, 4.14 and 4.15, as one table under one
-- statement (rule 8.5).
use Rattle.std.specs.Prelude.{ℕ, ◌+◌, ◌-◌, ◌/◌, ◌^◌, ◌≡◌, Bool, List, [], ◌∷◌, ◌++◌, length, replicate}
use Rattle.answer.specs.Codes.{BadBench, Flags, Index, Empty, Range, Overlap, NoRoom, Cuts, Unmapped, Unwritten, Twice, Value, Mismatch, Missing, NoSpace, QueueNotReady, RingDistance, DescriptorIndex, ChainLength, Indirect}
use Rattle.answer.specs.Answer.{Answer, done, refused}
use Rattle.address.specs.Address.{page, device_limit, device_address, memory_address}
use Rattle.memory.specs.Shadow.{packed}
use Rattle.wire.specs.Field.{bytes_of}
use Rattle.registers.specs.Rows.{DriverFeatures, QueueConfig}
use Rattle.registers.specs.declared.Card.{Card}
use Rattle.registers.specs.declared.Card.TheVariants.{Features64, Features128}
use Rattle.interrupts.specs.Lines.{off}
use Rattle.emulator.specs.Machine.{Emulator, powered_on}
use Rattle.emulator.specs.Effect.{Result, value, location, line, walked, Outcome, after, filled}
use Rattle.emulator.specs.Requests.{container, device}
use Rattle.emulator.specs.Calls.{Call, power_on, request, look_up, show_line, walk_queue, device_read, host_write, set_register, load_parts, save_parts, stop, outcome}
use Rattle.assurance.specs.Runs.{Ask}

-- an emulator that is lent so many records
unfoldable pub lent_records : ℕ → Emulator → Emulator
lent_records room e = record { memory = e.memory; room = room; machine = e.machine }

unfoldable pub outcome_to : Ask → Emulator → Outcome
outcome_to q e = outcome q.call q.buffer (lent_records q.room e)

-- the emulator behind a list of calls
unfoldable pub behind : List Ask → Emulator → Emulator
behind [] e = e
behind (q ∷ qs) e = behind qs (after (outcome_to q e).effect e)

-- A case: on a fresh emulator of a card and two pages, after the calls `before`, the call `ask` answers `answer`, tells of `probes` records
-- looked at, and leaves its buffer as `leaves`.
pub record Case : Type 0 where
  pub card : Card
  pub before : List Ask
  pub ask : Ask
  pub answer : Answer Result
  pub probes : ℕ
  pub leaves : List ℕ

-- as power on leaves it: nothing is written, whatever bytes stand there
abbrev pub fresh : Card → Emulator
fresh card =
    record { memory = record { bytes = replicate (page + page) 0xA5; shadow = packed (page + page) (replicate (page / 4) 0) }; room = 0; machine = powered_on card (page + page) }

unfoldable pub outcome_in : Case → Outcome
outcome_in c = outcome_to c.ask (behind c.before (fresh c.card))

pub record Right (c : Case) : Type 0 where
  pub answer : (outcome_in c).answer ≡ c.answer
  pub probes : (outcome_in c).probes ≡ c.probes
  pub buffer : filled (outcome_in c).effect.pieces c.ask.buffer ≡ c.leaves

-- every case of a list is right
pub data AllRight : List Case → Type 0 where
  none : AllRight []
  more : {c : Case} {cs : List Case} → Right c → AllRight cs → AllRight (c ∷ cs)

-- ---- buffers

infix 5 ◌lent◌
abbrev pub ◌lent◌ : Call → List ℕ → Ask
c lent buf = record { call = c; buffer = buf; room = 64 }

-- the same, with another number of records
infix 4 ◌within◌
abbrev pub ◌within◌ : Ask → ℕ → Ask
q within room = record { call = q.call; buffer = q.buffer; room = room }

-- a byte that nobody filled in
abbrev pub stale : ℕ → List ℕ
stale n = replicate n 0xEE

-- a map of `n` bytes of memory from its start on, at device address `d`, for reading and writing
unfoldable pub map_at : ℕ → ℕ → Ask
map_at d n = request container 113 lent bytes_of 4 32 ++ bytes_of 4 3 ++ bytes_of 8 0 ++ bytes_of 8 d ++ bytes_of 8 n

-- an unmap request's buffer with `n` in the size field
unfoldable pub unmap_buffer : ℕ → ℕ → List ℕ
unmap_buffer d n = bytes_of 4 24 ++ bytes_of 4 0 ++ bytes_of 8 d ++ bytes_of 8 n

unfoldable pub unmap_at : ℕ → ℕ → Ask
unmap_at d n = request container 114 lent unmap_buffer d n

-- request 102 with a number
unfoldable pub set_iommu_to : ℕ → Ask
set_iommu_to kind = request container 102 lent bytes_of 4 kind

-- request 110 with flags, index, start, count and data
unfoldable pub set_irqs_to : ℕ → ℕ → ℕ → ℕ → List ℕ → Ask
set_irqs_to flags index start count bytes =
    request device 110 lent bytes_of 4 (20 + length bytes) ++ bytes_of 4 flags ++ bytes_of 4 index ++ bytes_of 4 start ++ bytes_of 4 count ++ bytes

-- [0, 8192) and [8192, 12288), as rules 7.8 and 7.9 have them
unfoldable pub two_mappings : List Ask
two_mappings = map_at 0 8192 ∷ map_at 8192 4096 ∷ []

-- queue 1 of four descriptors from device address 0x10000 on, enabled or not, with the driver's ring from another one on
unfoldable pub set_queue : ℕ → ℕ → Ask
set_queue enabled driver = set_register QueueConfig 1 lent bytes_of 2 4 ++ bytes_of 2 0 ++ bytes_of 2 enabled ++ bytes_of 2 0 ++ bytes_of 8 0x10000 ++ bytes_of 8 driver ++ bytes_of 8 0

-- a descriptor: address, length, flags and next
unfoldable pub describe : ℕ → ℕ → ℕ → ℕ → List ℕ
describe a n flags next = bytes_of 8 a ++ bytes_of 4 n ++ bytes_of 2 flags ++ bytes_of 2 next

-- A driver that sets up that queue at the start of memory: so much of its descriptors, and of its ring, at 0x10040, from the index on. Nobody
-- writes the ring's flags.
unfoldable pub offers : List ℕ → List ℕ → List Ask
offers table ring = map_at 0x10000 4096 ∷ set_queue 1 0x10040 ∷ (host_write (memory_address 0) lent table) ∷ (host_write (memory_address 66) lent ring) ∷ []

-- two heads, 3 and then 0, at the ring's places 3 and 0, which the index 1 has last; the second is a chain of two
unfoldable pub two_heads : List Ask
two_heads =
    offers (describe 0x5000 16 1 2 ++ describe 0 0 0 0 ++ describe 0x6000 32 2 9 ++ describe 0x7000 64 0xFF02 0)
    (bytes_of 2 1 ++ bytes_of 2 0 ++ bytes_of 2 7 ++ bytes_of 2 7 ++ bytes_of 2 3)

-- their three numbers each
abbrev pub two_heads_numbers : List ℕ
two_heads_numbers = 0x7000 ∷ 64 ∷ 0xFF02 ∷ 0x5000 ∷ 16 ∷ 1 ∷ 0x6000 ∷ 32 ∷ 2 ∷ []

-- one head, and from it on a chain through all four descriptors, of which the last has these flags, and a next that there is not
unfoldable pub long_chain : ℕ → List Ask
long_chain flags = offers (describe 0 8 1 1 ++ describe 0 8 1 2 ++ describe 0 8 1 3 ++ describe 0 8 flags 4) (bytes_of 2 1 ++ bytes_of 2 0)

unfoldable pub status_part : List ℕ
status_part = 0x03 ∷ 0x01 ∷ 0x00 ∷ 0x00 ∷ replicate 8 0x00 ++ 0x01 ∷ 0x00 ∷ 0x00 ∷ 0x00 ∷ 0x00 ∷ []

unfoldable pub offered_part : List ℕ
offered_part =
    0x00 ∷ 0x01 ∷ 0x01 ∷ 0x00 ∷ replicate 8 0x00 ++ 0x08 ∷ 0x00 ∷ 0x00 ∷ 0x00 ∷ 0x00 ∷ 0x00 ∷ 0x00 ∷ 0x30 ∷ 0x01 ∷ 0x00 ∷ 0x00 ∷ 0x00 ∷ []

-- that of the second card
unfoldable pub offered_part128 : List ℕ
offered_part128 =
    0x00 ∷ 0x01 ∷ 0x01 ∷ 0x00 ∷ replicate 8 0x00 ++ 0x10 ∷ 0x00 ∷ 0x00 ∷ 0x00 ∷ 0x00 ∷ 0x00 ∷ 0x00 ∷ 0x30 ∷ 0x01 ∷ 0x00 ∷ 0x00 ∷ 0x00
    ∷ 0x01 ∷ replicate 7 0x00

-- what request 108 leaves for region 7
unfoldable pub region_seven : List ℕ
region_seven =
    0x20 ∷ 0x00 ∷ 0x00 ∷ 0x00 ∷ 0x03 ∷ 0x00 ∷ 0x00 ∷ 0x00 ∷ 0x07 ∷ 0x00 ∷ 0x00 ∷ 0x00 ∷ 0x00 ∷ 0x00 ∷ 0x00 ∷ 0x00
    ∷ 0x00 ∷ 0x01 ∷ 0x00 ∷ 0x00 ∷ 0x00 ∷ 0x00 ∷ 0x00 ∷ 0x00 ∷ 0x00 ∷ 0x00 ∷ 0x00 ∷ 0x00 ∷ 0x00 ∷ 0x07 ∷ 0x00 ∷ 0x00 ∷ []

-- ---- the table

-- success with a result
abbrev pub gives : ℕ → Answer Result
gives n = done (value n)

-- a case that leaves its buffer as it was
abbrev pub answers_on : Card → List Ask → Ask → Answer Result → Case
answers_on card before q a = record { card = card; before = before; ask = q; answer = a; probes = 0; leaves = q.buffer }

-- a walk of queue 1 on a card from the caller's last index on, which leaves the array as another list
abbrev pub walks_on : Card → List Ask → ℕ → List ℕ → Answer Result → List ℕ → Case
walks_on card before last array a leaves = record { card = card; before = before; ask = walk_queue 1 last lent array; answer = a; probes = 0; leaves = leaves }

-- one on the first card
abbrev pub answers : List Ask → Ask → Answer Result → Case
answers = answers_on Features64

-- a look-up, with the records that it looks at
abbrev pub finds : List Ask → ℕ → Answer Result → ℕ → Case
finds before d a n = record { card = Features64; before = before; ask = look_up (device_address d) lent []; answer = a; probes = n; leaves = [] }

unfoldable pub cases : List Case
cases =
    -- rule 7.1: region 7, whatever its output fields held
    record {
      card = Features64;
      before = [];
      ask = request device 108 lent bytes_of 4 32 ++ stale 4 ++ bytes_of 4 7 ++ stale 20;
      answer = gives 0;
      probes = 0;
      leaves = region_seven;
    }
    -- rule 7.2: a reset device saved
    ∷ record { card = Features64; before = []; ask = save_parts lent stale 43; answer = gives 41; probes = 0; leaves = offered_part ++ status_part ++ stale 2 }
    -- rule 7.3: no parts
    ∷ answers [] (load_parts lent []) (refused Missing 0)
    -- rule 7.4: status alone
    ∷ answers [] (load_parts lent status_part) (gives 0)
    -- rule 7.5: status twice
    ∷ answers [] (load_parts lent status_part ++ status_part) (refused Twice 17)
    -- rule 7.6: the last page
    ∷ answers [] (map_at (device_limit - page) 4096) (gives 0)
    -- rule 7.7: past the last page
    ∷ answers [] (map_at (device_limit - page) 8192) (refused Range 0)
    -- rule 7.8: a mapping cut
    ∷ answers two_mappings (unmap_at 4096 8192) (refused Cuts 0)
    -- rule 7.9: both removed, and the sum of their sizes in the size field
    ∷ record { card = Features64; before = two_mappings; ask = unmap_at 0 12288; answer = gives 0; probes = 0; leaves = unmap_buffer 0 12288 }
    -- rule 7.10: empty before unaligned
    ∷ answers [] (map_at 1 0) (refused Empty 0)
    -- rule 7.11: a queue of size 3
    ∷ answers [] (set_register QueueConfig 0 lent bytes_of 2 3 ++ replicate 30 0) (refused Value 0)
    -- rule 7.12: the second of two bytes is not written
    ∷ answers (map_at 0 4096 ∷ (host_write (memory_address 0) lent 0x5A ∷ []) ∷ []) (device_read (device_address 0) lent stale 2) (refused Unwritten 1)
    -- rule 7.19: a reset device of the second card saved
    ∷ record { card = Features128; before = []; ask = save_parts lent stale 51; answer = gives 49; probes = 0; leaves = offered_part128 ++ status_part ++ stale 2 }
    -- rule 7.20: the other card's offered features
    ∷ answers [] (load_parts lent status_part ++ offered_part128) (refused Value 17)
    ∷ answers_on Features128 [] (load_parts lent status_part ++ offered_part) (refused Value 17)
    -- rule 7.21: bit 0 of the second word
    ∷ answers_on Features128 [] (set_register DriverFeatures 0 lent bytes_of 8 0 ++ bytes_of 8 1) (gives 0)
    -- rule 7.22: bit 1 of it
    ∷ answers_on Features128 [] (set_register DriverFeatures 0 lent bytes_of 8 0 ++ bytes_of 8 2) (refused Mismatch 0)
    -- rule 7.26: with one record a second mapping has no place, and one that overlaps the first is 10 all the same
    ∷ answers ((map_at 0 4096 within 1) ∷ []) (map_at 4096 4096 within 1) (refused NoRoom 0)
    ∷ answers ((map_at 0 4096 within 1) ∷ []) (map_at 0 4096 within 1) (refused Overlap 0)
    -- rule 7.27: with no record there is no place for any, and a host store goes on
    ∷ answers [] (map_at 0 4096 within 0) (refused NoRoom 0)
    ∷ answers [] (host_write (memory_address 0) lent 0x5A ∷ [] within 0) (gives 0)
    -- rule 7.28: 4,097 records are too many, for a fresh start too
    ∷ answers [] (power_on Features64 lent [] within 4097) (refused BadBench 0)
    ∷ answers [] (power_on Features64 lent [] within 4096) (gives 0)
    -- rule 7.29: fewer records than are in use
    ∷ answers (map_at 0 4096 ∷ []) (stop lent [] within 0) (refused BadBench 0)
    -- rule 7.30: a mapping runs on to its end, and not into the one that adjoins; place 1 of two is looked at first
    ∷ finds two_mappings 4097 (done (location (memory_address 4097) 3 4095)) 2
    ∷ finds two_mappings 8191 (done (location (memory_address 8191) 3 1)) 2
    ∷ finds two_mappings 8192 (done (location (memory_address 0) 3 4096)) 1
    -- rule 7.31: 14 tells how many were looked at, of no mappings 0; 9 tells of none
    ∷ finds two_mappings 12288 (refused Unmapped 0) 1
    ∷ finds [] 0 (refused Unmapped 0) 0
    ∷ finds two_mappings device_limit (refused Range 0) 0
    -- rule 3.24: both numbers, and no other
    ∷ answers [] (request container 101 lent bytes_of 4 1) (gives 1)
    ∷ answers [] (request container 101 lent bytes_of 4 3) (gives 1)
    ∷ answers [] (request container 101 lent bytes_of 4 2) (gives 0)
    -- rules 3.23, 7.34: another number; and a mapping is held, also where the type is the one that there is
    ∷ answers [] (set_iommu_to 2) (refused Flags 0)
    ∷ answers (map_at 0 4096 ∷ []) (set_iommu_to 1) (refused Flags 0)
    ∷ answers (map_at 0 4096 ∷ []) (set_iommu_to 3) (refused Flags 0)
    -- rules 3.25, 7.32: what rule 7.8 refuses is accepted under Type1, removes nothing and reports 0; all is there still
    ∷ record { card = Features64; before = set_iommu_to 1 ∷ two_mappings; ask = unmap_at 4096 8192; answer = gives 0; probes = 0; leaves = unmap_buffer 4096 0 }
    ∷ record { card = Features64; before = set_iommu_to 1 ∷ map_at 0 8192 ∷ map_at 8192 4096 ∷ unmap_at 4096 8192 ∷ []; ask = unmap_at 0 12288; answer = gives 0; probes = 0; leaves = unmap_buffer 0 12288 }
    -- rules 3.25, 7.33: a mapping goes whole, and more is reported than was asked
    ∷ record { card = Features64; before = set_iommu_to 1 ∷ two_mappings; ask = unmap_at 0 4096; answer = gives 0; probes = 0; leaves = unmap_buffer 0 8192 }
    -- rule 1.19: a reset keeps the type, and a fresh start sets Type1v2
    ∷ record { card = Features64; before = set_iommu_to 1 ∷ (request device 111 lent []) ∷ two_mappings; ask = unmap_at 0 4096; answer = gives 0; probes = 0; leaves = unmap_buffer 0 8192 }
    ∷ answers (set_iommu_to 1 ∷ (power_on Features64 lent []) ∷ two_mappings) (unmap_at 0 4096) (refused Cuts 0)
    -- rule 7.35: masked while triggered twice, a line only becomes pending; unmasked, it is triggered once, and masked again by its index
    ∷ answers (set_irqs_to 36 0 0 1 (bytes_of 4 5) ∷ set_irqs_to 9 0 0 1 [] ∷ set_irqs_to 33 0 0 1 [] ∷ set_irqs_to 33 0 0 1 [] ∷ []) (show_line 0 0 lent []) (done (line (record { number = 5; tally = 0; masked = 1; pending = 1 })))
    ∷ answers (set_irqs_to 36 0 0 1 (bytes_of 4 5) ∷ set_irqs_to 9 0 0 1 [] ∷ set_irqs_to 33 0 0 1 [] ∷ set_irqs_to 33 0 0 1 [] ∷ set_irqs_to 17 0 0 1 [] ∷ []) (show_line 0 0 lent [])
    (done (line (record { number = 5; tally = 1; masked = 1; pending = 0 })))
    -- rule 7.36: past the index is 9 and comes before 8; to disable an index takes any start in it
    ∷ answers [] (set_irqs_to 33 1 9 0 []) (refused Range 0)
    ∷ answers [] (set_irqs_to 34 1 8 0 []) (refused Empty 0)
    ∷ answers (set_irqs_to 36 1 0 1 (bytes_of 4 5) ∷ set_irqs_to 33 1 3 0 [] ∷ []) (show_line 1 0 lent []) (done (line off))
    -- rule 3.29: a reset disables every line
    ∷ answers (set_irqs_to 36 1 0 1 (bytes_of 4 5) ∷ (request device 111 lent []) ∷ []) (show_line 1 0 lent []) (done (line off))
    -- rule 4.14: no such line
    ∷ answers [] (show_line 3 0 lent []) (refused Index 0)
    ∷ answers [] (show_line 1 8 lent []) (refused Index 0)
    -- rule 7.48: two heads between the last index 65,535 and the index 1, one of them a chain; what is behind their numbers stays. And none
    ∷ walks_on Features64 two_heads 65535 (stale 11) (done (walked 3 1)) (two_heads_numbers ++ stale 2)
    ∷ walks_on Features128 two_heads 65535 (stale 9) (done (walked 3 1)) two_heads_numbers
    ∷ answers (offers [] (bytes_of 2 5)) (walk_queue 1 5 lent []) (done (walked 0 5))
    -- four descriptors in a chain are not too many
    ∷ walks_on Features64 (long_chain 0) 0 (stale 12) (done (walked 4 1)) (0 ∷ 8 ∷ 1 ∷ 0 ∷ 8 ∷ 1 ∷ 0 ∷ 8 ∷ 1 ∷ 0 ∷ 8 ∷ 0 ∷ [])
    -- rule 7.49: more heads than places, and as many, of which the first is none of four; a second one that is none, and a next;
    ∷ answers (offers [] (bytes_of 2 5)) (walk_queue 1 0 lent []) (refused RingDistance 0)
    ∷ answers (offers [] (bytes_of 2 4 ++ bytes_of 2 4)) (walk_queue 1 0 lent []) (refused DescriptorIndex 0)
    ∷ answers (offers (describe 0 8 0 0) (bytes_of 2 2 ++ bytes_of 2 0 ++ bytes_of 2 4)) (walk_queue 1 0 lent []) (refused DescriptorIndex 1)
    ∷ answers (offers (describe 0 8 1 4) (bytes_of 2 1 ++ bytes_of 2 0)) (walk_queue 1 0 lent []) (refused DescriptorIndex 0)
    -- a chain that goes on behind its fourth descriptor, whatever the next is; and one whose fourth is indirect too
    ∷ answers (long_chain 1) (walk_queue 1 0 lent []) (refused ChainLength 0)
    ∷ answers (long_chain 5) (walk_queue 1 0 lent []) (refused Indirect 0)
    -- rule 7.50: of a descriptor the next is not written, which nothing goes on with; no ring there; and one that begins at 2^64 − 2
    ∷ answers_on Features128 (offers (bytes_of 8 0 ++ bytes_of 4 8 ++ bytes_of 2 0) (bytes_of 2 1 ++ bytes_of 2 0)) (walk_queue 1 0 lent stale 3) (refused Unwritten 0x1000E)
    ∷ answers (set_queue 1 0x10040 ∷ []) (walk_queue 1 0 lent []) (refused Unmapped 0x10042)
    ∷ answers (set_queue 1 (2 ^ 64 - 2) ∷ []) (walk_queue 1 0 lent []) (refused Range (2 ^ 64 - 1))
    -- rule 7.51: room for eight numbers of nine
    ∷ answers two_heads (walk_queue 1 65535 lent stale 8) (refused NoSpace 0)
    -- rule 4.15: no such queue; one whose register is not set, and one that is not enabled
    ∷ answers (set_queue 1 0x10040 ∷ []) (walk_queue 4 0 lent []) (refused Index 0)
    ∷ answers (set_queue 1 0x10040 ∷ []) (walk_queue 0 0 lent []) (refused QueueNotReady 0)
    ∷ answers (set_queue 0 0x10040 ∷ []) (walk_queue 1 0 lent []) (refused QueueNotReady 0)
    ∷ []

-- The statement: all of them are right. proofs/Starred.antt has its term.
abbrev pub Starred : Type 0
Starred = AllRight cases
