-- Worked values: files as bytes and as records, which refusal the reader gives and where (rules 9.4 and 9.5), and what the writer answers and
-- leaves (rules 9.8 to 9.10).
use Rattle.std.specs.Prelude.{ℕ, ◌-◌, ◌^◌, ◌<◌, ◌≡◌, List, [], ◌∷◌, ◌++◌, map, length, replicate}
use Rattle.answer.specs.Codes.{TooLong, Truncated, Header, UnknownPart, Value, NoSpace, Magic}
use Rattle.answer.specs.Limits.{transfer_limit}
use Rattle.answer.specs.Answer.{Answer, done, refused}
use Rattle.wire.specs.Field.{bytes_of}
use Rattle.device_file.specs.Layout.{Region, DtPath, DtIndex, Interrupt}
use Rattle.device_file.specs.Read.{Record, File, read_file}
use Rattle.device_file.specs.Write.{Written, start_file, append_record}

-- ---- bytes

abbrev pub ConfigSpace : ℕ
ConfigSpace = 5

abbrev pub BarIndex : ℕ
BarIndex = 6

abbrev pub PhysAddr : ℕ
PhysAddr = 7

-- magic, version 2, flags 7
abbrev pub header : List ℕ
header = 0x00 ∷ 0x69 ∷ 0x63 ∷ 0x70 ∷ 2 ∷ 0 ∷ 0 ∷ 0 ∷ 7 ∷ 0 ∷ 0 ∷ 0 ∷ []

-- type, length, content
abbrev pub item : ℕ → ℕ → List ℕ → List ℕ
item t n v = bytes_of 4 t ++ bytes_of 4 n ++ v

-- flags, offset and length of a REGION; property and index; flags and handle; flags, and an index or an address
abbrev pub region : List ℕ
region = bytes_of 4 1 ++ bytes_of 8 0x1000 ++ bytes_of 8 0x2000

abbrev pub path : List ℕ
path = 0x2f ∷ 0x61 ∷ 0x62 ∷ []

abbrev pub index : ℕ → List ℕ
index property = bytes_of 4 property ++ bytes_of 4 9

abbrev pub interrupt : List ℕ
interrupt = bytes_of 4 0 ++ bytes_of 4 3

abbrev pub space : List ℕ
space = bytes_of 4 5

abbrev pub bar : List ℕ
bar = bytes_of 4 0 ++ bytes_of 4 1

abbrev pub address : List ℕ
address = bytes_of 4 0 ++ bytes_of 8 (2 ^ 40)

-- a REGION with one sub-record of each type, and an INTERRUPT
abbrev pub card : List ℕ
card =
    header ++ item Region 103 region ++ item DtPath 11 path ++ item DtIndex 16 (index 4) ++ item ConfigSpace 12 space ++ item BarIndex 16 bar ++ item PhysAddr 20 address
    ++ item Interrupt 16 interrupt

-- ---- reading

infix 75 ◌at◌has◌
abbrev pub ◌at◌has◌ : ℕ → ℕ → List ℕ → Record
t at p has v = record { type = t; start = p; content = v }

abbrev pub holding : List Record → Answer File
holding rs = done (record { magic = 0x70636900; version = 2; flags = 7; records = rs })

pub record Reading : Type 0 where
  pub bytes : List ℕ
  pub answer : Answer File

infix 70 ◌reads◌
abbrev pub ◌reads◌ : List ℕ → Answer File → Reading
bytes reads answer = record { bytes = bytes; answer = answer }

abbrev pub readings : List Reading
readings =
    header reads holding []
    ∷ card reads holding
    (Region at 12 has region ∷ DtPath at 40 has path ∷ DtIndex at 51 has index 4 ∷ ConfigSpace at 67 has space ∷ BarIndex at 79 has bar ∷ PhysAddr at 95 has address
    ∷ Interrupt at 115 has interrupt ∷ [])
    -- a path may be empty
    ∷ (header ++ item Region 36 region ++ item DtPath 8 []) reads holding (Region at 12 has region ∷ DtPath at 40 has [] ∷ [])
    -- a header that ends early, though its magic is no magic; the magic
    ∷ (1 ∷ replicate 10 0) reads refused Truncated 0
    ∷ (1 ∷ replicate 11 0) reads refused Magic 0
    -- under 8 bytes left; a type that there is not; a wrong level, both ways
    ∷ (header ++ replicate 5 0) reads refused Truncated 12
    ∷ (header ++ item 8 8 []) reads refused UnknownPart 12
    ∷ (header ++ item 0 8 []) reads refused UnknownPart 12
    ∷ (header ++ item DtPath 8 []) reads refused Header 12
    ∷ (header ++ item Region 44 region ++ item Interrupt 16 interrupt) reads refused Header 40
    -- a length past the file, and past its REGION; 20 and 19 come before, and 22 behind
    ∷ (header ++ item Interrupt 17 interrupt) reads refused Truncated 12
    ∷ (header ++ item Region 36 region ++ item DtPath 11 path) reads refused Truncated 40
    ∷ (header ++ item 8 (2 ^ 32 - 1) []) reads refused UnknownPart 12
    ∷ (header ++ item DtPath (2 ^ 32 - 1) path) reads refused Header 12
    ∷ (header ++ item Interrupt (2 ^ 32 - 1) interrupt) reads refused Truncated 12
    -- a length that the type has not
    ∷ (header ++ item Region 7 region) reads refused Value 12
    ∷ (header ++ item Region 0 region) reads refused Value 12
    ∷ (header ++ item Region 27 region) reads refused Value 12
    ∷ (header ++ item Interrupt 15 interrupt) reads refused Value 12
    -- bytes left over in a REGION
    ∷ (header ++ item Region 31 region ++ replicate 3 0) reads refused Truncated 40
    -- a property that there is not
    ∷ (header ++ item Region 44 region ++ item DtIndex 16 (index 0)) reads refused Value 40
    ∷ (header ++ item Region 44 region ++ item DtIndex 16 (index 5)) reads refused Value 40
    ∷ []

-- every file of a list is answered so
abbrev pub Answered : List Reading → Type 0
Answered qs = map (λ (q : Reading). read_file q.bytes) qs ≡ map (λ (q : Reading). q.answer) qs

-- a file over the limit, whatever it holds
abbrev pub Limited : Type 0
Limited = (s : List ℕ) → transfer_limit < length s → read_file s ≡ refused TooLong 0

-- ---- writing

pub record Writing : Type 0 where
  pub asked : Answer Written
  pub answer : Answer Written

infix 70 ◌gives◌
abbrev pub ◌gives◌ : Answer Written → Answer Written → Writing
asked gives answer = record { asked = asked; answer = answer }

-- so many bytes behind those in use
abbrev pub spare : ℕ → List ℕ
spare n = replicate n 0xee

abbrev pub left : List ℕ → ℕ → Answer Written
left buffer used = done (record { buffer = buffer; used = used })

-- a REGION alone, and with an INTERRUPT behind it
abbrev pub alone : List ℕ
alone = header ++ item Region 28 region

abbrev pub followed : List ℕ
followed = alone ++ item Interrupt 16 interrupt

abbrev pub writings : List Writing
writings =
    start_file (spare 14) 0x70636900 2 7 gives left (header ++ spare 2) 12
    ∷ start_file (spare 3) 0x70636901 2 7 gives refused Magic 0
    ∷ start_file (spare 11) 0x64740000 2 7 gives refused NoSpace 0
    -- a record outside, and sub-records, which grow their REGION
    ∷ append_record (header ++ spare 30) 12 Region region gives left (alone ++ spare 2) 40
    ∷ append_record (alone ++ spare 12) 40 DtPath path gives left (header ++ item Region 39 region ++ item DtPath 11 path ++ spare 1) 51
    ∷ append_record (header ++ item Region 39 region ++ item DtPath 11 path ++ spare 12) 51 ConfigSpace space
    gives left (header ++ item Region 51 region ++ item DtPath 11 path ++ item ConfigSpace 12 space) 63
    ∷ append_record (alone ++ spare 16) 40 Interrupt interrupt gives left followed 56
    -- no REGION stands last; that comes before a length that does not fit
    ∷ append_record (followed ++ spare 8) 56 DtPath [] gives refused Header 0
    ∷ append_record (header ++ spare 8) 12 DtPath [] gives refused Header 0
    ∷ append_record (header ++ spare 40) 12 ConfigSpace path gives refused Header 0
    ∷ append_record (alone ++ spare 40) 40 8 [] gives refused UnknownPart 0
    -- a length that does not fit, a REGION that is not bare, a property; then the room
    ∷ append_record (alone ++ spare 40) 40 ConfigSpace path gives refused Value 0
    ∷ append_record (header ++ spare 60) 12 Region (region ++ item DtPath 8 []) gives refused Value 0
    ∷ append_record (alone ++ spare 5) 40 DtIndex (index 5) gives refused Value 0
    ∷ append_record (alone ++ spare 15) 40 DtIndex (index 1) gives refused NoSpace 0
    -- bytes in use past the buffer, and those that do not read well
    ∷ append_record alone 41 DtPath [] gives refused Truncated 0
    ∷ append_record (header ++ item Interrupt 15 interrupt ++ spare 8) 28 DtPath [] gives refused Value 12
    ∷ append_record (alone ++ spare 8) 39 DtPath [] gives refused Truncated 12
    ∷ []

-- every call of a list is answered so
abbrev pub Given : List Writing → Type 0
Given qs = map (λ (q : Writing). q.asked) qs ≡ map (λ (q : Writing). q.answer) qs
