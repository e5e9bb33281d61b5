-- Device files of the old layout (rules 9.1 to 9.3; the values of rule 7.56): the header, and what each type of record must satisfy. Numbers are little-endian, and
-- fields stand without gaps.
use Rattle.std.specs.Prelude.{ℕ, Bool, true, not, List, [], ◌∷◌, get_or, leb, eqb}
use Rattle.answer.specs.Tests.{◌and◌, ◌or◌, pick}
use Rattle.wire.specs.Field.{field}

-- rule 9.1: the bytes of the header: magic, version and flags of 4 each
abbrev pub header_size : ℕ
header_size = 12

-- rule 9.1: the two magic numbers, of a PCI device and of one in a device tree
unfoldable pub is_magic : ℕ → Bool
is_magic x = eqb x 0x70636900 or eqb x 0x64740000

-- rule 9.2: the types of record
abbrev pub Region : ℕ
Region = 1

abbrev pub DtPath : ℕ
DtPath = 2

abbrev pub DtIndex : ℕ
DtIndex = 3

abbrev pub Interrupt : ℕ
Interrupt = 4

unfoldable pub is_type : ℕ → Bool
is_type t = leb 1 t and leb t 7

-- rule 9.2: whether a record of a type stands inside a REGION; the others stand outside
unfoldable pub is_sub : ℕ → Bool
is_sub t = not (eqb t Region or eqb t Interrupt)

-- rule 9.3: the bytes before a record's content: type and length of 4 each
abbrev pub prefix_size : ℕ
prefix_size = 8

-- rule 9.3: the bytes of a REGION before its sub-records
abbrev pub region_size : ℕ
region_size = 28

-- rule 9.3: the length of a record of each type from 0 on that has one length alone, the least length of a REGION and of a path
unfoldable pub least_length : ℕ → ℕ
least_length t = get_or (0 ∷ region_size ∷ prefix_size ∷ 16 ∷ 16 ∷ 12 ∷ 16 ∷ 20 ∷ []) t 0

-- rule 9.3: a length that a record of the type may have; sub-records follow in a REGION, and a path is as long as it is
unfoldable pub fits : ℕ → ℕ → Bool
fits t n = pick (eqb t Region or eqb t DtPath) (leb (least_length t) n) (eqb n (least_length t))

-- rule 9.3: the property of an index is 1 to 4; every other content may be anything
unfoldable pub valid_content : ℕ → List ℕ → Bool
valid_content t v = pick (eqb t DtIndex) (leb 1 (field v 0 4) and leb (field v 0 4) 4) true
