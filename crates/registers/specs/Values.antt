-- What a register's value must satisfy (rules 5.2 to 5.5). Setting, loading and soundness all go by these checks.
use Rattle.std.specs.Prelude.{ℕ, zero, suc, ◌*◌, ◌%◌, ◌^◌, Bool, true, List, [], ◌∷◌, ◌++◌, length, get_or, leb, eqb}
use Rattle.std.specs.Int.Bits.{bit_and}
use Rattle.answer.specs.Tests.{◌and◌, ◌or◌, pick}
use Rattle.answer.specs.Codes.{Twice, Value, Mismatch}
use Rattle.answer.specs.Checks.{Verdict, Pass, ◌then◌, ◌when◌, ◌unless◌}
use Rattle.wire.specs.Field.{field, bytes_of}
use Rattle.registers.specs.Rows.{OfferedFeatures, DriverFeatures, QueueConfig, NotifyConfig, kind_of, size_of}

-- ---- features, over the number of words `w` that the card has of them

-- rules 5.7 and 5.21: what a card offers in each word: bits 28, 29 and 32 of the first, bit 0 of the second, of others nothing
unfoldable pub offered_word : ℕ → ℕ
offered_word i = get_or (0x130000000 ∷ 1 ∷ []) i 0

-- the bytes of the first `w` words
unfoldable pub offered : ℕ → List ℕ
offered zero = []
offered (suc i) = offered i ++ bytes_of 8 (offered_word i)

-- each of the first `w` words of a value passes the test against the word that is offered there
unfoldable pub each_word : (ℕ → ℕ → Bool) → ℕ → List ℕ → Bool
each_word test zero v = true
each_word test (suc i) v = each_word test i v and test (field v (8 * i) 8) (offered_word i)

-- rule 5.5: no bit that is not offered
unfoldable pub within : ℕ → ℕ → Bool
within x o = eqb (bit_and x o) x

-- ---- values

-- one of 2 ^ 0 to 2 ^ k; the code counts ones (rule 8.13)
unfoldable pub power_of_two : ℕ → ℕ → Bool
power_of_two zero n = eqb n 1
power_of_two (suc k) n = eqb n (2 ^ suc k) or power_of_two k n

-- rule 5.20: size 0 says that the queue is unavailable, so no such queue is enabled
abbrev pub valid_size : ℕ → ℕ → Bool
valid_size size enabled = power_of_two 8 size or (eqb size 0 and eqb enabled 0)

-- rule 5.3: size, vector (any), enabled and reserved of 2 bytes each, then the addresses of descriptors, driver area and device area of 8
-- each; their alignments are 16, 2 and 4
unfoldable pub valid_queue : List ℕ → Bool
valid_queue v =
    valid_size (field v 0 2) (field v 4 2)
    and leb (field v 4 2) 1
    and eqb (field v 6 2) 0
    and eqb (field v 8 8 % 16) 0
    and eqb (field v 16 8 % 2) 0
    and eqb (field v 24 8 % 4) 0

-- rule 5.4: the last 4 of the 8 bytes are reserved
unfoldable pub valid_notify : List ℕ → Bool
valid_notify v = eqb (field v 4 4) 0

-- the rule of a type for a value of the right size; any value is good for the others. Offered features are judged in loading (rule 5.10).
unfoldable pub content_checks : ℕ → ℕ → List ℕ → Verdict
content_checks w kind v =
    pick (eqb kind OfferedFeatures) (Mismatch unless each_word eqb w v)
    (pick (eqb kind DriverFeatures) (Mismatch unless each_word within w v)
    (pick (eqb kind QueueConfig) (Value unless valid_queue v)
    (pick (eqb kind NotifyConfig) (Value unless valid_notify v)
    Pass)))

-- A value for a row, which a stream names a second time where `twice` holds. Rule 5.10: its length (22) is judged before that (21), and
-- what it holds (22 or 23) behind it.
unfoldable pub value_checks : ℕ → ℕ → Bool → List ℕ → Verdict
value_checks w i twice v =
    Value unless eqb (length v) (size_of w i)
    then Twice when twice
    then content_checks w (kind_of i) v
