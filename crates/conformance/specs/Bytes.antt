-- The bytes of a part, one after the other: what the pass over a stream compares. Nothing here is part of the answer's meaning, which
-- `Saves` states; the laws of `proofs/` hold the two together.
use Rattle.std.specs.Prelude.{ℕ, ◌%◌, Bool, true, List, [], get_or, ltb, leb, eqb}
use Rattle.answer.specs.Tests.{◌and◌, ◌or◌, pick}
use Rattle.wire.specs.Field.{field}
use Rattle.registers.specs.Cards.{word_room}
use Rattle.registers.specs.Rows.{status_row}
use Rattle.registers.specs.Values.{offered, within, power_of_two}
use Rattle.parts.specs.Save.{encoded}

-- rule 5.1: a row's header
unfoldable pub header : ℕ → ℕ → List ℕ
header w i = encoded w i []

-- rules 5.7 and 1.12: offered features and status are in every save
unfoldable pub required : ℕ → Bool
required i = eqb i 0 or eqb i status_row

-- rule 5.7: byte `j` of what is offered
unfoldable pub offered_byte : ℕ → ℕ
offered_byte j = get_or (offered word_room) j 0

-- The byte of a queue's value at `j`, where those before it are good (rules 5.3 and 5.20): the size's low byte is 0 or has one bit; its
-- high byte is 1 only behind a low byte of 0; the queue is enabled only if its size is not 0; enabled is 1 at most, reserved is 0; the
-- lowest byte of each address decides its alignment.
unfoldable pub queue_byte : List ℕ → ℕ → Bool
queue_byte v j =
    pick (eqb j 0) (eqb (get_or v j 0) 0 or power_of_two 8 (get_or v j 0))
    (pick (eqb j 1) (leb (get_or v j 0) (pick (eqb (get_or v 0 0) 0) 1 0))
    (pick (eqb j 4) (leb (get_or v j 0) (pick (eqb (field v 0 2) 0) 0 1))
    (pick (leb 5 j and leb j 7) (eqb (get_or v j 0) 0)
    (pick (eqb j 8) (eqb (get_or v j 0 % 16) 0)
    (pick (eqb j 16) (eqb (get_or v j 0 % 2) 0)
    (pick (eqb j 24) (eqb (get_or v j 0 % 4) 0)
    true))))))

-- The rule of a row for the byte of its value at `j`, where those before it are good: features as they are offered or within that
-- (rules 5.5 and 5.10), queues, and the last 4 of 8 bytes of a notify value (rule 5.4); all else is free.
unfoldable pub good_byte : ℕ → List ℕ → ℕ → Bool
good_byte i v j =
    pick (ltb i 2) (pick (eqb i 0) eqb within (get_or v j 0) (offered_byte j))
    (pick (ltb i 7) true
    (pick (ltb i 11) (queue_byte v j)
    (ltb j 4 or eqb (get_or v j 0) 0)))
