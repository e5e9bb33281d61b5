-- A reader of a stream of parts: it holds on to the stream and to a place in it (rule 6.1).
-- What stands there is a step of the crate parts; here is where it goes on.
use Rattle.std.specs.Prelude.{ℕ, List}
use Rattle.std.specs.Borrow.{Bor}
use Rattle.parts.specs.Step.{Step, Part, End, Refused, step_at}
use Rattle.reader.specs.declared.PartReader.{PartReader}

-- rule 6.5: where a step leaves the reader that stood at `p`: behind a part; after a refusal or at the end it stays
unfoldable pub next_place : Step → ℕ → ℕ
next_place (Part kind flags selector next) p = next
next_place End p = p
next_place (Refused code place) p = p

-- the place after the step at `p` of the stream `s`
unfoldable pub place_after : List ℕ → ℕ → ℕ
place_after s p = next_place (step_at s p) p

-- a reader at a place of the lent stream `s`
abbrev pub reader_at : Bor (List ℕ) → ℕ → PartReader
reader_at s p = record { stream = s; place = p }

-- the reader behind the part at which `r` stands: it holds the same stream
abbrev pub onward : PartReader → PartReader
onward r = reader_at r.stream (place_after r.stream.now r.place)

-- the step after the first over the stream `s`: behind a part, or the same again where none stands
unfoldable pub second_step : List ℕ → Step
second_step s = step_at s (place_after s 0)
