-- Laws of the table of indices.
use Rattle.std.proofs.Common.{◌≡◌, ℕ, zero, suc, ◌+◌, ◌<◌, ◌≤◌, List, [], ◌∷◌, get_or, refl, arith}
use Rattle.std.specs.Prelude.{Option, None, Some, is_some, unwrap_or, IfOk, ltb}
use Rattle.std.specs.Option.{ok_or}
use Rattle.answer.specs.Answer.{verdict_of}
use Rattle.answer.specs.Codes.{Index}
use Rattle.answer.specs.Checks.{◌unless◌}
use Rattle.answer.specs.declared.Reason.{Reason}
use Rattle.answer.specs.declared.Refusal.{Refusal}
use Rattle.interrupts.specs.declared.Entry.{Entry}
use Rattle.interrupts.specs.declared.Interrupt.{Interrupt}
use Rattle.interrupts.specs.Lines.{interrupt, index_at, count_before, first_line, line_count}

-- the code's table, with the place of each first line
abbrev pub entries : List Entry
entries =
    record { first = 0; interrupt = interrupt 1 7 } ∷ record { first = 1; interrupt = interrupt 8 9 }
    ∷ record { first = 9; interrupt = interrupt 16 9 } ∷ record { first = 25; interrupt = interrupt 0 0 } ∷ []

pub first_listed : (i : ℕ) (e : Entry) → i < 4 → e ≡ get_or entries i e → e.first ≡ first_line i
unfolding first_line count_before
first_listed zero e h is = rw is
first_listed (suc zero) e h is = rw is
first_listed (suc (suc zero)) e h is = rw is
first_listed (suc (suc (suc zero))) e h is = rw is
first_listed (suc (suc (suc (suc i)))) e h is = absurd (omega arith)

pub first_past : (i : ℕ) → 4 ≤ i → line_count ≡ first_line i
unfolding first_line count_before
first_past (suc (suc (suc (suc zero)))) h = refl
first_past (suc (suc (suc (suc (suc i))))) h = refl
first_past zero h = absurd (omega arith)
first_past (suc zero) h = absurd (omega arith)
first_past (suc (suc zero)) h = absurd (omega arith)
first_past (suc (suc (suc zero))) h = absurd (omega arith)

-- the lines of an index are among all lines
pub index-within : (i : ℕ) → first_line i + (index_at i).count ≤ line_count
unfolding first_line count_before index_at
index-within zero = omega arith
index-within (suc zero) = omega arith
index-within (suc (suc zero)) = omega arith
index-within (suc (suc (suc zero))) = omega arith
index-within (suc (suc (suc (suc zero)))) = omega arith
index-within (suc (suc (suc (suc (suc i))))) = omega arith

-- an index that is looked up: what it has, or a refusal
pub looked_up : (found : Option Interrupt) (e : Refusal) (i : ℕ) → is_some found ≡ ltb i 4 → unwrap_or found (interrupt 0 0) ≡ index_at i
    → e ≡ record { reason = Reason.Index; place = 0 }
    → (verdict_of (ok_or found e) ≡ (Index unless ltb i 4)) × IfOk (ok_or found e) (λ (x : Interrupt). x ≡ index_at i)
unfolding ◌unless◌
looked_up None e i there fields is = (rw (← there, is), tt)
looked_up (Some x) e i there fields is = (rw (← there), fields)
