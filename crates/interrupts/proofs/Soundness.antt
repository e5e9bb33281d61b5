-- Laws of soundness: what the code finds of all lines, and that what is done to lines keeps it.
use Rattle.std.proofs.Common.{◌≡◌, ℕ, zero, suc, ◌+◌, ◌<◌, Bool, true, false, not, List, [], ◌∷◌, length, refl, ap, arith}
use borrow.Author.Tests.{not-true}
use Rattle.std.specs.List.{list_all}
use Rattle.std.specs.Prelude.{◌&&◌}
use Rattle.answer.specs.Tests.{◌and◌, pick}
use Rattle.answer.proofs.Tests.{and_true, and_made}
use Rattle.interrupts.specs.declared.Line.{Line}
use Rattle.interrupts.specs.Lines.{event_number, lower, sound_lines, line_count, stored, off, with_flags, raised, triggered, with_mask, unmasked, disabled_lines}
use Rattle.interrupts.specs.Requests.{changed_run, acted}

-- ---- what the code finds of all lines

both : (a b : Bool) → (a && b) ≡ (a and b)
unfolding ◌and◌
both true b = refl
both false b = refl

pub sound-all : (ls : List Line) → list_all (λ (l : Line). not (lower l.number)) ls ≡ sound_lines ls
unfolding sound_lines
sound-all [] = refl
sound-all (l ∷ ls) = rw (sound-all ls) (both (not (lower l.number)) (sound_lines ls))

-- ---- what is done to lines

pub off-sound : lower off.number ≡ false
unfolding lower off stored event_number
off-sound = refl

pub disabled-length : length disabled_lines ≡ line_count
unfolding disabled_lines
disabled-length = refl

pub disabled-sound : sound_lines disabled_lines ≡ true
unfolding sound_lines disabled_lines lower off stored event_number ◌and◌
disabled-sound = refl

-- either of two lines has the number that both have
pick-number : (t : Bool) (a b : Line) (n : ℕ) → a.number ≡ n → b.number ≡ n → (pick t a b).number ≡ n
unfolding pick
pick-number true a b n e f = e
pick-number false a b n e f = f

raised-number : (auto : Bool) (l : Line) → (raised auto l).number ≡ l.number
unfolding raised with_flags
raised-number auto l = pick-number _ _ _ _ refl refl

-- no action changes a line's number
pub acted-number : (action : ℕ) (auto : Bool) (l : Line) → (acted action auto l).number ≡ l.number
unfolding acted with_flags triggered with_mask unmasked
acted-number action auto l =
    pick-number _ _ _ _ (pick-number _ _ _ _ (raised-number auto l) refl)
    (pick-number _ _ _ _ (pick-number _ _ _ _ refl refl)
    (pick-number _ _ _ _ (pick-number _ _ _ _ (raised-number auto _) refl) refl))

-- a run keeps soundness where each change in it does
pub run_sound : (f : ℕ → Line → Line) (j at n : ℕ) (ls : List Line)
    → ((k : ℕ) (l : Line) → k < j + n → lower l.number ≡ false → lower (f k l).number ≡ false)
    → sound_lines ls ≡ true → sound_lines (changed_run f j at n ls) ≡ true
unfolding changed_run sound_lines
run_sound f j at n [] h s = refl
run_sound f j (suc at) n (l ∷ ls) h s =
    and_made _ _ (and_true _ _ s).0 (run_sound f j at n ls h (and_true _ _ s).1)
run_sound f j zero zero (l ∷ ls) h s = s
run_sound f j zero (suc n) (l ∷ ls) h s =
    and_made _ _ (ap not (h j l (omega arith) (not-true _ (and_true _ _ s).0)))
    (run_sound f (suc j) zero n ls (λ k m lt. h k m (omega arith)) (and_true _ _ s).1)
