-- Reset and setting leave a sound file, and what code writes for it is that file.
use Prim.Native.Nat.{ℕ, zero, suc, ◌+◌, ◌-◌}
use native.Mathlib.Nat.{add-zero, add-suc, suc-add}
use native.Mathlib.Omega.{arith}
use mathlib.Core.Path.{◌≡◌, refl, sym, ◌∙◌, ap}
use mathlib.Core.Bool.{true, false}
use mathlib.Core.List.{List, [], ◌∷◌}
use mathlib.Core.Option.{Option, none, some}
use lib.ListN.{get_or, set}
use Rattle.answer.specs.Tests.{◌and◌, pick, is_some}
use Rattle.answer.specs.Checks.{Pass, ◌then◌, ◌when◌, ◌unless◌, passes}
use Rattle.answer.proofs.Tests.{and_true, and_made}
use Rattle.registers.specs.Rows.{kind_of, width_of, size_in, size_of, row_of}
use Rattle.registers.specs.Values.{content_checks, value_checks}
use Rattle.registers.specs.File.{File, current, with_value, reset, sound_values_from, sound_value, sound_file, file_from, file_of, slots_of}
use Rattle.registers.specs.Access.{set_checks, set_to}
use Rattle.registers.specs.declared.Registers.{Registers}
use Rattle.registers.proofs.File.{sound-cons, sound-sized, file-written}
use Rattle.registers.proofs.Access.{settable, set_value, kept-value}

-- ---- reset

pub reset-sound : (w : ℕ) → sound_file w reset ≡ true
unfolding sound_file sound_values_from sound_value current reset with_value value_checks content_checks size_of size_in width_of kind_of passes is_some pick ◌and◌ ◌then◌ ◌when◌ ◌unless◌
reset-sound w = refl

-- what `reset` writes
pub reset-file : (w : ℕ) (r : Registers) → r.slots ≡ slots_of reset → file_of w r ≡ reset
unfolding file_of sound_file
reset-file w r e = ap (file_from w 1) e ∙ file-written w 1 reset (sound-sized w 1 reset (and_true _ _ (reset-sound w)).1)

-- ---- a value that is accepted, put into a row

passing : (w i : ℕ) (v : List ℕ) → value_checks w i false v ≡ Pass → sound_value w i (some v) ≡ true
unfolding sound_value passes
passing w i v h = rw h

-- a row that gets a value that is accepted, or none
pub sound-put : (w i : ℕ) (file : File) (k : ℕ) (y : Option (List ℕ)) → sound_values_from w i file ≡ true → sound_value w (i + k) y ≡ true
    → sound_values_from w i (set file k y) ≡ true
sound-put w i [] k y h good = h
sound-put w i (x ∷ file) zero y h good = sound-cons w i y file ∙ and_made _ _ (rw add-zero at good) (and_true _ _ (sym (sound-cons w i x file) ∙ h)).1
sound-put w i (x ∷ file) (suc k) y h good =
    let b = and_true _ _ (sym (sound-cons w i x file) ∙ h) in
    sound-cons w i x _ ∙ and_made _ _ b.0 (sound-put w (suc i) file k y b.1 (rw (suc-add, ← add-suc) good))

pub sound-set : (w i : ℕ) (file : File) (k : ℕ) (v : List ℕ) → sound_values_from w i file ≡ true → value_checks w (i + k) false v ≡ Pass → sound_values_from w i (set file k (some v)) ≡ true
sound-set w i file k v h good = sound-put w i file k (some v) h (passing w (i + k) v good)

-- a row that has a value keeps one
pub some-set : (file : File) (k j : ℕ) (v : List ℕ) → is_some (get_or file j none) ≡ true → is_some (get_or (set file k (some v)) j none) ≡ true
unfolding is_some
some-set [] k j v h = h
some-set (x ∷ file) zero zero v h = refl
some-set (x ∷ file) zero (suc j) v h = h
some-set (x ∷ file) (suc k) zero v h = h
some-set (x ∷ file) (suc k) (suc j) v h = some-set file k j v h

-- setting a register: the file stays sound
pub set-sound : (w : ℕ) (file : File) (kind selector : ℕ) (v : List ℕ) → set_checks w kind selector v ≡ Pass → sound_file w file ≡ true → sound_file w (set_to file kind selector v) ≡ true
unfolding sound_file set_to current
set-sound w file kind selector v h sound =
    let can = settable w kind selector v h in
    let b = and_true _ _ sound in
    let i : 1 + (row_of kind selector - 1) ≡ row_of kind selector = omega (arith, can.kept) in
    rw (kept-value file (row_of kind selector) v can.kept)
    (and_made _ _ (some-set file _ 5 v b.0) (sound-set w 1 file _ v b.1 (rw i (set_value w kind selector v h))))
