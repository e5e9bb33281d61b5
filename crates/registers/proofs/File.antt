-- Laws of the register file, and of the registers that code keeps for it.
use Prim.Native.Nat.{ℕ, zero, suc, ◌+◌, ◌-◌, ◌*◌, ◌≤◌, ◌<◌}
use native.Mathlib.Nat.{not-suc-le-zero, add-zero, add-suc, suc-add, sub-zero, zero-sub, suc-sub-suc}
use native.Mathlib.Numerals.{add-one}
use native.Mathlib.Omega.{arith}
use mathlib.Core.Path.{◌≡◌, refl, sym, ◌∙◌, ap}
use mathlib.Core.Bool.{Bool, true, false, not, ◌&&◌, ◌||◌, false≢true, or-true, and_assoc}
use mathlib.Core.Bool as bool
use mathlib.Core.List.{List, [], ◌∷◌}
use mathlib.Core.Option.{Option, none, some}
use lib.ListN.{length, get_or, set, take, drop, replicate, drop_of_length-le}
use lib.Seq.{sets, take_at, take-append-le, length-take-le, drop-cons, sets-eq}
use mir.Val.{Val}
use base.Fml.{Fml}
use denote.Shadow.{shadow}
use denote.Array.{each}
use denote.Laws.{Is}
use denote.Struct.Declared.{row}
use borrow.Author.Tests.{eq-eqb, eqb-true}
use Rattle.answer.specs.Tests.{◌and◌, pick, flagged, is_some}
use Rattle.answer.specs.Checks.{Verdict, Pass, Fail, ◌then◌, ◌when◌, ◌unless◌, passes}
use Rattle.answer.proofs.Tests.{and_true, and_made, both_and}
use Rattle.wire.specs.Field.{bytes_of}
use Rattle.registers.specs.Rows.{row_count, status_row, kind_of, size_of}
use Rattle.registers.specs.Cards.{word_room}
use Rattle.registers.specs.Values.{offered, content_checks, value_checks}
use Rattle.registers.specs.File.{File, current, sound_values_from, sound_value, sound_file, register_value, file_from, file_of, register_of, slots_of, sized_from}
use Rattle.registers.specs.declared.Register.{Register}
use Rattle.registers.specs.declared.Registers.{Registers}
use Rattle.registers.specs.contracts.Register.{the_row}
use Rattle.registers.specs.contracts.Registers.{the_type}
use Rattle.registers.proofs.Rows.{size-most, features-size}
use Rattle.registers.proofs.Features.{offered-length, offered-take, offered-exact}
use Rattle.registers.proofs.Values.{content-free, value-content, value-size}

-- what a list of registers reads as past its end
abbrev pub absent : Register
absent = record { set = 0; bytes = [] }

pub none≢some : {X : Type 0} {v : X} → none ≡ some v → ⊥
none≢some e = let z : ◌≡◌ {A = ℕ} 0 1 = cc in omega arith

pub some_same : {X : Type 0} {v w : X} → some v ≡ some w → v ≡ w
some_same e = cc

-- ---- one register

pub value_set : (w i : ℕ) (r : Register) → flagged r.set ≡ true → register_value w i r ≡ some (take (size_of w i) r.bytes)
unfolding register_value pick
value_set w i r h = rw h

pub value-unset : (w i : ℕ) (r : Register) → flagged r.set ≡ false → register_value w i r ≡ none
unfolding register_value pick
value-unset w i r h = rw h

pub set_is : (w i : ℕ) (r : Register) → is_some (register_value w i r) ≡ flagged r.set
unfolding register_value pick is_some
set_is w i r = go (flagged r.set)
  where
    go : (t : Bool) → is_some (pick t (some (take (size_of w i) r.bytes)) none) ≡ t
    go true = refl
    go false = refl

-- a value written is read back
pub value_written : (w i : ℕ) (v : List ℕ) → length v ≡ size_of w i → register_value w i (register_of (some v)) ≡ some v
unfolding register_value register_of pick
value_written w i v e = ap some (take_at v _ (size_of w i) e)

-- the register that code shows for the row of offered features
abbrev pub features : Register
features = register_of (some (offered word_room))

pub features-row : (w : ℕ) (file : File) → w ≤ word_room → register_value w 0 features ≡ current w file 0
unfolding register_value register_of current pick
features-row w file small =
    ap some (rw (← features-size w 0 (omega arith)) (take-append-le (8 * w) (offered word_room) _ (omega (arith, offered-length word_room)) ∙ offered-take w word_room small))

pub features-whole : length features.bytes ≡ 32
unfolding register_of offered bytes_of
features-whole = refl

pub features-set : flagged features.set ≡ true
unfolding register_of
features-set = refl

-- a value copied to the front of 32 zeros
pub register_made : (v : List ℕ) → length v ≤ 32 → record { set = 1; bytes = sets (replicate 32 0) 0 v } ≡ register_of (some v)
unfolding register_of
register_made v h =
    let e : 0 + length v ≡ length v = omega arith in
    ap (λ (b : List ℕ). record { set = 1; bytes = b }) (sets-eq v (replicate 32 0) 0 (omega arith) ∙ rw (e, zeros 32 (length v)))
  where
    zeros : (n k : ℕ) → drop {A = ℕ} k (replicate n 0) ≡ replicate (n - k) 0
    zeros n zero = rw sub-zero
    zeros zero (suc k) = rw zero-sub
    zeros (suc n) (suc k) = rw suc-sub-suc (zeros n k)

-- ---- the file that registers are

pub file-at : (w i : ℕ) (l : List Register) (k : ℕ) → get_or (file_from w i l) k none ≡ register_value w (i + k) (get_or l k absent)
unfolding file_from
file-at w i [] k = sym (value-unset w (i + k) absent refl)
file-at w i (r ∷ rs) zero = rw add-zero
file-at w i (r ∷ rs) (suc k) = rw (add-suc, ← suc-add) (file-at w (suc i) rs k)

pub set_at : (w i : ℕ) (l : List Register) (k : ℕ) → is_some (get_or (file_from w i l) k none) ≡ flagged (get_or l k absent).set
set_at w i l k = ap is_some (file-at w i l k) ∙ set_is w (i + k) (get_or l k absent)

-- the register that is kept for a row
pub current-kept : (w : ℕ) (registers : Registers) (i : ℕ) → 0 < i → current w (file_of w registers) i ≡ register_value w i (get_or registers.slots (i - 1) absent)
unfolding current file_of
current-kept w registers zero h = absurd (not-suc-le-zero h)
current-kept w registers (suc k) h = let e : 1 + k ≡ suc k = omega arith in let f : suc k - 1 ≡ k = omega arith in rw (f, ← e) (file-at w 1 registers.slots k)

-- by its slot
pub slot_row : (w : ℕ) (registers : Registers) (k : ℕ) → register_value w (k + 1) (get_or registers.slots k absent) ≡ current w (file_of w registers) (k + 1)
slot_row w registers k = let e : k + 1 - 1 ≡ k = omega arith in sym (rw e at (current-kept w registers (k + 1) (omega arith)))

pub length-file : (w i : ℕ) (l : List Register) → length (file_from w i l) ≡ length l
unfolding file_from
length-file w i [] = refl
length-file w i (r ∷ rs) = ap suc (length-file w (suc i) rs)

-- setting a register of the code is setting its row
pub file-set : (w i : ℕ) (l : List Register) (k : ℕ) (v : List ℕ) → length v ≡ size_of w (i + k)
    → file_from w i (set l k (register_of (some v))) ≡ set (file_from w i l) k (some v)
unfolding file_from
file-set w i [] k v e = refl
file-set w i (r ∷ rs) zero v e = ap (λ (x : Option (List ℕ)). x ∷ file_from w (suc i) rs) (value_written w i v (rw add-zero at e))
file-set w i (r ∷ rs) (suc k) v e = ap (λ (f : File). register_value w i r ∷ f) (file-set w (suc i) rs k v (rw (suc-add, ← add-suc) e))

none-unset : flagged (register_of none).set ≡ false
unfolding register_of
none-unset = refl

-- what code writes for a file is the file again, where each value has its row's size
pub file-written : (w i : ℕ) (file : File) → sized_from w i file ≡ true → file_from w i (slots_of file) ≡ file
unfolding file_from slots_of sized_from
file-written w i [] h = refl
file-written w i (none ∷ file) h = rw (value-unset w i (register_of none) none-unset, file-written w (suc i) file h)
file-written w i (some v ∷ file) h =
    let b = and_true _ _ h in
    rw (value_written w i v (eqb-true _ _ b.0), file-written w (suc i) file b.1)

-- ---- soundness

pub passes_true : (v : Verdict) → passes v ≡ true → v ≡ Pass
unfolding passes
passes_true Pass h = refl
passes_true (Fail code place) h = absurd (false≢true h)

pub sound-value : (w i : ℕ) (v : List ℕ) → sound_value w i (some v) ≡ true → value_checks w i false v ≡ Pass
unfolding sound_value
sound-value w i v h = passes_true _ h

pub sound-cons : (w i : ℕ) (x : Option (List ℕ)) (file : File) → sound_values_from w i (x ∷ file) ≡ (sound_value w i x and sound_values_from w (suc i) file)
unfolding sound_values_from
sound-cons w i x file = refl

sound-at : (w i : ℕ) (file : File) (k : ℕ) (v : List ℕ) → sound_values_from w i file ≡ true → get_or file k none ≡ some v → value_checks w (i + k) false v ≡ Pass
sound-at w i [] k v h e = absurd (none≢some e)
sound-at w i (x ∷ file) zero v h e = rw add-zero (sound-value w i v (ap (sound_value w i) (sym e) ∙ (and_true _ _ (sym (sound-cons w i x file) ∙ h)).0))
sound-at w i (x ∷ file) (suc k) v h e = rw (add-suc, ← suc-add) (sound-at w (suc i) file k v (and_true _ _ (sym (sound-cons w i x file) ∙ h)).1 e)

offered-sound : (w : ℕ) → value_checks w 0 false (offered w) ≡ Pass
unfolding value_checks content_checks kind_of pick ◌then◌ ◌when◌ ◌unless◌
offered-sound w = rw (eq-eqb _ _ (offered-length w ∙ features-size w 0 (omega arith)), offered-exact w)

-- what any row of a sound file shows passes its checks
pub current-sound : (w : ℕ) (file : File) (i : ℕ) (v : List ℕ) → sound_values_from w 1 file ≡ true → current w file i ≡ some v → value_checks w i false v ≡ Pass
unfolding current
current-sound w file zero v h e = ap (value_checks w 0 false) (some_same (sym e)) ∙ offered-sound w
current-sound w file (suc k) v h e = let i : 1 + k ≡ suc k = omega arith in rw (← i) (sound-at w 1 file k v h e)

-- values that are accepted have their rows' sizes
pub sound-sized : (w i : ℕ) (file : File) → sound_values_from w i file ≡ true → sized_from w i file ≡ true
unfolding sound_values_from sound_value sized_from ◌and◌
sound-sized w i [] h = refl
sound-sized w i (none ∷ file) h = sound-sized w (suc i) file h
sound-sized w i (some v ∷ file) h =
    let b = and_true _ _ h in
    and_made _ _ (eq-eqb _ _ (value-size w i false v (passes_true _ b.0))) (sound-sized w (suc i) file b.1)

sized-at : (w i : ℕ) (file : File) (k : ℕ) (v : List ℕ) → sized_from w i file ≡ true → get_or file k none ≡ some v → length v ≡ size_of w (i + k)
unfolding sized_from
sized-at w i [] k v h e = absurd (none≢some e)
sized-at w i (none ∷ file) zero v h e = absurd (none≢some e)
sized-at w i (some x ∷ file) zero v h e = rw add-zero (ap length (some_same (sym e)) ∙ eqb-true _ _ (and_true _ _ h).0)
sized-at w i (none ∷ file) (suc k) v h e = rw (add-suc, ← suc-add) (sized-at w (suc i) file k v h e)
sized-at w i (some x ∷ file) (suc k) v h e = rw (add-suc, ← suc-add) (sized-at w (suc i) file k v (and_true _ _ h).1 e)

-- what any row of such a file shows has the row's size
pub current-sized : (w : ℕ) (file : File) (i : ℕ) (v : List ℕ) → sized_from w 1 file ≡ true → current w file i ≡ some v → length v ≡ size_of w i
unfolding current
current-sized w file zero v h e = ap length (some_same (sym e)) ∙ value-size w 0 false _ (offered-sound w)
current-sized w file (suc k) v h e = let i : 1 + k ≡ suc k = omega arith in rw (← i) (sized-at w 1 file k v h e)

-- a register that is not set is sound, and one that is set if its value meets the rule of its type
pub sound-register : (w i : ℕ) (r : Register) → w ≤ word_room → i < row_count → length r.bytes ≡ 32
    → sound_value w i (register_value w i r) ≡ (not (flagged r.set) || passes (content_checks w (kind_of i) (take (size_of w i) r.bytes)))
unfolding sound_value
sound-register w i r small h whole = go (flagged r.set) refl
  where
    go : (t : Bool) → flagged r.set ≡ t → sound_value w i (register_value w i r) ≡ (not t || passes (content_checks w (kind_of i) (take (size_of w i) r.bytes)))
    go true e = ap (sound_value w i) (value_set w i r e) ∙ ap passes (value-content w i _ (length-take-le _ _ (omega (arith, size-most w i small h))))
    go false e = ap (sound_value w i) (value-unset w i r e)

-- common fields and status may hold anything
pub sound-free : (w i : ℕ) (r : Register) → w ≤ word_room → length r.bytes ≡ 32 → 2 ≤ i → i < 7 → sound_value w i (register_value w i r) ≡ true
unfolding passes
sound-free w i r small whole low high = sound-register w i r small (omega arith) whole ∙ rw (content-free w i (take (size_of w i) r.bytes) low high) (or-true (not (flagged r.set)))

-- whether the register of a slot is sound
abbrev pub sound_slot : ℕ → List Register → ℕ → Bool
sound_slot w l i = sound_value w (i + 1) (register_value w (i + 1) (get_or l i absent))

-- whether those of `n` slots from slot `i` on are
unfoldable sound_slots : ℕ → List Register → ℕ → ℕ → Bool
sound_slots w l i zero = true
sound_slots w l i (suc n) = sound_slot w l i && sound_slots w l (i + 1) n

sound_more : (w : ℕ) (l : List Register) (i : ℕ) → i < length l
    → sound_values_from w (i + 1) (file_from w (i + 1) (drop i l)) ≡ (sound_slot w l i and sound_values_from w (i + 1 + 1) (file_from w (i + 1 + 1) (drop (i + 1) l)))
unfolding file_from
sound_more w l i lt = simp add-one (rw (drop-cons l i absent lt) (sound-cons w _ _ _))

sound_slots_lem : (w : ℕ) (l : List Register) (n i : ℕ) → i + n ≡ length l → sound_values_from w (i + 1) (file_from w (i + 1) (drop i l)) ≡ sound_slots w l i n
unfolding sound_slots sound_values_from file_from
sound_slots_lem w l zero i e = let end : length l ≤ i = omega arith in rw (drop_of_length-le l end)
sound_slots_lem w l (suc n) i e =
    sound_more w l i (omega arith) ∙ sym (both_and _ _) ∙ ap (λ (t : Bool). sound_slot w l i && t) (sound_slots_lem w l n (i + 1) (omega arith))

-- the code's tests: status is set, and the registers whose rows have a rule are sound
pub sound-tested : (w : ℕ) (registers : Registers) → let l = registers.slots in
    length l ≡ 14 → ((i : ℕ) → 1 ≤ i → i < 6 → sound_slot w l i ≡ true)
    → (flagged (get_or l 5 absent).set && sound_slot w l 0 && (sound_slot w l 6 && sound_slot w l 7) && (sound_slot w l 8 && sound_slot w l 9) && (sound_slot w l 10 && sound_slot w l 11 && sound_slot w l 12 && sound_slot w l 13))
    ≡ sound_file w (file_of w registers)
unfolding sound_file file_of sound_slots
sound-tested w registers long free =
    let l = registers.slots in
    let status : is_some (current w (file_from w 1 l) status_row) ≡ flagged (get_or l 5 absent).set = ap is_some (current-kept w registers status_row (omega arith)) ∙ set_is w status_row _ in
    let all : sound_values_from w 1 (file_from w 1 l) ≡ sound_slots w l 0 14 = sound_slots_lem w l 14 0 (sym long) in
    rw (← both_and, status, all, free 1 (omega arith) (omega arith), free 2 (omega arith) (omega arith), free 3 (omega arith) (omega arith), free 4 (omega arith) (omega arith), free 5 (omega arith) (omega arith)) (simp (and_assoc, bool.and-true))

-- ---- what owning the registers tells

-- what each element of an array tells of itself where it is owned
owned_at : {X : Type 0} (own : X → List Val → Fml) (P : X → Type 0) → ((x : X) (u : Val) → shadow (own x (u ∷ [])) → P x)
    → (l : List X) (us : List Val) → shadow (each X own l us) → (d : X) (k : ℕ) → k < length l → P (get_or l k d)
owned_at own P tells [] us s d k lt = absurd (not-suc-le-zero lt)
owned_at own P tells (x ∷ l) [] s d k lt = absurd s
owned_at own P tells (x ∷ l) (u ∷ us) s d zero lt = tells x u s.0
owned_at own P tells (x ∷ l) (u ∷ us) s d (suc k) lt = owned_at own P tells l us s.1 d k (omega arith)

-- there are as many registers as their type says, and each has 32 bytes
pub slots_whole : (registers : Registers) (vs : List Val) → Is (row the_type) registers vs → length registers.slots ≡ 14
slots_whole registers vs owned = owned.1.1.0.1.0.1

pub slot_whole : (registers : Registers) (vs : List Val) → Is (row the_type) registers vs → (k : ℕ) → k < 14
    → length (get_or registers.slots k absent).bytes ≡ 32
slot_whole registers vs owned k lt =
    owned_at the_row.own_val (λ (r : Register). length r.bytes ≡ 32) (λ r u s. s.1.1.1.0.1.0.1) registers.slots _ owned.1.1.0.1.1 absent k (omega (arith, slots_whole registers vs owned))
