-- Whether a stream is what saving writes (rules 5.22 to 5.24), by existence: nothing here says how it is found out. `w` is the number of
-- words that the card has of features.
use Rattle.std.specs.Prelude.{ℕ, ◌+◌, ◌-◌, ◌*◌, ◌^◌, ◌≤◌, ◌<◌, ◌≡◌, true, false, List, [], ◌++◌, ◌⊎◌, length, get_or, take, Result, Ok, Err}
use Rattle.std.proofs.Math.Option.{none}
use Rattle.answer.specs.Answer.{done}
use Rattle.registers.specs.Cards.{is_card}
use Rattle.registers.specs.File.{File, kept_count, sound_file, file_of}
use Rattle.registers.specs.declared.Registers.{Registers}
use Rattle.registers.specs.Access.{or_empty}
use Rattle.parts.specs.Load.{load}
use Rattle.parts.specs.Save.{saved}

-- each element is a byte
abbrev pub Bytes : List ℕ → Type 0
Bytes l = (j : ℕ) → get_or l j 0 < 256

-- rule 5.22: a register state of the card, which is a sound one (rule 1.12); its values are bytes
pub record State (w : ℕ) (file : File) : Type 0 where
  pub whole : length file ≡ kept_count
  pub bytes : (i : ℕ) → Bytes (or_empty (get_or file i none))
  pub sound : sound_file w file ≡ true

-- rule 5.22: some register state, saved, is the stream
pub record IsSave (w : ℕ) (s : List ℕ) : Type 0 where
  pub file : File
  pub state : State w file
  pub same : saved w file ≡ s

-- rule 5.23: some register state's save begins with the first `k` bytes of the stream
pub record Begins (w k : ℕ) (s : List ℕ) : Type 0 where
  pub file : File
  pub state : State w file
  pub inside : k ≤ length s
  pub agrees : take k s ≡ take k (saved w file)

-- rule 5.23: the stream is no save, and `k` bytes are its longest beginning with which a save begins
pub record Longest (w k : ℕ) (s : List ℕ) : Type 0 where
  pub no_save : IsSave w s → ⊥
  pub reached : Begins w k s
  pub most : (n : ℕ) → Begins w n s → n ≤ k

-- rules 5.22 and 5.23: the answer, that the stream is a save or how far some save agrees with it
pub data Conformance : Type 0 where
  Save : Conformance
  DiffersAt : ℕ → Conformance

unfoldable pub Answers : ℕ → List ℕ → Conformance → Type 0
Answers w s Save = IsSave w s
Answers w s (DiffersAt k) = Longest w k s

-- the answer that a result of the code tells
abbrev pub conformance_of : {R : Type 0} → Result R ℕ → Conformance
conformance_of (Ok result) = Save
conformance_of (Err k) = DiffersAt k

-- rule 5.24: the answer as C's number: this one says yes, any other is the length
abbrev pub yes : ℕ
yes = 2 ^ 64 - 1

pub record NumberAnswers (w : ℕ) (s : List ℕ) (r : ℕ) : Type 0 where
  pub is-save : r ≡ yes → IsSave w s
  pub is-length : (r ≡ yes → ⊥) → Longest w r s

-- ---- what follows from these definitions alone (`proofs/Laws.antt`)

-- rule 5.22: every save is answered by yes
unfoldable pub EverySave : Type 0
EverySave = (w : ℕ) (s : List ℕ) (a : Conformance) → IsSave w s → Answers w s a → a ≡ Save

-- rule 5.22: what is saved of the code's registers, 14 of them, is a save where they are sound
unfoldable pub CodeSaves : Type 0
CodeSaves =
    (w : ℕ) (registers : Registers) → length registers.slots ≡ kept_count → ((k : ℕ) → Bytes (get_or registers.slots k (record { set = 0; bytes = [] })).bytes)
    → sound_file w (file_of w registers) ≡ true → IsSave w (saved w (file_of w registers))

-- rule 5.23: a beginning of a save is itself a save, as it is where a part behind status ends, or is answered by its whole length
unfoldable pub EveryBeginning : Type 0
EveryBeginning = (w : ℕ) (s : List ℕ) (k : ℕ) (a : Conformance) → IsSave w s → k ≤ length s → Answers w (take k s) a → (a ≡ Save) ⊎ (a ≡ DiffersAt k)

-- rule 5.23: bytes behind a save are answered by the save's length at least
unfoldable pub EveryBehind : Type 0
EveryBehind = (w : ℕ) (s t : List ℕ) (k : ℕ) → IsSave w s → Answers w (s ++ t) (DiffersAt k) → length s ≤ k

-- rule 5.23: no answer passes the longest save
unfoldable pub Bounded : Type 0
Bounded = (w : ℕ) (s : List ℕ) (k : ℕ) → Answers w s (DiffersAt k) → k ≤ 413 + 16 * w

-- each stream has one answer
unfoldable pub Determined : Type 0
Determined = (w : ℕ) (s : List ℕ) (a b : Conformance) → Answers w s a → Answers w s b → a ≡ b

-- rule 8.4: what is answered by yes loads, where the device is stopped, and what it loads to saves to it again
unfoldable pub SavesLoad : Type 0
SavesLoad = (w : ℕ) → is_card w ≡ true → (s : List ℕ) → IsSave w s → (file : File) × (load w false s ≡ done file) × (saved w file ≡ s)
