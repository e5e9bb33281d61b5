-- What follows from the definition of the answer, whatever finds it.
use Prim.Native.Nat.{ℕ, ◌+◌, ◌≤◌}
use native.Mathlib.Omega.{arith}
use mathlib.Core.Path.{◌≡◌, refl, sym, ◌∙◌, ap}
use mathlib.Core.Bool.{Bool, true, false}
use mathlib.Core.List.{List}
use mathlib.Core.Logic.{inl, inr}
use mathlib.Core.Option.{none, some}
use lib.ListN.{length, get_or, take, length-append, length-take}
use lib.Seq.{length-take-le, take-take, take-append_seam, take-length}
use Rattle.answer.specs.Tests.{pick, flagged}
use Rattle.answer.proofs.Tests.{and_true}
use Rattle.registers.specs.Cards.{word_room}
use Rattle.registers.specs.Rows.{size_of}
use Rattle.registers.specs.File.{sound_file, register_value, file_of}
use Rattle.registers.specs.Access.{or_empty}
use Rattle.registers.specs.declared.Register.{Register}
use Rattle.registers.proofs.File.{absent, file-at, length-file, sound-sized}
use Rattle.parts.specs.Load.{load}
use Rattle.parts.specs.Save.{saved}
use Rattle.parts.specs.RoundTrip.{RoundTrip}
use Rattle.parts.proofs.RoundTrip.{saved_bounds, round_trips}
use Rattle.conformance.specs.Saves.{Conformance, Save, DiffersAt, Bytes, IsSave, Begins, Answers, EverySave, CodeSaves, EveryBeginning, EveryBehind, Bounded, Determined, SavesLoad, yes, NumberAnswers}
use Rattle.conformance.proofs.Digits.{bytes_take}

pub every-save : EverySave
unfolding EverySave Answers
every-save w s Save is told = refl
every-save w s (DiffersAt k) is told = absurd (told.no_save is)

-- the value that a register of the code holds is bytes
value-bytes : (w i : ℕ) (r : Register) → Bytes r.bytes → Bytes (or_empty (register_value w i r))
unfolding register_value pick or_empty
value-bytes w i r h = go (flagged r.set)
  where
    go : (t : Bool) → Bytes (or_empty (pick t (some (take (size_of w i) r.bytes)) none))
    go true = bytes_take (size_of w i) r.bytes h
    go false = λ j. omega arith

pub code_saves : CodeSaves
unfolding CodeSaves file_of
code_saves w registers long bytes sound = record {
  file = file_of w registers;
  state = record {
    whole = length-file w 1 registers.slots ∙ long;
    bytes = λ i. rw (file-at w 1 registers.slots i) (value-bytes w (1 + i) (get_or registers.slots i absent) (bytes i));
    sound = sound;
  };
  same = refl;
}

-- a beginning of a save is reached
begun : (w : ℕ) (s : List ℕ) (k : ℕ) → IsSave w s → k ≤ length s → Begins w k (take k s)
begun w s k is le = record {
  file = is.file;
  state = is.state;
  inside = omega (arith, length-take-le k s le);
  agrees = take-take k k s (omega arith) ∙ ap (take k) (sym is.same);
}

pub every-beginning : EveryBeginning
unfolding EveryBeginning Answers
every-beginning w s k Save is le told = inl refl
every-beginning w s k (DiffersAt n) is le told =
    let low = told.most k (begun w s k is le) in
    let high = told.reached.inside in
    let same : n ≡ k = omega (arith, length-take-le k s le) in
    inr (ap DiffersAt same)

pub every-behind : EveryBehind
unfolding EveryBehind Answers
every-behind w s t k is told = told.most (length s) record {
  file = is.file;
  state = is.state;
  inside = omega (arith, length-append s t);
  agrees = take-append_seam s t ∙ sym (rw is.same (take-length s));
}

pub bounded : Bounded
unfolding Bounded Answers sound_file
bounded w s k told =
    let b = told.reached in
    let sound = and_true _ _ b.state.sound in
    let bounds = saved_bounds w b.file (sound-sized w 1 b.file sound.1) sound.0 in
    let reached : length (take k (saved w b.file)) ≡ k = ap length (sym b.agrees) ∙ length-take-le k s b.inside in
    omega (arith, bounds.1, simp length-take at reached)

pub determined : Determined
unfolding Determined Answers
determined w s Save Save p q = refl
determined w s Save (DiffersAt k) p q = absurd (q.no_save p)
determined w s (DiffersAt k) Save p q = absurd (p.no_save q)
determined w s (DiffersAt k) (DiffersAt n) p q =
    let low = p.most n q.reached in let high = q.most k p.reached in let same : k ≡ n = omega arith in ap DiffersAt same

pub saves_load : SavesLoad
unfolding SavesLoad RoundTrip
saves_load w card s is = (is.file, ap (load w false) (sym is.same) ∙ round_trips w card is.file is.state.whole is.state.sound, is.same)

-- ---- the answer as a number

module _ (w : ℕ) (s : List ℕ) (a : Conformance) (told : Answers w s a) where
  pub tells-save : a ≡ Save → NumberAnswers w s yes
  unfolding Answers
  tells-save e = record { is-save = λ r. rw e at told; is-length = λ n. absurd (n refl) }

  -- no length is the number that says yes
  pub tells-length : w ≤ word_room → (k : ℕ) → a ≡ DiffersAt k → NumberAnswers w s k
  unfolding Answers Bounded
  tells-length small k e = record { is-save = λ r. absurd (omega (arith, bounded w s k (rw e at told))); is-length = λ n. rw e at told }
