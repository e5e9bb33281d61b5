-- What is saved is loaded: the round trip of parts, carried to the two calls.
use Prim.Native.Nat.{ℕ}
use mathlib.Core.Path.{◌≡◌, sym, ◌∙◌, ap}
use mathlib.Core.Bool.{true, false}
use mathlib.Core.List.{List}
use lib.ListN.{length, take}
use borrow.Author.Tests.{ltb-false}
use Rattle.answer.specs.Checks.{◌then◌, ◌unless◌}
use Rattle.answer.specs.Answer.{done, settle, verdict, result_or}
use Rattle.answer.proofs.Tests.{and_true}
use Rattle.answer.proofs.Checks.{then_pass, when_pass, unless_pass}
use Rattle.registers.specs.Cards.{is_card}
use Rattle.registers.specs.File.{File, kept_count, sound_file, file_of}
use Rattle.registers.proofs.File.{length-file}
use Rattle.parts.specs.Load.{load}
use Rattle.parts.specs.Save.{saved, save_checks}
use Rattle.parts.specs.RoundTrip.{RoundTrip}
use Rattle.parts.proofs.RoundTrip.{round_trips}
use Rattle.emulator.specs.Machine.{Emulator, machine_of, emulator_of, sound_card, sound_registers, sound, usable, with_registers}
use Rattle.emulator.specs.Effect.{value, Outcome, carried, outcome_of, effect_of, leaving, filled}
use Rattle.emulator.specs.Calls.{load_parts, save_parts, given, own_checks, checks, effect, probes_of, outcome}
use Rattle.emulator.specs.Contract.{writes, state_with, returned}
use Rattle.assurance.specs.SaveLoad.{SaveLoad}
use Rattle.assurance.proofs.Overwrite.{front-taken}
use Rattle.assurance.proofs.Answers.{accepted-passes}

-- an accepted save of `n` bytes: the registers are sound, and the buffer begins with their stream
accepted : (e : Emulator) (buf : List ℕ) (n : ℕ) → (outcome save_parts buf e).answer ≡ done (value n)
    → let w = e.machine.words in
    (sound_file w e.machine.registers ≡ true) × (take n (filled (outcome save_parts buf e).effect.pieces buf) ≡ saved w e.machine.registers)
unfolding outcome outcome_of checks given usable own_checks save_checks sound sound_registers effect effect_of filled
accepted e buf n a =
    let r = accepted-passes save_parts buf e (value n) a in
    let size : length (saved e.machine.words e.machine.registers) ≡ n = cc in
    let both = then_pass _ _ r.0 in
    let room = ltb-false _ _ (when_pass _ _ (then_pass _ _ both.1).1) in
    ((and_true _ _ (unless_pass _ _ both.0)).1, rw (r.0, ← size) (front-taken buf _ room))

-- the stream of a sound register file, loaded on the same card
loaded : (f : Emulator) (w : ℕ) (file : File) (s : List ℕ) → length file ≡ kept_count → sound_file w file ≡ true → s ≡ saved w file → sound f.room f.machine ≡ true
    → f.machine.running ≡ false → w ≡ f.machine.words
    → outcome load_parts s f ≡ record { answer = done (value 0); probes = 0; effect = leaving (with_registers file f.machine) }
unfolding outcome outcome_of carried checks own_checks effect probes_of given usable ◌then◌ ◌unless◌ settle effect_of verdict result_or RoundTrip sound sound_card
loaded f w file s long kept is good stopped same =
    let card : is_card w ≡ true = rw same (and_true _ _ (and_true _ _ (and_true _ _ (and_true _ _ (and_true _ _ good).0).0).0).0).0 in
    let ok : load f.machine.words f.machine.running s ≡ done file = rw (is, stopped, ← same) (round_trips w card file long kept) in
    rw (good, ok)

pub save-load : SaveLoad
unfolding emulator_of machine_of file_of returned writes state_with with_registers
save-load =
    record {
      outcomes = λ e f buf n long a good stopped same. let r = accepted e buf n a in loaded f _ _ _ long r.0 r.1 good stopped same;
      code = λ s s' t t' rs rs' us us' m m' k k' buf saved stream n r long h good stopped same g.
          let a = accepted (emulator_of s rs m) buf n (sym h.answer) in
          let o = loaded (emulator_of t us k) s.words (file_of s.words s.registers) (take n saved) (length-file s.words 1 s.registers.slots ∙ long) a.0 (ap (take n) h.buffer ∙ a.1) good stopped same in
          let answer = ap (λ (x : Outcome). x.answer) o in
          (g.answer ∙ answer, g.state ∙ rw ((accepted-passes load_parts (take n saved) (emulator_of t us k) (value 0) answer).0, o));
    }
