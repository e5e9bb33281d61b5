-- An accepted stream makes a sound register file, and what code writes for it is that file.
use Prim.Native.Nat.{ℕ, zero, suc, ◌+◌}
use native.Mathlib.Omega.{arith}
use mathlib.Core.Path.{◌≡◌, refl, sym, ◌∙◌, ap}
use mathlib.Core.Bool.{Bool, true, false}
use mathlib.Core.List.{List, [], ◌∷◌}
use mathlib.Core.Option.{some}
use lib.ListN.{length, set, length-set}
use Rattle.answer.specs.Tests.{◌and◌, pick}
use Rattle.answer.specs.Answer.{Answer, done, refused, settle, ◌onward◌, verdict, result_or}
use Rattle.answer.specs.Checks.{Verdict, Pass, Fail}
use Rattle.answer.proofs.Tests.{and_true, and_made, pick_true}
use Rattle.answer.proofs.Checks.{never, then_pass, unless_pass, when_pass, at_pass}
use Rattle.registers.specs.Rows.{row_count, row_of, listed}
use Rattle.registers.specs.Values.{value_checks}
use Rattle.registers.specs.File.{File, kept_count, current, sound_values_from, sound_file, file_of, slots_of, sound_value}
use Rattle.registers.proofs.File.{sound-cons, sound-sized, file-written}
use Rattle.registers.proofs.Soundness.{sound-set}
use Rattle.parts.specs.Step.{Step, Part, End, Refused, step_at}
use Rattle.parts.specs.Load.{Seen, listed_checks, part_checks, taken, finish, on_step, load_from, load, loaded_of}

-- ---- answers that are results

never_done : {X R : Type 0} {code place : ℕ} {r : R} → refused code place ≡ done r → X
never_done e = absurd (let z : ◌≡◌ {A = ℕ} 0 1 = cc in omega arith)

same-done : {R : Type 0} {r q : R} → done r ≡ done q → r ≡ q
same-done e = cc

settled : {R : Type 0} (v : Verdict) (r q : R) → settle v r ≡ done q → (v ≡ Pass) × (r ≡ q)
unfolding settle
settled Pass r q e = (refl, same-done e)
settled (Fail code place) r q e = never_done e

onward-done : {A B : Type 0} (a : Answer A) (f : A → Answer B) (b : B) → (a onward f) ≡ done b → (r : A) × (a ≡ done r) × (f r ≡ done b)
unfolding ◌onward◌
onward-done (done r) f b e = (r, refl, e)
onward-done (refused code place) f b e = never_done e

-- ---- what is seen stays sound

-- each value seen passes its row's checks
pub record Good (w : ℕ) (seen : Seen) : Type 0 where
  pub long : length seen ≡ row_count
  pub sound : sound_values_from w 0 seen ≡ true

-- a value that passes passes as the first one, too
once : (w i : ℕ) (twice : Bool) (v : List ℕ) → value_checks w i twice v ≡ Pass → value_checks w i false v ≡ Pass
unfolding value_checks
once w i twice v h = ap (λ (t : Bool). value_checks w i t v) (sym (when_pass _ _ (then_pass _ _ (then_pass _ _ h).1).0)) ∙ h

module _ (w : ℕ) (seen : Seen) (twice : Bool) (kind flags selector : ℕ) (v : List ℕ) (h : part_checks w twice kind flags selector v ≡ Pass) (good : Good w seen) where
  value-good : listed kind ≡ true → value_checks w (row_of kind selector) false v ≡ Pass
  unfolding part_checks listed_checks
  value-good l =
      let a = then_pass _ _ (sym (pick_true _ _ _ l) ∙ (then_pass _ _ h).1) in
      once w _ _ v (then_pass _ _ (then_pass _ _ a.1).1).1

  taken-good : Good w (taken seen kind selector v)
  unfolding taken pick
  taken-good = go (listed kind) refl
    where
      go : (t : Bool) → listed kind ≡ t → Good w (pick t (set seen (row_of kind selector) (some v)) seen)
      go true e =
          let i : 0 + row_of kind selector ≡ row_of kind selector = omega arith in
          record {
            long = length-set seen (row_of kind selector) (some v) ∙ good.long;
            sound = sound-set w 0 seen (row_of kind selector) v good.sound (rw i (value-good e));
          }
      go false e = good

-- ---- the whole stream

unfoldable Sound : ℕ → File → Type 0
Sound w file = (length file ≡ kept_count) × (sound_file w file ≡ true)

finish-sound : (w : ℕ) (seen : Seen) (p : ℕ) (file : File) → finish seen p ≡ done file → Good w seen → Sound w file
unfolding finish sound_file current Sound
finish-sound w [] p file e good = absurd (omega (arith, good.long))
finish-sound w (x ∷ rest) p file e good =
    let d = settled _ _ _ e in
    rw (← d.1)
    (omega (arith, good.long), and_made _ _ (unless_pass _ _ (at_pass _ p d.0)) (and_true _ _ (sym (sound-cons w 0 x rest) ∙ good.sound)).1)

from-sound : (w fuel : ℕ) (s : List ℕ) (p : ℕ) (seen : Seen) (file : File) → load_from w fuel s p seen ≡ done file → Good w seen → Sound w file
unfolding load_from on_step
from-sound w zero s p seen file e good = never_done e
from-sound w (suc fuel) s p seen file e good = step (step_at s p) e (λ p' seen'. from-sound w fuel s p' seen' file)
  where
    step : (x : Step) → on_step w (load_from w fuel s) s p seen x ≡ done file
        → ((p' : ℕ) (seen' : Seen) → load_from w fuel s p' seen' ≡ done file → Good w seen' → Sound w file) → Sound w file
    step End e more = finish-sound w seen p file e good
    step (Refused code place) e more = never_done e
    step (Part kind flags selector next) e more =
        let o = onward-done _ _ _ e in
        let d = settled _ _ _ o.1 in
        more next o.0 o.2 (rw (← d.1) (taken-good w seen _ kind flags selector _ (at_pass _ p d.0) good))

-- What an accepted stream makes is a sound register file.
pub load-sound : (w : ℕ) (running : Bool) (s : List ℕ) (file : File) → load w running s ≡ done file → (length file ≡ kept_count) × (sound_file w file ≡ true)
unfolding load Sound sound_values_from sound_value ◌and◌
load-sound w running s file e =
    let o = onward-done _ _ _ e in
    let d = settled _ _ _ o.1 in
    from-sound w (suc (length s)) s 0 o.0 file o.2 (rw (← d.1) record { long = refl; sound = refl })

-- ---- what `load` gives

pub loaded-verdict : (a : Answer File) → verdict (loaded_of a) ≡ verdict a
unfolding loaded_of verdict
loaded-verdict (done file) = refl
loaded-verdict (refused code place) = refl

-- the registers that code writes for an accepted stream are the file that it makes
pub loaded-file : (w : ℕ) (running : Bool) (s : List ℕ) (old : File) → verdict (load w running s) ≡ Pass → file_of w (record { slots = slots_of (result_or old (load w running s)) }) ≡ result_or old (load w running s)
unfolding file_of sound_file result_or verdict
loaded-file w running s old = go (load w running s) refl
  where
    go : (x : Answer File) → load w running s ≡ x → verdict x ≡ Pass → file_of w (record { slots = slots_of (result_or old x) }) ≡ result_or old x
    go (done file) e ok = file-written w 1 file (sound-sized w 1 file (and_true _ _ (load-sound w running s file e).1).1)
    go (refused code place) e ok = never code place ok
