-- What a call's answer tells of its checks.
use Prim.Native.Nat.{ℕ}
use native.Mathlib.Omega.{arith}
use mathlib.Core.Path.{◌≡◌, refl}
use mathlib.Core.List.{List}
use Rattle.answer.specs.Answer.{done, refused, settle}
use Rattle.answer.specs.Checks.{Verdict, Pass, Fail}
use Rattle.emulator.specs.Machine.{Emulator}
use Rattle.emulator.specs.Effect.{Result, outcome_of}
use Rattle.emulator.specs.Calls.{Call, checks, effect, outcome}

settle-done : {R : Type 0} (v : Verdict) (r t : R) → settle v r ≡ done t → (v ≡ Pass) × (r ≡ t)
unfolding settle
settle-done Pass r t h = (refl, cc)
settle-done (Fail code place) r t h = absurd (let z : ◌≡◌ {A = ℕ} 0 1 = cc in omega arith)

settle-refused : {R : Type 0} (v : Verdict) (r : R) (code place : ℕ) → settle v r ≡ refused code place → v ≡ Fail code place
unfolding settle
settle-refused Pass r code place h = absurd (let z : ◌≡◌ {A = ℕ} 0 1 = cc in omega arith)
settle-refused (Fail c p) r code place h = cc

-- an accepted call's checks pass, and it answers with the result of its effect
pub accepted-passes : (c : Call) (buf : List ℕ) (e : Emulator) (r : Result) → (outcome c buf e).answer ≡ done r → (checks c buf e ≡ Pass) × ((effect c buf e).result ≡ r)
unfolding outcome outcome_of
accepted-passes c buf e r h = settle-done _ _ r h

-- a refused call answers with the check that fails
pub refused_fails : (c : Call) (buf : List ℕ) (e : Emulator) (code place : ℕ) → (outcome c buf e).answer ≡ refused code place → checks c buf e ≡ Fail code place
unfolding outcome outcome_of
refused_fails c buf e code place h = settle-refused _ _ code place h
