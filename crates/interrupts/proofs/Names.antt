-- Laws of the code's names for what the data are and what is done: they are told apart by their numbers.
use Rattle.std.proofs.Common.{◌≡◌, ℕ, Bool, eqb, refl, ne_eqb, Err}
use denote.Enum.Bare.{sameb}
use Rattle.answer.specs.Tests.{◌or◌}
use Rattle.answer.specs.Checks.{◌unless◌}
use Rattle.answer.specs.declared.Reason.TheVariants.{Flags}
use Rattle.answer.specs.declared.Refusal.{Refusal}
use Rattle.interrupts.specs.declared.Action.{Action}
use Rattle.interrupts.specs.declared.Action.TheVariants.{Mask, Unmask, Trigger}
use Rattle.interrupts.specs.declared.Data.{Data}
use Rattle.interrupts.specs.declared.Data.TheVariants.{Nothing, Bytes, Numbers}
use Rattle.interrupts.specs.Requests.{data_number, action_number, one_of_three, Read}
use Rattle.interrupts.specs.contracts.Action.{the_type as action_type}
use Rattle.interrupts.specs.contracts.Data.{the_type as data_type}

pub data-same : (a b : Data) → sameb data_type a b ≡ eqb (data_number a) (data_number b)
data-same Nothing Nothing = refl
data-same Nothing Bytes = refl
data-same Nothing Numbers = refl
data-same Bytes Nothing = refl
data-same Bytes Bytes = refl
data-same Bytes Numbers = refl
data-same Numbers Nothing = refl
data-same Numbers Bytes = refl
data-same Numbers Numbers = refl

pub action-same : (a b : Action) → sameb action_type a b ≡ eqb (action_number a) (action_number b)
action-same Mask Mask = refl
action-same Mask Unmask = refl
action-same Mask Trigger = refl
action-same Unmask Mask = refl
action-same Unmask Unmask = refl
action-same Unmask Trigger = refl
action-same Trigger Mask = refl
action-same Trigger Unmask = refl
action-same Trigger Trigger = refl

-- a number without a name
pub nameless : {N : Type 0} (number : N → ℕ) (bits : ℕ) (refusal : Refusal) → (bits ≡ 1 → ⊥) → (bits ≡ 2 → ⊥) → (bits ≡ 4 → ⊥)
    → refusal ≡ record { reason = Flags; place = 0 } → Read number bits (Err refusal)
unfolding one_of_three ◌or◌ ◌unless◌
nameless number bits refusal a b c e = record { checks = rw (e, ne_eqb bits 1 a, ne_eqb bits 2 b, ne_eqb bits 4 c); named = tt }

-- ---- tests of the code, and what its definitions ask

pub data-is : (d x : Data) {k : ℕ} {t : Bool} → data_number d ≡ k → t ≡ sameb data_type d x → t ≡ eqb k (data_number x)
data-is d x e f = rw (← e, ← data-same d x) f

pub action-is : (a x : Action) {k : ℕ} {t : Bool} → action_number a ≡ k → t ≡ sameb action_type a x → t ≡ eqb k (action_number x)
action-is a x e f = rw (← e, ← action-same a x) f
