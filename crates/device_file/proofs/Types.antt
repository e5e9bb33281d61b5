-- Laws of the types of record as the code has them.
use Prim.Native.Nat.{ℕ, ◌≤◌}
use native.Mathlib.Omega.{arith}
use mathlib.Core.Path.{◌≡◌, refl}
use mathlib.Core.Bool.{Bool, true, false}
use mathlib.Core.Logic.{◌⊎◌, inl, inr}
use mathlib.Core.List.{List}
use lib.Dec.{eqb, leb}
use borrow.Author.Tests.{leb-true, eqb-true}
use Rattle.answer.specs.Tests.{◌and◌, ◌or◌, pick}
use Rattle.answer.specs.Codes.{UnknownPart}
use Rattle.answer.specs.Checks.{Pass, Fail, ◌unless◌}
use Rattle.answer.proofs.Tests.{and_true, is_false}
use Rattle.device_file.specs.Layout as layout
use Rattle.device_file.specs.Layout.{is_type, is_sub, prefix_size, region_size, least_length, fits, valid_content}
use Rattle.wire.specs.Field.{field}
use Rattle.device_file.specs.Types.{number_of, own_length_of}
use Rattle.device_file.proofs.Records.{fits-least, least-length, region-least}
use Rattle.device_file.specs.declared.Kind.{Kind}
use Rattle.device_file.specs.declared.Kind.TheVariants.{Region, DtPath, DtIndex, Interrupt, ConfigSpace, BarIndex, PhysAddr}

pub is_known : (k : Kind) → is_type (number_of k) ≡ true
unfolding is_type ◌and◌
is_known Region = refl
is_known DtPath = refl
is_known DtIndex = refl
is_known Interrupt = refl
is_known ConfigSpace = refl
is_known BarIndex = refl
is_known PhysAddr = refl

pub known_pass : (k : Kind) (t : ℕ) → number_of k ≡ t → Pass ≡ (UnknownPart unless is_type t)
unfolding ◌unless◌
known_pass k t e = rw (← e, is_known k)

-- a number that is none of them
pub unknown_fail : (t : ℕ) → (t ≡ 1 → ⊥) → (t ≡ 2 → ⊥) → (t ≡ 3 → ⊥) → (t ≡ 4 → ⊥) → (t ≡ 5 → ⊥) → (t ≡ 6 → ⊥) → (t ≡ 7 → ⊥)
    → Fail UnknownPart 0 ≡ (UnknownPart unless is_type t)
unfolding ◌unless◌ is_type
unknown_fail t a b c d e f g =
    let none : is_type t ≡ false = is_false (is_type t) (λ h. let l = and_true _ _ h in omega (arith, leb-true 1 t l.0, leb-true t 7 l.1)) in
    rw none

-- ---- a REGION, and any other type

pub is_region : (k : Kind) → k ≡ Region → eqb (number_of k) layout.Region ≡ true
is_region k e = rw e

pub no_region : (k : Kind) → (k ≡ Region → ⊥) → eqb (number_of k) layout.Region ≡ false
no_region Region h = absurd (h refl)
no_region DtPath h = refl
no_region DtIndex h = refl
no_region Interrupt h = refl
no_region ConfigSpace h = refl
no_region BarIndex h = refl
no_region PhysAddr h = refl

pub sub-not : (k : Kind) → (k ≡ Region) ⊎ (k ≡ Interrupt) → is_sub (number_of k) ≡ false
unfolding is_sub ◌or◌
sub-not k (inl e) = rw e
sub-not k (inr e) = rw e

pub is_sub-other : (k : Kind) → (k ≡ Region → ⊥) → (k ≡ Interrupt → ⊥) → is_sub (number_of k) ≡ true
unfolding is_sub ◌or◌
is_sub-other Region h g = absurd (h refl)
is_sub-other DtPath h g = refl
is_sub-other DtIndex h g = refl
is_sub-other Interrupt h g = absurd (g refl)
is_sub-other ConfigSpace h g = refl
is_sub-other BarIndex h g = refl
is_sub-other PhysAddr h g = refl

-- ---- lengths and content

pub fits-some : (k : Kind) (n : ℕ) → (k ≡ Region) ⊎ (k ≡ DtPath) → leb (least_length (number_of k)) n ≡ fits (number_of k) n
unfolding fits pick ◌or◌
fits-some k n (inl e) = rw e
fits-some k n (inr e) = rw e

pub fits-alone : (k : Kind) (n : ℕ) → (k ≡ Region → ⊥) → (k ≡ DtPath → ⊥) → eqb n (least_length (number_of k)) ≡ fits (number_of k) n
unfolding fits pick ◌or◌
fits-alone Region n h g = absurd (h refl)
fits-alone DtPath n h g = absurd (g refl)
fits-alone DtIndex n h g = refl
fits-alone Interrupt n h g = refl
fits-alone ConfigSpace n h g = refl
fits-alone BarIndex n h g = refl
fits-alone PhysAddr n h g = refl

pub valid_index : (k : Kind) (v : List ℕ) → k ≡ DtIndex → (leb 1 (field v 0 4) and leb (field v 0 4) 4) ≡ valid_content (number_of k) v
unfolding valid_content pick
valid_index k v e = rw e

pub valid-other : (k : Kind) (v : List ℕ) → (k ≡ DtIndex → ⊥) → true ≡ valid_content (number_of k) v
unfolding valid_content pick
valid-other Region v h = refl
valid-other DtPath v h = refl
valid-other DtIndex v h = absurd (h refl)
valid-other Interrupt v h = refl
valid-other ConfigSpace v h = refl
valid-other BarIndex v h = refl
valid-other PhysAddr v h = refl

pub long : (k : Kind) (n : ℕ) → fits (number_of k) n ≡ true → prefix_size ≤ n
long k n h = omega (arith, fits-least (number_of k) n h, least-length (number_of k) (is_known k))

pub own : (k : Kind) (n : ℕ) → fits (number_of k) n ≡ true → (prefix_size ≤ own_length_of (number_of k) n) × (own_length_of (number_of k) n ≤ n)
unfolding own_length_of pick
own k n h = go (eqb (number_of k) layout.Region) refl
  where
    go : (b : Bool) → eqb (number_of k) layout.Region ≡ b → (prefix_size ≤ pick b region_size n) × (pick b region_size n ≤ n)
    go true e = (omega arith, region-least n (rw (eqb-true (number_of k) layout.Region e) at h))
    go false e = (long k n h, omega arith)
