-- Laws of part types as the code has them.
use Prim.Native.Nat.{ℕ, ◌≤◌, ◌<◌}
use native.Mathlib.Omega.{arith}
use mathlib.Core.Path.{◌≡◌, refl, sym, ◌∙◌, ap}
use mathlib.Core.Bool.{Bool, true, false, true≢false}
use lib.Dec.{eqb, leb, ltb}
use borrow.Author.Tests.{eqb-true, leb-true, le-leb, lt-ltb}
use Rattle.std.specs.Prelude.{Option, None, Some, IfSome, is_some, unwrap_or}
use Rattle.std.specs.Option.{ok_or}
use Rattle.answer.specs.Answer.{verdict_of, number_of as number}
use Rattle.answer.specs.declared.Reason.TheVariants.{Index, UnknownPart}
use Rattle.answer.specs.Codes as codes
use Rattle.answer.specs.Checks.{Verdict, Pass, Fail, ◌when◌, ◌unless◌}
use Rattle.answer.specs.Tests.{◌and◌}
use Rattle.answer.specs.declared.Refusal.{Refusal}
use Rattle.answer.proofs.Tests.{and_true, and_made, is_false}
use Rattle.answer.proofs.Checks.{never, unless_pass}
use denote.Enum.Bare.{sameb}
use Rattle.registers.specs.declared.Kind.{Kind}
use Rattle.registers.specs.declared.Kind.TheVariants as kinds
use Rattle.registers.specs.contracts.Kind.{the_type}
use Rattle.registers.specs.Kinds.{number_of}
use Rattle.registers.specs.Rows.{OfferedFeatures, NotifyConfig, row_count, row_of, listed}
use Rattle.registers.proofs.Rows.{no_row_lem, kind-listed}

-- the six numbers are listed, and no other
pub listed_kind : (n code : ℕ) → OfferedFeatures ≤ n → n ≤ NotifyConfig → Pass ≡ (code unless listed n)
unfolding listed ◌unless◌
listed_kind n code low high = rw (and_made _ _ (le-leb _ _ low) (le-leb _ _ high))

pub unlisted_kind : (n : ℕ) (e : Refusal) → e ≡ record { reason = UnknownPart; place = 0 } → (OfferedFeatures ≤ n → n ≤ NotifyConfig → ⊥)
    → Fail (number e.reason) e.place ≡ (codes.UnknownPart unless listed n)
unfolding listed ◌unless◌
unlisted_kind n e is out =
    rw (is, is_false (leb OfferedFeatures n and leb n NotifyConfig) (λ e. let b = and_true _ _ e in out (leb-true _ _ b.0) (leb-true _ _ b.1)))

-- a number that is refused names no row
pub refused_kind : (kind code place : ℕ) → Fail code place ≡ (codes.UnknownPart unless listed kind) → listed kind ≡ false
unfolding ◌unless◌
refused_kind kind code place h = is_false _ (λ e. never code place (h ∙ rw e))

pub row_unlisted : (kind selector code place : ℕ) → Fail code place ≡ (codes.UnknownPart unless listed kind) → row_count ≡ row_of kind selector
unfolding listed
row_unlisted kind selector code place h =
    no_row_lem kind selector (λ i lt p q.
    let b = kind-listed i lt in
    true≢false
    (sym (and_made _ _ (le-leb OfferedFeatures kind (omega arith)) (le-leb kind NotifyConfig (omega arith))) ∙ refused_kind kind code place h))

-- the refusal where the code's search found no row
pub row_found : (o : Option ℕ) (i : ℕ) → unwrap_or o row_count ≡ i → IfSome o (λ i. i < row_count)
    → verdict_of (ok_or o (record { reason = Index; place = 0 })) ≡ (codes.Index unless ltb i row_count)
unfolding ◌unless◌
row_found None i e h = rw (← e)
row_found (Some x) i e h = rw (← e, lt-ltb _ _ h)

-- the row that it found
pub row_there : (o : Option ℕ) (i : ℕ) → unwrap_or o row_count ≡ i → i < row_count → is_some o ≡ true
row_there None i e h = absurd (omega arith)
row_there (Some x) i e h = refl

-- the code's test for the type of offered features
offered_kind : (k : Kind) → sameb the_type k kinds.OfferedFeatures ≡ eqb (number_of k) OfferedFeatures
offered_kind kinds.OfferedFeatures = refl
offered_kind kinds.DriverFeatures = refl
offered_kind kinds.CommonField = refl
offered_kind kinds.DeviceStatus = refl
offered_kind kinds.QueueConfig = refl
offered_kind kinds.NotifyConfig = refl

pub read_only : (k : Kind) (kind code : ℕ) (b : Bool) (v : Verdict) → number_of k ≡ kind → b ≡ sameb the_type k kinds.OfferedFeatures → v ≡ (code when b)
    → v ≡ (code when eqb kind OfferedFeatures)
read_only k kind code b v n e h = h ∙ ap (◌when◌ code) (e ∙ offered_kind k ∙ ap (λ (i : ℕ). eqb i OfferedFeatures) n)

-- what a check of a size tells
pub sized : (code a b : ℕ) → Pass ≡ (code unless eqb a b) → a ≡ b
sized code a b h = eqb-true a b (unless_pass code _ (sym h))

-- what is set by a call is not set twice
pub once : (code : ℕ) → Pass ≡ (code when false)
unfolding ◌when◌
once code = refl
