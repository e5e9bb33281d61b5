-- Checks refuse by listed numbers: a law for each combinator in which lists of checks are written.
use Prim.Native.Nat.{ℕ, zero, suc}
use mathlib.Core.Path.{◌≡◌}
use mathlib.Core.Bool.{Bool, true, false}
use lib.Dec.{leb}
use borrow.Author.Tests.{leb-true}
use Rattle.answer.specs.Tests.{pick}
use Rattle.answer.specs.Codes.{BadBench, Indirect}
use Rattle.answer.specs.Checks.{Verdict, Pass, Fail, ◌then◌, ◌when◌, ◌unless◌, ◌at◌, first_fault}
use Rattle.answer.specs.Answer.{Answer, done, refused, settle, ◌onward◌, verdict}
use Rattle.assurance.specs.Demand1.{Listed}

pub pass_listed : Listed Pass
unfolding Listed
pass_listed = tt

-- whether a number is listed is computed
pub fail_listed : (code place : ℕ) → leb BadBench code ≡ true → leb code Indirect ≡ true → Listed (Fail code place)
unfolding Listed
fail_listed code place low high = (leb-true _ _ low, leb-true _ _ high)

pub then_listed : (u v : Verdict) → Listed u → Listed v → Listed (u then v)
unfolding ◌then◌
then_listed Pass v h k = k
then_listed (Fail code place) v h k = h

pub when_listed : (code : ℕ) (t : Bool) → Listed (Fail code 0) → Listed (code when t)
unfolding ◌when◌
when_listed code true h = h
when_listed code false h = pass_listed

pub unless-listed : (code : ℕ) (t : Bool) → Listed (Fail code 0) → Listed (code unless t)
unfolding ◌unless◌
unless-listed code true h = pass_listed
unless-listed code false h = h

pub at_listed : (v : Verdict) (place : ℕ) → Listed v → Listed (v at place)
unfolding ◌at◌ Listed
at_listed Pass place h = h
at_listed (Fail code from) place h = h

pub first-listed : (check : ℕ → Verdict) (n : ℕ) → ((i : ℕ) → Listed (check i)) → Listed (first_fault check n)
unfolding first_fault
first-listed check zero h = pass_listed
first-listed check (suc n) h = then_listed _ _ (first-listed check n h) (at_listed _ n (h n))

-- what holds of both holds of the one that is picked
pub pick_either : {A : Type 0} (P : A → Type 0) (t : Bool) (a b : A) → P a → P b → P (pick t a b)
unfolding pick
pick_either P true a b h k = h
pick_either P false a b h k = k

pub pick-listed : (t : Bool) (u v : Verdict) → Listed u → Listed v → Listed (pick t u v)
pick-listed = pick_either Listed

pub settle-listed : {R : Type 0} (v : Verdict) (r : R) → Listed v → Listed (verdict (settle v r))
unfolding settle verdict
settle-listed Pass r h = h
settle-listed (Fail code place) r h = h

pub done-listed : {R : Type 0} (r : R) → Listed (verdict (done r))
unfolding verdict
done-listed r = pass_listed

pub onward-listed : {A B : Type 0} (a : Answer A) (f : A → Answer B) → Listed (verdict a) → ((x : A) → Listed (verdict (f x))) → Listed (verdict (a onward f))
unfolding ◌onward◌ verdict
onward-listed (done x) f h k = k x
onward-listed (refused code place) f h k = h

-- `search` takes a list of checks apart, down to the numbers, of which it computes that they are listed
pub ruleset listing = (pass_listed, fail_listed, then_listed, when_listed, unless-listed, at_listed, first-listed, pick-listed)
