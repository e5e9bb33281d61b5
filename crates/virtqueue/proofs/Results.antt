-- What a check made by `when` tells, and results that go on.
use Rattle.std.proofs.Common.{◌≡◌, ℕ, Bool, true, false, refl}
use Rattle.answer.specs.Checks.{Pass, Fail, ◌when◌, ◌at◌}
use Rattle.answer.specs.Answer.{Answer, done, refused, ◌onward◌}

pub stops : {R : Type 0} (code place reason spot : ℕ) (t : Bool) → Fail code place ≡ (reason when t at spot) → (t ≡ true) × (◌≡◌ {A = Answer R} (refused code place) (refused reason spot))
unfolding ◌when◌ ◌at◌
stops code place reason spot true e = (refl, cc)
stops code place reason spot false e = absurd cc

pub goes : (reason spot : ℕ) (t : Bool) → Pass ≡ (reason when t at spot) → t ≡ false
unfolding ◌when◌ ◌at◌
goes reason spot true e = absurd cc
goes reason spot false e = refl

-- one at place 0
pub stopped : {R : Type 0} (code place reason : ℕ) (t : Bool) → Fail code place ≡ (reason when t) → (t ≡ true) × (◌≡◌ {A = Answer R} (refused code place) (refused reason 0))
unfolding ◌when◌
stopped code place reason true e = (refl, cc)
stopped code place reason false e = absurd cc

pub passed : (reason : ℕ) (t : Bool) → Pass ≡ (reason when t) → t ≡ false
unfolding ◌when◌
passed reason true e = absurd cc
passed reason false e = refl

-- a refusal stands
pub stays : {A B : Type 0} (code place : ℕ) (f : A → Answer B) → (refused code place onward f) ≡ refused code place
unfolding ◌onward◌
stays code place f = refl

-- ---- what follows a read

-- a result is taken from it, and then goes on
pub onto : {A B C : Type 0} (w : Answer B) (a : Answer A) (k : A → B) (f : B → Answer C) → w ≡ (a onward λ x. done (k x)) → (w onward f) ≡ (a onward λ x. f (k x))
unfolding ◌onward◌
onto w (done x) k f e = rw e refl
onto w (refused code place) k f e = rw e refl

-- it was refused, and is the whole
pub falls : {A B C : Type 0} (code place : ℕ) (f : A → Answer B) (a : Answer B) (g : B → Answer C) → (refused code place onward f) ≡ a → refused code place ≡ (a onward g)
unfolding ◌onward◌
falls code place f a g e = rw (← e) refl

-- it gave what stands at a place
pub gives : {A B C : Type 0} (x : A) (f : A → B) (a : Answer B) (g : B → Answer C) → (done x onward λ y. done (f y)) ≡ a → g (f x) ≡ (a onward g)
unfolding ◌onward◌
gives x f a g e = rw (← e) refl
