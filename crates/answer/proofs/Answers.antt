-- Laws of answers, for functions that take a result by `?`: a refusal stands, and behind a result there is what follows from it.
use Rattle.std.proofs.Common.{◌≡◌, ℕ, sym}
use Rattle.answer.specs.Checks.{Verdict, Pass, Fail}
use Rattle.answer.specs.Answer.{Answer, done, refused, settle, ◌onward◌}

pub refuses : {A B : Type 0} (a : Answer A) (f : A → Answer B) (code place : ℕ) → refused code place ≡ a → refused code place ≡ (a onward f)
unfolding ◌onward◌
refuses a f code place h = rw (sym h)

pub follows : {A B : Type 0} (a : Answer A) (f : A → Answer B) (x : A) (w : Answer B) → done x ≡ a → w ≡ f x → w ≡ (a onward f)
unfolding ◌onward◌
follows a f x w h k = rw (sym h, k)

pub fails : {R : Type 0} (v : Verdict) (result : R) (code place : ℕ) → Fail code place ≡ v → refused code place ≡ settle v result
unfolding settle
fails v result code place h = rw (sym h)

pub settles : {R : Type 0} (v : Verdict) (result x : R) → Pass ≡ v → x ≡ result → done x ≡ settle v result
unfolding settle
settles v result x h k = rw (sym h, k)
