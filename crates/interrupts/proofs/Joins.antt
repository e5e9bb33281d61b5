-- A test that the code makes of two, the second only where the first does not decide.
use Rattle.std.proofs.Common.{◌≡◌, Bool, true, false, ◌∙◌}
use Rattle.answer.specs.Tests.{◌and◌, ◌or◌}

pub and-both : {s t w a b : Bool} → s ≡ a → t ≡ b → s ≡ true → w ≡ t → w ≡ (a and b)
unfolding ◌and◌
and-both e f h is = rw (← e, h) (is ∙ f)

pub and-first : {s w a : Bool} (b : Bool) → s ≡ a → s ≡ false → w ≡ s → w ≡ (a and b)
unfolding ◌and◌
and-first b e h is = rw (← e, h) (is ∙ h)

pub or-both : {s t w a b : Bool} → s ≡ a → t ≡ b → s ≡ false → w ≡ t → w ≡ (a or b)
unfolding ◌or◌
or-both e f h is = rw (← e, h) (is ∙ f)

pub or-first : {s w a : Bool} (b : Bool) → s ≡ a → s ≡ true → w ≡ s → w ≡ (a or b)
unfolding ◌or◌
or-first b e h is = rw (← e, h) (is ∙ h)
