-- A law of refusals at another place.
use Rattle.std.proofs.Common.{◌≡◌, ℕ, Result, Ok, Err, MatchResult}
use Rattle.std.specs.Result.{IsErrAnd}
use Rattle.answer.specs.Checks.{Verdict, ◌at◌}
use Rattle.answer.specs.Answer.{verdict_of}
use Rattle.answer.specs.declared.Refusal.{Refusal}

-- a result whose refusal is moved to another place
pub moved : {R : Type 0} (r r' : Result R Refusal) (v : Verdict) (place : ℕ) → verdict_of r ≡ v
    → MatchResult r (λ x. r' ≡ Ok x) (λ e. IsErrAnd r' (λ f. f ≡ record { reason = e.reason; place = place })) → verdict_of r' ≡ (v at place)
unfolding ◌at◌
moved (Ok x) r' v place h m = rw (m, ← h)
moved (Err e) (Ok y) v place h m = absurd m
moved (Err e) (Err f) v place h m = rw (m, ← h)
