-- The value lies in the stream, and what it holds is told by its checks.
use Rattle.std.proofs.Common.{ℕ, ◌≡◌, ◌≤◌, List, Result, Ok, Err, is_ok, leb, length, take, refl, ap, ◌∙◌, arith}
use borrow.Author.Tests.{lt-leb, le-leb}
use Rattle.answer.specs.Tests.{◌and◌}
use Rattle.answer.specs.Checks.{Verdict, passes}
use Rattle.answer.specs.Answer.{verdict_of}
use Rattle.answer.specs.declared.Refusal.{Refusal}
use Rattle.answer.proofs.Tests.{and_first, and_second}
use Rattle.registers.specs.Rows.{kind_of, size_of}
use Rattle.registers.specs.Values.{content_checks}
use Rattle.conformance.proofs.Row.is_value.Goals as goal

ok-passes : {R : Type 0} (r : Result R Refusal) → is_ok r ≡ passes (verdict_of r)
unfolding passes
ok-passes (Ok x) = refl
ok-passes (Err e) = refl

-- the verdict on as many bytes as the row has is the one asked for
told : (w i n : ℕ) (v : List ℕ) (r : Verdict) → n ≡ size_of w i → n ≤ length v → r ≡ content_checks w (kind_of i) (take n v)
    → passes r ≡ (leb (size_of w i) (length v) and passes (content_checks w (kind_of i) (take (size_of w i) v)))
told w i n v r e le h =
    and_second (le-leb (size_of w i) (length v) (omega arith)) (ap passes (h ∙ ap (λ (k : ℕ). content_checks w (kind_of i) (take k v)) e))

pub returns-then-size-v : goal.returns-then-size-v
returns-then-size-v c = c.is_ok.ensures.value ∙ ok-passes _ ∙ told _ _ _ _ _ c.size_of-size.ensures c.if-size-v.true c.check_content.ensures

pub returns-else-size-v : goal.returns-else-size-v
returns-else-size-v c =
    and_first _ (lt-leb (size_of c.args.self.words c.args.self.index) (length c.args.v.now) (omega (arith, c.size_of-size.ensures, c.if-size-v.false))) (rw c.size_of-size.ensures)
