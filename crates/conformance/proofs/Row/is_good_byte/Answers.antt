-- By the ranges of rows that have one rule.
use Rattle.std.proofs.Common.{sym, ◌∙◌, arith}
use borrow.Author.Tests.{lt-ltb, le-ltb}
use Rattle.answer.specs.Tests.{◌or◌, pick}
use Rattle.conformance.proofs.Values.{byte-features, byte-free, byte-queue, byte-notify}
use Rattle.conformance.proofs.Row.is_good_byte.Goals as goal

pub returns-in-0 : goal.returns-in-0
unfolding pick
returns-in-0 c = c.is_feature_byte.ensures ∙ sym (byte-features _ _ _ (omega (arith, c.in-0.is)) ∙ rw c.in-0.is)

pub returns-in-1 : goal.returns-in-1
unfolding pick
returns-in-1 c = c.is_feature_byte-in-1.ensures ∙ sym (byte-features _ _ _ (omega (arith, c.in-1.is)) ∙ rw c.in-1.is)

pub returns-in-2-to-6 : goal.returns-in-2-to-6
returns-in-2-to-6 c = sym (byte-free _ _ _ (omega arith) (omega arith))

pub returns-in-7-to-10 : goal.returns-in-7-to-10
returns-in-7-to-10 c = c.is_queue_byte.ensures ∙ sym (byte-queue _ _ _ (omega arith) (omega arith))

pub returns-then-i-lt4 : goal.returns-then-i-lt4
unfolding ◌or◌
returns-then-i-lt4 c = sym (byte-notify _ _ _ (omega arith) ∙ rw (lt-ltb _ _ c.if-i-lt4.true))

pub returns-else-i-lt4 : goal.returns-else-i-lt4
unfolding ◌or◌
returns-else-i-lt4 c = sym (byte-notify _ _ _ (omega arith) ∙ rw (le-ltb _ _ c.if-i-lt4.false))
