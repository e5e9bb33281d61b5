use Rattle.std.proofs.Common.{rules, ℕ, ◌%◌, sym, ap, ◌∙◌, arith}
use borrow.Author.Tests.{eqb-false}
use Rattle.conformance.proofs.Steps.{none_left, other-first, shared-header}
use Rattle.conformance.proofs.Row.header_at.Goals as goal

pub returns-then-is_empty : goal.returns-then-is_empty
returns-then-is_empty c = none_left _ _ _ (search rules)

pub returns-then-h-first : goal.returns-then-h-first
returns-then-h-first c =
    other-first c.args.self.words c.args.self.index c.args.h.now (omega (arith, eqb-false _ _ (sym c.is_empty.ensures ∙ c.if-is_empty.false))) (λ p. c.if-h-first.true (p ∙ ap (λ (x : ℕ). x % 256) (sym (c.number.ensures ∙ c.kind_of.ensures))))

pub returns-then-same_header : goal.returns-then-same_header
returns-then-same_header c =
    shared-header c.args.self.words c.args.self.index c.args.h.now (λ j. omega (arith, c.type_inv.h j)) c.if-h-ge-HEADER_SIZE.true
    (rw c.header-expected.ensures at (sym c.same_header.ensures ∙ c.if-same_header.true))
