-- 16 bytes are two numbers of 8.
use Rattle.std.proofs.Common.{eqb, sym, ◌∙◌, arith}
use borrow.Author.Tests.{eq-eqb, ne_eqb}
use Rattle.answer.proofs.Tests.{and_first, and_second}
use Rattle.wire.specs.Field.{field}
use Rattle.conformance.specs.Saves.{Bytes}
use Rattle.conformance.proofs.Steps.{halves}
use Rattle.conformance.proofs.same_header.Goals as goal

pub returns-then-get : goal.returns-then-get
returns-then-get c =
    let a = c.args.a.now in
    let b = c.args.b.now in
    let ab : Bytes a = λ j. omega (arith, c.type_inv.a j) in
    let bb : Bytes b = λ j. omega (arith, c.type_inv.b j) in
    and_second (eq-eqb (field a 0 8) (field b 0 8) (sym c.get.ensures ∙ c.if-get.true ∙ c.get-2.ensures)) (rw (c.get-then-get.ensures, c.get-then-get-2.ensures))
    ∙ halves a b ab bb

pub returns-else-get : goal.returns-else-get
returns-else-get c =
    let a = c.args.a.now in
    let b = c.args.b.now in
    let ab : Bytes a = λ j. omega (arith, c.type_inv.a j) in
    let bb : Bytes b = λ j. omega (arith, c.type_inv.b j) in
    and_first (eqb (field a 8 8) (field b 8 8)) (ne_eqb (field a 0 8) (field b 0 8) (λ e. c.if-get.false (c.get.ensures ∙ e ∙ sym c.get-2.ensures))) (rw (c.get.ensures, c.get-2.ensures))
    ∙ halves a b ab bb
