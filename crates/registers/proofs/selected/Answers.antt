-- `registers::selected` meets its contract.
use Rattle.std.proofs.Common.{◌≡◌, ltb, eqb, ◌∙◌, ap}
use Rattle.std.proofs.lemmas.Result.{err_from_is_err_and}
use borrow.Author.Tests.{eq-eqb, ne_eqb}
use Rattle.answer.specs.Tests.{◌and◌}
use Rattle.answer.specs.Codes.{Header}
use Rattle.answer.specs.Checks.{◌when◌}
use Rattle.answer.proofs.Checks.{decides, goes_on}
use Rattle.registers.specs.Rows.{selector_width, selects}
use Rattle.registers.specs.Kinds.{number_of}
use Rattle.registers.specs.Access.{selector_checks}
use Rattle.registers.proofs.Listed.{row_found}
use Rattle.registers.proofs.selected.Goals as goal
use Rattle.registers.proofs.selected.Goals.{After-when, then-selector_width-eq0, else-selector_width-eq0}

tested : (c : After-when) → c.if-selector_width-eq0.when ≡ (eqb (selector_width (number_of c.args.kind)) 0 and ltb 0 c.args.selector)
unfolding ◌and◌
tested c =
    elim c.if-selector_width-eq0.branch [
      | then-selector_width-eq0 w ↦ rw (w.when-is, ← c.selector_width.ensures, eq-eqb _ _ w.if-selector_width-eq0.true)
      | else-selector_width-eq0 w ↦ rw (w.when-is, ← c.selector_width.ensures, ne_eqb _ _ w.if-selector_width-eq0.false)
    ]

pub returns-in_err-when-clause-checks : goal.returns-in_err-when-clause-checks
unfolding selector_checks
returns-in_err-when-clause-checks c =
    let p = err_from_is_err_and c.from_residual.result c.from_residual.ensures.1 in
    rw (p.1, p.2) (decides _ _ _ _ (c.in_err-when.ensures ∙ ap (◌when◌ Header) (tested (goal.at.returns-in_err-when-clause-checks c).After-when)))

pub returns-clause-checks : goal.returns-clause-checks
unfolding selector_checks selects
returns-clause-checks c =
    goes_on _ _ _ (c.in_ok-when.ensures ∙ ap (◌when◌ Header) (tested (goal.at.returns-clause-checks c).After-when))
    (rw (c.ok_or.ensures.value, c.at.ensures) (row_found _ _ c.row.ensures.0 c.row.ensures.1))
