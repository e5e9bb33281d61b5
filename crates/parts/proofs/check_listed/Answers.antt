-- `parts::check_listed` meets its contract.
use Rattle.std.proofs.Common.{◌≡◌, ◌<◌, ◌^◌, eqb, ltb, length, sym, ◌∙◌, ap}
use Rattle.std.proofs.lemmas.Result.{err_from_is_err_and}
use borrow.Author.Tests.{eqb-true}
use Rattle.answer.specs.Answer.{verdict_of}
use Rattle.answer.specs.Codes.{Header, Value, Twice}
use Rattle.answer.specs.Checks.{Pass, ◌then◌, ◌when◌, ◌unless◌}
use Rattle.answer.proofs.Checks.{unless_pass, decides, goes_on}
use Rattle.registers.specs.Rows.{row_count, kind_of, selector_width, selects, size_of}
use Rattle.registers.specs.Values.{content_checks}
use Rattle.registers.proofs.Listed.{row_found}
use Rattle.parts.specs.Load.{flags_of, listed_checks}
use Rattle.parts.proofs.Loading.{listed-left}
use Rattle.parts.proofs.check_listed.Goals as goal
use Rattle.parts.proofs.check_listed.Goals.{In_ok-unless, In_ok-unless-2, In_ok-row, In_ok-unless-3}

-- what the checks found
flagged : (c : In_ok-unless) → Pass ≡ (Header unless eqb c.args.part.flags (flags_of c.args.part.kind))
flagged c = rw (c.flags.ensures, c.requires.1) at c.in_ok-unless.ensures

fits : (c : In_ok-unless-2) → Pass ≡ (Header unless ltb c.args.part.selector (256 ^ selector_width c.args.part.kind))
fits c = rw (c.selector_limit.ensures, c.requires.1) at c.in_ok-unless-2.ensures

bound : (c : In_ok-row) → c.in_ok-row.row < row_count
bound c = rw c.in_ok-row.ensures.ok_part at c.requires.2.1

left : (c : In_ok-row) → let a = c.args in
    (Value unless eqb (length a.v.now) (size_of a.words c.in_ok-row.row) then Twice when a.twice then content_checks a.words (kind_of c.in_ok-row.row) a.v.now)
    ≡ listed_checks a.words a.twice a.part.kind a.part.flags a.part.selector a.v.now
left c =
    let flags = rw (c.flags.ensures, c.requires.1) at c.in_ok-unless.ensures in
    let low = rw (c.selector_limit.ensures, c.requires.1) at c.in_ok-unless-2.ensures in
    listed-left _ _ _ _ _ _ _ flags low (rw c.in_ok-row.ensures.ok_part at c.requires.2.0) (bound c)

sized : (c : In_ok-unless-3) → Pass ≡ (Value unless eqb (length c.args.v.now) (size_of c.args.words c.in_ok-row.row))
sized c = rw c.size_of.ensures at c.in_ok-unless-3.ensures

pub returns-in_err-row : goal.returns-in_err-row
unfolding listed_checks selects
returns-in_err-row c =
    let p = err_from_is_err_and c.from_residual-in_err-row.result c.from_residual-in_err-row.ensures.1 in
    let m = goal.at.returns-in_err-row c in
    rw (p.1, p.2)
    (goes_on _ _ _ (flagged m.In_ok-unless)
    (goes_on _ _ _ (fits m.In_ok-unless-2)
    (decides _ _ _ _ (ap verdict_of c.in_err-row.ensures.value ∙ rw c.at.ensures (row_found _ _ c.requires.2.0 c.requires.2.1)))))

pub returns-in_err-unless-3 : goal.returns-in_err-unless-3
returns-in_err-unless-3 c =
    let p = err_from_is_err_and c.from_residual-in_err-unless-3.result c.from_residual-in_err-unless-3.ensures.1 in
    rw (p.1, p.2) (decides _ _ _ _ (rw c.size_of.ensures at c.in_err-unless-3.ensures) ∙ left (goal.at.returns-in_err-unless-3 c).In_ok-row)

pub returns-in_err-when : goal.returns-in_err-when
returns-in_err-when c =
    let p = err_from_is_err_and c.from_residual-in_err-when.result c.from_residual-in_err-when.ensures.1 in
    let m = goal.at.returns-in_err-when c in
    rw (p.1, p.2) (goes_on _ _ _ (sized m.In_ok-unless-3) (decides _ _ _ _ c.in_err-when.ensures) ∙ left m.In_ok-row)

pub check_content-requires : goal.check_content-requires
check_content-requires c =
    let m = goal.at.check_content-requires c in
    (c.requires.0, bound m.In_ok-row, eqb-true _ _ (unless_pass _ _ (sym (sized m.In_ok-unless-3))))

pub returns : goal.returns
returns c =
    let m = goal.at.returns c in
    goes_on _ _ _ (sized m.In_ok-unless-3) (goes_on _ _ _ c.in_ok-when.ensures c.check_content.ensures) ∙ left m.In_ok-row
