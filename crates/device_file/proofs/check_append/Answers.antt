-- Each test decides, and the code's say what the definition's do.
use Rattle.std.proofs.Common.{◌≡◌, ◌+◌, not, length, refl, sym, ◌∙◌, rules, arith}
use Rattle.answer.specs.Tests.{◌and◌, is_some}
use Rattle.answer.proofs.Checks.{decides, goes_on, unless_pass}
use Rattle.device_file.specs.Layout.{is_sub}
use Rattle.device_file.specs.Scan.{option_in}
use Rattle.device_file.specs.Write.{record_length}
use Rattle.device_file.proofs.Records.{index-length}
use Rattle.device_file.proofs.Writing.{no_region, bare_fits_lem}
use Rattle.device_file.proofs.Appending.{checks_read}
use Rattle.device_file.proofs.check_append.Goals as goal
use Rattle.device_file.proofs.check_append.Goals.{After-when, then-is_sub, else-is_sub}

-- the code's test of a sub-record that has no REGION
alone : (c : After-when) → c.if-is_sub.when ≡ (is_sub c.args.number and not (is_some (option_in c.args.region)))
unfolding ◌and◌
alone c =
    let sub : c.is_sub.result ≡ is_sub c.args.number = rw (← c.in_ok-kind.ensures.1) c.is_sub.ensures in
    elim c.if-is_sub.branch [
      | then-is_sub w ↦ rw (sym sub ∙ w.if-is_sub.true) (w.when-is ∙ no_region c.args.region _ w.is_none.ensures)
      | else-is_sub w ↦ rw (sym sub ∙ w.if-is_sub.false) (w.when-is ∙ w.if-is_sub.false)
    ]

pub returns-in_err-kind-clause-checks : goal.returns-in_err-kind-clause-checks
unfolding record_length
returns-in_err-kind-clause-checks c =
    let a = c.args in
    rw (checks_read a.room a.used (option_in a.region) a.number (8 + length a.content.now) a.content.now _ c.requires refl refl) (search (rules, decides, goes_on))

pub returns-in_err-when-clause-checks : goal.returns-in_err-when-clause-checks
unfolding record_length
returns-in_err-when-clause-checks c =
    let a = c.args in
    rw (checks_read a.room a.used (option_in a.region) a.number (8 + length a.content.now) a.content.now _ c.requires refl (alone (goal.at.returns-in_err-when-clause-checks c).After-when)) (search (rules, decides, goes_on))

pub returns-in_err-unless-clause-checks : goal.returns-in_err-unless-clause-checks
unfolding record_length
returns-in_err-unless-clause-checks c =
    let a = c.args in
    rw (checks_read a.room a.used (option_in a.region) a.number (8 + length a.content.now) a.content.now _ c.requires refl (alone (goal.at.returns-in_err-unless-clause-checks c).After-when)) (search (rules, decides, goes_on))

pub is_valid_content-requires : goal.is_valid_content-requires
is_valid_content-requires c = λ e.
    let fit = bare_fits_lem _ _ (sym c.bare_fits.ensures ∙ unless_pass _ _ (sym c.in_ok-unless.ensures)) in
    omega (arith, index-length _ _ fit e)

pub returns-in_err-unless-2-clause-checks : goal.returns-in_err-unless-2-clause-checks
unfolding record_length
returns-in_err-unless-2-clause-checks c =
    let a = c.args in
    rw (checks_read a.room a.used (option_in a.region) a.number (8 + length a.content.now) a.content.now _ c.requires refl (alone (goal.at.returns-in_err-unless-2-clause-checks c).After-when)) (search (rules, decides, goes_on))

pub returns-in_err-when-2-clause-checks : goal.returns-in_err-when-2-clause-checks
unfolding record_length
returns-in_err-when-2-clause-checks c =
    let a = c.args in
    rw (checks_read a.room a.used (option_in a.region) a.number (8 + length a.content.now) a.content.now _ c.requires refl (alone (goal.at.returns-in_err-when-2-clause-checks c).After-when)) (search (rules, decides, goes_on))

pub returns-clause-checks : goal.returns-clause-checks
unfolding record_length
returns-clause-checks c =
    let a = c.args in
    rw (checks_read a.room a.used (option_in a.region) a.number (8 + length a.content.now) a.content.now _ c.requires refl (alone (goal.at.returns-clause-checks c).After-when)) (search (rules, decides, goes_on))
