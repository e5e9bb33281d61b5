use Rattle.std.proofs.Common.{◌≡◌, rules, Ok, MatchResult}
use Rattle.std.specs.Result.{IsErrAnd}
use Rattle.device_file.specs.Read.{record_fault}
use Rattle.device_file.proofs.Refusals.{moved}
use Rattle.answer.specs.declared.Refusal.{Refusal}
use Rattle.device_file.proofs.Cursor.entry.Goals as goal

pub returns-clause-checks : goal.returns-clause-checks
unfolding record_fault
returns-clause-checks c =
    let h : MatchResult c.check.result (λ x. c.map_err.result ≡ Ok x) (λ e. IsErrAnd c.map_err.result (λ (f : Refusal). f ≡ record { reason = e.reason; place = c.args.self.at })) = search rules in
    moved c.check.result c.map_err.result _ c.args.self.at c.check.ensures.checks h
