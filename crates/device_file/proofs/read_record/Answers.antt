-- The pass finds the record.
use Rattle.std.proofs.Common.{◌≡◌, Err, rules}
use Rattle.device_file.specs.Scan.{notes_of}
use Rattle.device_file.proofs.Handing.{scan-refused, scan-passed, hands_refused, hands_done}
use Rattle.device_file.proofs.read_record.Goals as goal

pub returns-in_err-scan : goal.returns-in_err-scan
returns-in_err-scan c =
    let e : c.from_residual.result ≡ Err c.in_err-scan.field-0.0 = search rules in
    hands_refused _ _ _ _ e (scan-refused _ _ _ _ c.in_err-scan.ensures)

pub returns : goal.returns
unfolding notes_of
returns c =
    let p = scan-passed _ _ _ c.in_ok-scan.ensures in
    rw p.noted (hands_done _ _ p.file p.is)
