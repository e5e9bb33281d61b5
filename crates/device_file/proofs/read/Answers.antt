use Rattle.std.proofs.Common.{◌≡◌, ◌≤◌, Err, length, rules, arith}
use Rattle.answer.specs.Answer.{◌onward◌}
use Rattle.device_file.specs.Layout.{header_size}
use Rattle.device_file.specs.Read.{file_of, read_file}
use Rattle.device_file.specs.Scan.{notes_of, header_of}
use Rattle.device_file.proofs.Scanning.{header-whole}
use Rattle.device_file.proofs.Reading.{IsFile, file-read}
use Rattle.device_file.proofs.Handing.{scan-refused, Passed, scan-passed}
use Rattle.device_file.proofs.read.Goals as goal
use Rattle.device_file.proofs.read.Goals.{In_ok-notes}

-- the file reads well
passed : (c : In_ok-notes) → Passed 0 (read_file c.args.file.now) c.in_ok-notes.notes
passed c = scan-passed 0 _ _ c.in_ok-notes.ensures

file : (c : In_ok-notes) → IsFile c.args.file.now (passed c).file
file c = file-read _ _ (passed c).is

room : (c : In_ok-notes) → header_size ≤ length c.args.file.now
room c = header-whole _ (file c).header

pub returns-in_err-notes : goal.returns-in_err-notes
unfolding header_of ◌onward◌
returns-in_err-notes c =
    let e : c.from_residual.result ≡ Err c.in_err-notes.field-0.0 = search rules in
    rw (e, scan-refused 0 _ _ _ c.in_err-notes.ensures)

pub get-requires : goal.get-requires
get-requires c = omega (arith, room c)

pub get-requires-2 : goal.get-requires-2
get-requires-2 c = omega (arith, room (goal.at.get-requires-2 c).In_ok-notes)

pub get-requires-3 : goal.get-requires-3
get-requires-3 c = room (goal.at.get-requires-3 c).In_ok-notes

pub returns : goal.returns
unfolding notes_of header_of file_of ◌onward◌
returns c =
    let k = (goal.at.returns c).In_ok-notes in
    rw (c.get-3.ensures, c.get-2.ensures, c.get.ensures, (passed k).noted, (passed k).is, (file k).is)
