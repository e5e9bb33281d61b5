use Rattle.std.proofs.Common.{◌-◌, length}
use Rattle.device_file.proofs.Scanning.{Loop}
use Rattle.device_file.proofs.scan.Given as goal

abbrev pub invariant-loop-cursor : goal.invariant-loop-cursor
invariant-loop-cursor l = Loop l.file l.n l.cursor l.notes

abbrev pub decreases-loop-cursor : goal.decreases-loop-cursor
decreases-loop-cursor l = length l.file - l.cursor.at
