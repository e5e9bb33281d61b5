use Rattle.std.proofs.Common.{sym, arith}
use borrow.Author.Tests.{leb-true}
use Rattle.answer.proofs.Checks.{unless_pass}
use Rattle.device_file.proofs.check_header.Goals as goal

pub get-requires : goal.get-requires
get-requires c = omega (arith, leb-true _ _ (unless_pass _ _ (sym c.in_ok-unless.ensures)))
