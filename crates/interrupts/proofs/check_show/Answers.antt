use Rattle.std.proofs.Common.{arith}
use Rattle.answer.proofs.Checks.{decides, goes_on}
use Rattle.interrupts.proofs.Requests.{show-listed}
use Rattle.interrupts.proofs.check_show.Goals as goal

pub returns-in_err-interrupt : goal.returns-in_err-interrupt
returns-in_err-interrupt c = rw (show-listed c.args.index c.args.line) (grind (arith, decides, goes_on))

pub returns : goal.returns
returns c = rw (show-listed c.args.index c.args.line, ← c.in_ok-interrupt.ensures.fields) (grind (arith, decides, goes_on))
