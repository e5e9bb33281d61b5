-- `registers::is_good` meets its contract, range by range: a value of its row's size has the bytes that the rule of its row looks at.
use Rattle.std.proofs.Common.{sym, ◌∙◌, ap, arith}
use Rattle.answer.specs.Checks.{passes}
use Rattle.registers.specs.Values.{valid_notify}
use Rattle.registers.proofs.Values.{unless-passes, content-features, content-free, content-queue, content-notify}
use Rattle.registers.proofs.is_good.Goals as goal

pub returns-in-0-to-1 : goal.returns-in-0-to-1
returns-in-0-to-1 c =
    let a = c.args in
    c.are_offered.ensures ∙ sym (ap passes (content-features a.words a.row a.v.now (omega arith)) ∙ unless-passes _ _)

pub returns-in-2-to-6 : goal.returns-in-2-to-6
unfolding passes
returns-in-2-to-6 c =
    let a = c.args in
    sym (ap passes (content-free a.words a.row a.v.now (omega arith) (omega arith)))

pub returns-in-7-to-10 : goal.returns-in-7-to-10
returns-in-7-to-10 c =
    let a = c.args in
    c.is_valid_queue.ensures ∙ sym (ap passes (content-queue a.words a.row a.v.now (omega arith) (omega arith)) ∙ unless-passes _ _)

pub returns-in_default : goal.returns-in_default
unfolding valid_notify
returns-in_default c =
    let a = c.args in
    rw c.get.ensures (sym (ap passes (content-notify a.words a.row a.v.now (omega arith) c.requires.1) ∙ unless-passes _ _))
