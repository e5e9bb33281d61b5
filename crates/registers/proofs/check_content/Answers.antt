-- `registers::check_content` meets its contract: each row has one refusal.
use Rattle.std.proofs.Common.{◌∙◌}
use borrow.Author.Tests.{lt-ltb, le-ltb}
use Rattle.answer.specs.Tests.{pick}
use Rattle.registers.proofs.Values.{content-coded}
use Rattle.registers.proofs.check_content.Goals as goal
use Rattle.registers.proofs.check_content.Goals.{then-row-lt2, else-row-lt2}

pub returns : goal.returns
unfolding pick
returns c =
    c.unless.ensures
    ∙ elim c.if-row-lt2.branch [
      | then-row-lt2 w ↦ rw (w.reason-is, c.is_good.ensures) (rw (lt-ltb _ _ w.if-row-lt2.true) at (content-coded c.args.words c.args.row c.args.v.now c.requires.1))
      | else-row-lt2 w ↦ rw (w.reason-is, c.is_good.ensures) (rw (le-ltb _ _ w.if-row-lt2.false) at (content-coded c.args.words c.args.row c.args.v.now c.requires.1))
    ]
