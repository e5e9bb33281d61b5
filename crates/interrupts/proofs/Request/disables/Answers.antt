use Rattle.std.proofs.Common.{sym, ◌∙◌}
use mathlib.Core.Bool.{true≢false}
use Rattle.answer.specs.Tests.{◌and◌}
use Rattle.interrupts.specs.declared.Action.TheVariants.{Trigger}
use Rattle.interrupts.specs.declared.Data.TheVariants.{Nothing}
use Rattle.interrupts.proofs.Names.{data-same, action-same}
use Rattle.interrupts.proofs.Request.disables.Goals as goal
use Rattle.interrupts.proofs.Request.disables.Goals.{then-eq, else-eq}

pub returns-then-eq-2 : goal.returns-then-eq-2
unfolding ◌and◌
returns-then-eq-2 c =
    let r = c.args.self in
    elim c.if-eq.branch [
      | then-eq w ↦ rw (
        ← data-same r.«data» Nothing,
        sym c.eq.ensures ∙ w.if-eq.true,
        ← action-same r.action Trigger,
        sym w.eq-then-eq.ensures ∙ sym w.value-is ∙ c.if-eq-2.true,
      )
      | else-eq w ↦ absurd (true≢false (sym c.if-eq-2.true ∙ w.value-is ∙ w.if-eq.false))
    ]

pub returns-else-eq-2 : goal.returns-else-eq-2
unfolding ◌and◌
returns-else-eq-2 c =
    let r = c.args.self in
    elim c.if-eq.branch [
      | then-eq w ↦ rw (
        ← data-same r.«data» Nothing,
        sym c.eq.ensures ∙ w.if-eq.true,
        ← action-same r.action Trigger,
        sym w.eq-then-eq.ensures ∙ sym w.value-is ∙ c.if-eq-2.false,
        c.if-eq-2.false,
      )
      | else-eq w ↦ rw (← data-same r.«data» Nothing, sym c.eq.ensures ∙ w.if-eq.false, c.if-eq-2.false)
    ]
