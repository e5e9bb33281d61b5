-- At each check those before it have passed.
use Rattle.std.proofs.Common.{arith, ◌≡◌, refl, not, eqb, ap, ◌∙◌, eq-eqb, ne_eqb}
use Rattle.answer.specs.Tests.{◌and◌, ◌or◌}
use Rattle.answer.proofs.Checks.{decides, goes_on}
use Rattle.interrupts.specs.declared.Action.TheVariants.{Trigger}
use Rattle.interrupts.specs.declared.Data.TheVariants.{Numbers}
use Rattle.interrupts.specs.Lines.{maskable}
use Rattle.interrupts.specs.Requests.{kind_of, action_of, data_event, act_trigger, disables}
use Rattle.interrupts.proofs.Names.{data-is, action-is}
use Rattle.interrupts.proofs.Joins.{and-both, and-first, or-both, or-first}
use Rattle.interrupts.proofs.Requests.{fields-listed}
use Rattle.interrupts.proofs.Request.new.Goals as goal
use Rattle.interrupts.proofs.Request.new.Goals.{After-when, In_err-interrupt, In_ok-interrupt, After-unless, After-when-3, then-eq, else-eq, then-eq-2, else-eq-2, then-count-eq0, else-count-eq0}

misused : (c : After-when) → c.if-eq.when ≡ (eqb (kind_of c.args.flags) data_event and not (eqb (action_of c.args.flags) act_trigger))
misused c =
    let kind = data-is c.in_ok-data.«data» Numbers c.in_ok-data.ensures.named c.eq.ensures in
    elim c.if-eq.branch [
      | then-eq w ↦ and-both kind (w.ne.ensures ∙ ap not (action-is c.in_ok-action.action Trigger c.in_ok-action.ensures.named refl)) w.if-eq.true w.when-is
      | else-eq w ↦ and-first _ kind w.if-eq.false w.when-is
    ]

taken : (c : After-unless) → c.if-eq-2.unless ≡ (eqb (action_of c.args.flags) act_trigger or maskable c.args.index)
unfolding maskable
taken c =
    let action = action-is c.in_ok-action.action Trigger c.in_ok-action.ensures.named c.eq-2.ensures in
    elim c.if-eq-2.branch [
      | then-eq-2 w ↦ or-first _ action w.if-eq-2.true w.unless-is
      | else-eq-2 w ↦ or-both action (rw (← c.in_ok-interrupt.ensures.fields) w.is_maskable.ensures) w.if-eq-2.false w.unless-is
    ]

-- the count is 0, and the request does not disable its index
idle : (c : After-when-3) → c.if-count-eq0.when ≡ (eqb c.args.count 0 and not (disables c.args.flags c.args.count))
unfolding disables
idle c =
    elim c.if-count-eq0.branch [
      | then-count-eq0 w ↦ (
          let whole : w.disables.result ≡ disables c.args.flags c.args.count =
          rw (← c.in_ok-data.ensures.named, ← c.in_ok-action.ensures.named) w.disables.ensures in
          and-both refl (ap not whole) (eq-eqb c.args.count 0 w.if-count-eq0.true) w.when-is
          )
      | else-count-eq0 w ↦ and-first _ refl (ne_eqb c.args.count 0 w.if-count-eq0.false) w.when-is
    ]

pub returns-in_err-data-clause-checks : goal.returns-in_err-data-clause-checks
returns-in_err-data-clause-checks c =
    rw (fields-listed c.args.flags c.args.index c.args.start c.args.count) (grind (arith, decides, goes_on))

pub returns-in_err-action-clause-checks : goal.returns-in_err-action-clause-checks
returns-in_err-action-clause-checks c =
    rw (fields-listed c.args.flags c.args.index c.args.start c.args.count) (grind (arith, decides, goes_on))

pub returns-in_err-when-clause-checks : goal.returns-in_err-when-clause-checks
returns-in_err-when-clause-checks c =
    let at = goal.at.returns-in_err-when-clause-checks c in
    rw (fields-listed c.args.flags c.args.index c.args.start c.args.count, ← misused at.After-when) (grind (arith, decides, goes_on))

pub returns-in_err-interrupt-clause-checks : goal.returns-in_err-interrupt-clause-checks
returns-in_err-interrupt-clause-checks c =
    let at = goal.at.returns-in_err-interrupt-clause-checks c in
    rw (fields-listed c.args.flags c.args.index c.args.start c.args.count, ← misused at.After-when) (grind (arith, decides, goes_on))

pub returns-in_err-unless-clause-checks : goal.returns-in_err-unless-clause-checks
returns-in_err-unless-clause-checks c =
    let at = goal.at.returns-in_err-unless-clause-checks c in
    rw (fields-listed c.args.flags c.args.index c.args.start c.args.count, ← misused at.After-when, ← taken at.After-unless)
    (grind (arith, decides, goes_on))

pub returns-in_err-when-2-clause-checks : goal.returns-in_err-when-2-clause-checks
returns-in_err-when-2-clause-checks c =
    let at = goal.at.returns-in_err-when-2-clause-checks c in
    rw (fields-listed c.args.flags c.args.index c.args.start c.args.count, ← misused at.After-when, ← taken at.After-unless, ← c.in_ok-interrupt.ensures.fields)
    (grind (arith, decides, goes_on))

pub returns-in_err-when-3-clause-checks : goal.returns-in_err-when-3-clause-checks
returns-in_err-when-3-clause-checks c =
    let at = goal.at.returns-in_err-when-3-clause-checks c in
    rw (fields-listed c.args.flags c.args.index c.args.start c.args.count, ← misused at.After-when, ← taken at.After-unless, ← c.in_ok-interrupt.ensures.fields, ← idle at.After-when-3)
    (grind (arith, decides, goes_on))

pub returns-clause-checks : goal.returns-clause-checks
returns-clause-checks c =
    let at = goal.at.returns-clause-checks c in
    rw (fields-listed c.args.flags c.args.index c.args.start c.args.count, ← misused at.After-when, ← taken at.After-unless, ← c.in_ok-interrupt.ensures.fields, ← idle at.After-when-3)
    (grind (arith, decides, goes_on))

pub returns-clause-fields : goal.returns-clause-fields
returns-clause-fields c =
    record {
      data_is = c.in_ok-data.ensures.named;
      action_is = c.in_ok-action.ensures.named;
      index_is = refl;
      interrupt_is = c.in_ok-interrupt.ensures.fields;
      start_is = refl;
      count_is = refl;
    }
