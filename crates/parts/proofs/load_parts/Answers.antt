-- `parts::load_parts` meets its contract: the end, a refusal, or a part that names offered features, a register that is kept, or no row.
use Rattle.std.proofs.Common.{ℕ, ◌≡◌, ◌-◌, ◌<◌, length, get_or, sym, ◌∙◌, ap, arith}
use Rattle.std.proofs.lemmas.Result.{err_from_is_err_and}
use Rattle.answer.specs.Tests.{flagged}
use Rattle.answer.specs.Checks.{Pass}
use Rattle.registers.proofs.Cards.{card-small}
use Rattle.registers.proofs.Rows.{size-most}
use Rattle.registers.proofs.File.{absent}
use Rattle.parts.specs.Step.{Part, End, step_at, value_to}
use Rattle.parts.specs.Load.{part_checks, named, seen_in}
use Rattle.parts.proofs.Steps.{step_says}
use Rattle.parts.proofs.Loading.{part-size, named-offered, named-kept, named_none, gives_refusal, gives_registers, finish-done, finish-fault, loop_start, loop_end, loop_refused, loop_fault, loop_offered, loop_kept, loop_skipped}
use Rattle.parts.proofs.load_parts.Goals as goal
use Rattle.parts.proofs.load_parts.Goals.{In-Some, After-check_part, In_default-check_part, In_default, in-Some-eq0, in-Some-row, in-None}

-- the part that stands there
step : (c : In-Some) → let x = c.in-Some.part in Part x.kind x.flags x.selector x.next ≡ step_at c.args.s.now c.loop-part.at
step c = rw c.in-Some.is at c.in_ok-part.ensures

-- whether its row was named before
known : (c : After-check_part) → c.match-row.twice ≡ named (seen_in c.args.words c.loop-part.invariant.features c.loop-part.slots) c.in-Some.part.kind c.in-Some.part.selector
known c =
    let i = c.loop-part.invariant in
    let x = c.in-Some.part in
    elim c.match-row.branch [
      | in-Some-eq0 w ↦
          let row = rw (w.in-Some-eq0.is, sym w.in-Some-eq0.field-0-is ∙ w.in-Some-eq0.field-0-test) at c.row_of-row.ensures.0 in
          w.twice-is ∙ sym i.flag ∙ sym (named-offered _ _ c.loop-part.slots x.kind x.selector (sym row))
      | in-Some-row w ↦
          let pos = rw w.in-Some-row.is at w.in-Some-row.row-test.1 in
          w.twice-is ∙ ap (λ (i : ℕ). flagged (get_or c.loop-part.slots (i - 1) absent).set) w.in-Some-row.ensures.0
          ∙ sym (named-kept _ _ c.loop-part.slots x.kind x.selector (omega (arith, pos, w.in-Some-row.ensures.0)))
      | in-None w ↦ w.twice-is ∙ named_none _ _ c.loop-part.slots x.kind x.selector i.long (omega (arith, w.in-None.ensures.0))
    ]

-- it passed its checks
passed : (c : In_default-check_part) → let x = c.in-Some.part in
    Pass ≡ part_checks c.args.words c.match-row.twice x.kind x.flags x.selector (value_to c.args.s.now c.loop-part.at x.next)
passed c = let x = c.in-Some.part in c.in_default-check_part.ensures ∙ ap (part_checks c.args.words c.match-row.twice x.kind x.flags x.selector) c.value_to-v.ensures

-- the next place lies behind
nearer : (c : In-Some) → length c.args.s.now - c.in-Some.part.next < length c.args.s.now - c.loop-part.at
nearer c = let says = step_says _ _ _ _ _ _ (step c) in omega arith

end : (c : In_default) → End ≡ step_at c.args.s.now c.loop-part.at
end c = rw c.in_default.is at c.in_ok-part.ensures

pub loop-part-init : goal.loop-part-init
loop-part-init c = loop_start _ _ _ c.unset-slots.ensures

pub returns-in_err-part : goal.returns-in_err-part
returns-in_err-part c =
    let p = err_from_is_err_and c.from_residual.result c.from_residual.ensures.1 in
    rw (p.1, p.2) (gives_refusal _ _ _ (loop_refused _ _ _ _ _ c.loop-part.invariant _ _ c.in_err-part.ensures))

pub value_to-v-requires : goal.value_to-v-requires
value_to-v-requires c = step_says _ _ _ _ _ _ (step c)

pub returns-in-Err : goal.returns-in-Err
returns-in-Err c =
    let m = goal.at.returns-in-Err c in
    let x = c.in-Some.part in
    let fault = c.in-Err.ensures ∙ ap (part_checks c.args.words c.match-row.twice x.kind x.flags x.selector) c.value_to-v.ensures in
    rw c.at.ensures (gives_refusal _ _ _ (loop_fault _ _ _ _ _ c.loop-part.invariant _ _ _ _ (step m.In-Some) _ (known m.After-check_part) _ _ fault))

pub holding-requires : goal.holding-requires
holding-requires c =
    let row = c.in-Some-row-2.ensures in
    let size = part-size _ _ _ _ _ _ (sym c.in_default-check_part.ensures) (rw row.0 at row.1) in
    omega (arith, size, size-most c.args.words _ (card-small _ c.requires) (rw row.0 at row.1))

pub loop-part-smaller-in-Some-eq0-row : goal.loop-part-smaller-in-Some-eq0-row
loop-part-smaller-in-Some-eq0-row c = nearer (goal.at.loop-part-smaller-in-Some-eq0-row c).In-Some

pub loop-part-preserved-in-Some-eq0-row : goal.loop-part-preserved-in-Some-eq0-row
loop-part-preserved-in-Some-eq0-row c =
    let m = goal.at.loop-part-preserved-in-Some-eq0-row c in
    let row = rw (c.in-Some-eq0-row.is, sym c.in-Some-eq0-row.field-0-is ∙ c.in-Some-eq0-row.field-0-test) at c.row_of-row.ensures.0 in
    loop_offered _ _ _ _ _ c.loop-part.invariant _ _ _ _ (step m.In-Some) _ (known m.After-check_part) (passed m.In_default-check_part) (sym row)

pub loop-part-smaller-in-Some-row-2 : goal.loop-part-smaller-in-Some-row-2
loop-part-smaller-in-Some-row-2 c = nearer (goal.at.loop-part-smaller-in-Some-row-2 c).In-Some

pub loop-part-preserved-in-Some-row-2 : goal.loop-part-preserved-in-Some-row-2
loop-part-preserved-in-Some-row-2 c =
    let m = goal.at.loop-part-preserved-in-Some-row-2 c in
    let row = c.in-Some-row-2.ensures in
    let pos = rw c.in-Some-row-2.is at c.in-Some-row-2.row-test.1 in
    rw (c.holding.ensures, c.value_to-v.ensures, row.0)
    (loop_kept _ _ _ _ _ c.loop-part.invariant _ _ _ _ (step m.In-Some) _ (known m.After-check_part) (passed m.In_default-check_part) (omega (arith, pos, row.0)) (omega (arith, row.0, row.1)))

pub loop-part-smaller : goal.loop-part-smaller
loop-part-smaller c = nearer (goal.at.loop-part-smaller c).In-Some

pub loop-part-preserved : goal.loop-part-preserved
loop-part-preserved c =
    let m = goal.at.loop-part-preserved c in
    loop_skipped _ _ _ _ _ c.loop-part.invariant _ _ _ _ (step m.In-Some) _ (known m.After-check_part) (passed m.In_default-check_part) (omega (arith, c.in-None-row.ensures.0))

pub returns-in_err-when : goal.returns-in_err-when
returns-in_err-when c =
    let p = err_from_is_err_and c.from_residual-in_err-when.result c.from_residual-in_err-when.ensures.1 in
    let i = c.loop-part.invariant in
    let m = goal.at.returns-in_err-when c in
    rw (p.1, p.2) (gives_refusal _ _ _ (loop_end _ _ _ _ _ i (end m.In_default) ∙ finish-fault _ i.features _ _ _ _ (rw c.at-2.ensures at c.in_err-when.ensures)))

pub returns : goal.returns
returns c =
    let i = c.loop-part.invariant in
    let m = goal.at.returns c in
    gives_registers _ _ _ i.canonical (loop_end _ _ _ _ _ i (end m.In_default) ∙ finish-done _ i.features _ _ (rw c.at-2.ensures at c.in_ok-when.ensures))
