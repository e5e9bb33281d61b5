-- The records from the cursor on decide, over what is noted.
use Rattle.std.proofs.Common.{◌≡◌, Err, sym, ◌∙◌, rules, arith}
use Rattle.device_file.specs.Scan.{behind}
use Rattle.device_file.proofs.Scanning.{header-fault, loop_start, loop_end, loop_fault, nearer, loop_more}
use Rattle.device_file.proofs.scan.Goals as goal

pub returns-in_err-check_header : goal.returns-in_err-check_header
returns-in_err-check_header c =
    let e : c.from_residual.result ≡ Err c.in_err-check_header.field-0.0 = search rules in
    rw e (header-fault _ _ _ _ c.in_err-check_header.ensures)

pub loop-cursor-init : goal.loop-cursor-init
loop-cursor-init c = loop_start _ _ (sym c.in_ok-check_header.ensures)

pub entry-requires : goal.entry-requires
entry-requires c = c.loop-cursor.invariant.inside

pub returns-in_err-entry : goal.returns-in_err-entry
returns-in_err-entry c =
    let e : c.from_residual-in_err-entry.result ≡ Err c.in_err-entry.field-0.0 = search rules in
    rw e (loop_fault _ _ _ _ c.loop-cursor.invariant (sym c.is_end.ensures ∙ c.loop-cursor-test.true) _ _ c.in_err-entry.ensures.checks)

pub with-notes-requires : goal.with-notes-requires
with-notes-requires c = omega (arith, c.loop-cursor.invariant.few, c.loop-cursor.invariant.inside.here)

pub loop-cursor-smaller : goal.loop-cursor-smaller
unfolding behind
loop-cursor-smaller c =
    rw c.behind-cursor.ensures
    (nearer _ _ _ _ c.loop-cursor.invariant (sym c.is_end.ensures ∙ c.loop-cursor-test.true) (sym c.in_ok-entry.ensures.checks) _ _ _ c.in_ok-entry.ensures.entry)

pub loop-cursor-preserved : goal.loop-cursor-preserved
loop-cursor-preserved c =
    rw (c.behind-cursor.ensures, c.with-notes.ensures)
    (loop_more _ _ _ _ c.loop-cursor.invariant (sym c.is_end.ensures ∙ c.loop-cursor-test.true) (sym c.in_ok-entry.ensures.checks) _ _ _ c.in_ok-entry.ensures.entry)

pub returns : goal.returns
returns c = loop_end _ _ _ _ c.loop-cursor.invariant (sym c.is_end.ensures ∙ c.loop-cursor-test.false)
