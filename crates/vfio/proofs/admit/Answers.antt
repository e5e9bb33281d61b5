-- Each check is the one that the entry of the row asks for.
use Rattle.std.proofs.Common.{◌≡◌, leb, length}
use borrow.Author.Tests.{le-leb, lt-leb}
use Rattle.answer.specs.Tests.{◌and◌}
use Rattle.vfio.proofs.Entries.{unlisted, listed, short, plain, judged, argsz_room, is_refused}
use Rattle.vfio.proofs.admit.Goals as goal
use Rattle.vfio.proofs.admit.Goals.{then-entry-argsz, else-entry-argsz}

pub returns-in_err-entry : goal.returns-in_err-entry
returns-in_err-entry c = is_refused _ _ _ _ _ c.from_residual.ensures (unlisted _ c.identify.result _ c.identify.ensures (rw c.at.ensures at c.in_err-entry.ensures.value) _)

pub returns-in_err-when : goal.returns-in_err-when
returns-in_err-when c =
    let knows = listed _ c.identify.result c.in_ok-entry.entry _ c.identify.ensures c.in_ok-entry.ensures.value in
    is_refused _ _ _ _ _ c.from_residual-in_err-when.ensures (short _ _ _ knows c.in_err-when.ensures)

pub get-argsz-requires : goal.get-argsz-requires
get-argsz-requires c =
    let knows = listed _ c.identify.result c.in_ok-entry.entry _ c.identify.ensures c.in_ok-entry.ensures.value in
    argsz_room _ _ _ knows c.in_ok-when.ensures c.if-entry.true

pub returns-in_err-unless : goal.returns-in_err-unless
unfolding ◌and◌
returns-in_err-unless c =
    let knows = listed _ c.identify.result c.in_ok-entry.entry _ c.identify.ensures c.in_ok-entry.ensures.value in
    let is : c.if-entry-argsz.unless ≡ (leb c.in_ok-entry.entry.size c.get-argsz.result and leb c.get-argsz.result (length c.args.buf.now)) =
    elim c.if-entry-argsz.branch [
      | then-entry-argsz w ↦ rw (w.unless-is, le-leb _ _ w.if-entry-argsz.true)
      | else-entry-argsz w ↦ rw (w.unless-is, lt-leb _ _ w.if-entry-argsz.false)
    ] in
    is_refused _ _ _ _ _ c.from_residual-in_err-unless.ensures (judged _ _ _ knows c.in_ok-when.ensures c.if-entry.true _ (rw (is, c.get-argsz.ensures) at c.in_err-unless.ensures))

pub returns-in_ok-unless : goal.returns-in_ok-unless
unfolding ◌and◌
returns-in_ok-unless c =
    let knows = listed _ c.identify.result c.in_ok-entry.entry _ c.identify.ensures c.in_ok-entry.ensures.value in
    let is : c.if-entry-argsz.unless ≡ (leb c.in_ok-entry.entry.size c.get-argsz.result and leb c.get-argsz.result (length c.args.buf.now)) =
    elim c.if-entry-argsz.branch [
      | then-entry-argsz w ↦ rw (w.unless-is, le-leb _ _ w.if-entry-argsz.true)
      | else-entry-argsz w ↦ rw (w.unless-is, lt-leb _ _ w.if-entry-argsz.false)
    ] in
    record { checks = judged _ _ _ knows c.in_ok-when.ensures c.if-entry.true _ (rw (is, c.get-argsz.ensures) at c.in_ok-unless.ensures); listed = knows.request }

pub returns-else-entry : goal.returns-else-entry
returns-else-entry c =
    let knows = listed _ c.identify.result c.in_ok-entry.entry _ c.identify.ensures c.in_ok-entry.ensures.value in
    record { checks = plain _ _ _ knows c.in_ok-when.ensures c.if-entry.false; listed = knows.request }
