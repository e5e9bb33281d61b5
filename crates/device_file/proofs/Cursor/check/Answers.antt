-- The record ends in its room, which ends in the file.
use Rattle.std.proofs.Common.{◌≡◌, ◌+◌, ◌-◌, ◌≤◌, true, length, sym, ◌∙◌, arith}
use borrow.Author.Tests.{leb-true, ltb-false}
use Rattle.answer.proofs.Checks.{when_pass, unless_pass}
use Rattle.wire.proofs.Laws.{length_part}
use Rattle.device_file.specs.Layout.{prefix_size, fits}
use Rattle.device_file.specs.Types.{number_of}
use Rattle.device_file.proofs.Records.{room-inside, index-length}
use Rattle.device_file.proofs.Types.{long, own}
use Rattle.device_file.proofs.Cursor.check.Goals as goal
use Rattle.device_file.proofs.Cursor.check.Goals.{In_ok-unless, In_ok-when, In_ok-unless-3}

prefix : (c : In_ok-unless) → c.args.self.at + prefix_size ≤ length c.args.file.now
prefix c =
    omega (arith, leb-true _ _ (unless_pass _ _ (sym c.in_ok-unless.ensures)), c.room_end-room_end.ensures, room-inside _ c.args.self.at _ c.requires.region)

inside : (c : In_ok-when) → c.args.self.at + c.get-length.result ≤ length c.args.file.now
inside c =
    omega (arith, ltb-false _ _ (when_pass _ _ (sym c.in_ok-when.ensures)), c.room_end-room_end.ensures, room-inside _ c.args.self.at _ c.requires.region)

fit : (c : In_ok-unless-3) → fits (number_of c.in_ok-kind.kind) c.get-length.result ≡ true
fit c = sym c.fits.ensures ∙ unless_pass _ _ (sym c.in_ok-unless-3.ensures)

pub get-requires : goal.get-requires
get-requires c = omega (arith, prefix c)

pub get-length-requires : goal.get-length-requires
get-length-requires c = omega (arith, prefix (goal.at.get-length-requires c).In_ok-unless)

pub slice_bounds-is_valid_content-count : goal.slice_bounds-is_valid_content-count
slice_bounds-is_valid_content-count c = omega (arith, long _ _ (fit c))

pub slice_bounds-is_valid_content-start : goal.slice_bounds-is_valid_content-start
slice_bounds-is_valid_content-start c = omega (arith, long _ _ (fit (goal.at.slice_bounds-is_valid_content-start c).In_ok-unless-3))

pub slice_bounds-is_valid_content-end : goal.slice_bounds-is_valid_content-end
slice_bounds-is_valid_content-end c = omega (arith, inside (goal.at.slice_bounds-is_valid_content-end c).In_ok-when)

pub is_valid_content-requires : goal.is_valid_content-requires
is_valid_content-requires c = λ e.
    let k = goal.at.is_valid_content-requires c in
    let n = index-length _ _ (fit k.In_ok-unless-3) e in
    let end = inside k.In_ok-when in
    omega (arith, length_part c.args.file.now (c.args.self.at + 8) (c.args.self.at + c.get-length.result - (c.args.self.at + 8)) (omega arith))

pub invariant_of-result : goal.invariant_of-result
invariant_of-result c =
    let k = goal.at.invariant_of-result c in
    let o = own _ _ (fit k.In_ok-unless-3) in
    record { sized = (o.0, o.1, omega (arith, inside k.In_ok-when)) }
