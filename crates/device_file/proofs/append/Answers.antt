-- The bytes in use are judged, then the record, and then it is written.
use Rattle.std.proofs.Common.{◌≡◌, ℕ, ◌+◌, ◌≤◌, Err, List, length, take, refl, sym, ap, ◌∙◌, rules, arith}
use Rattle.std.proofs.Math.Option.{none}
use Rattle.std.proofs.Math.Seq.{length-take-le}
use borrow.Author.Tests.{ltb-false}
use Rattle.answer.specs.Checks.{Verdict, Pass}
use Rattle.answer.specs.Limits.{transfer_limit, length_check}
use Rattle.answer.specs.Answer.{done}
use Rattle.answer.proofs.Answers.{fails, settles}
use Rattle.answer.proofs.Checks.{decides, goes_on, when_pass}
use Rattle.device_file.specs.Read.{read_file}
use Rattle.device_file.specs.Write.{last_region, record_length, append_checks, appended, append_to, read_used, used_checks}
use Rattle.device_file.specs.Scan.{option_in, notes_of, HasRoom}
use Rattle.device_file.specs.declared.Notes.{Notes}
use Rattle.device_file.proofs.Scanning.{placed}
use Rattle.device_file.proofs.Handing.{scan-refused, Passed, scan-passed, region-back}
use Rattle.device_file.proofs.Writing.{writes-refused, writes-done}
use Rattle.device_file.proofs.Appending.{used-read, Used, used-fault, append-refused, append-read, fit, has_room}
use Rattle.device_file.proofs.append.Goals as goal
use Rattle.device_file.proofs.append.Goals.{In_ok-when-2, In_ok-region}

small : (c : In_ok-when-2) → length c.args.buf.now ≤ transfer_limit
small c = ltb-false _ _ (when_pass _ _ (sym c.in_ok-when.ensures))

inside : (c : In_ok-when-2) → c.args.used ≤ length c.args.buf.now
inside c = ltb-false _ _ (when_pass _ _ (sym c.in_ok-when-2.ensures))

-- the bytes in use read well
passed : (c : In_ok-region) → Passed 0 (read_file (take c.args.used c.args.buf.now)) c.in_ok-region.field-0
passed c = scan-passed 0 _ _ c.in_ok-region.ensures

module _ (buf : List ℕ) (used : ℕ) (notes : Notes) (p : Passed 0 (read_file (take used buf)) notes) (few : length buf ≤ transfer_limit) (within : used ≤ length buf) (t : ℕ) (v : List ℕ) where
  reads : read_used buf used ≡ done p.file
  reads = used-read buf used few within ∙ p.is

  used_is : Used buf used p.file
  used_is = record { small = few; inside = within; reads = p.is }

  -- the REGION that a sub-record would stand in
  placed_is : notes.region ≡ placed (last_region p.file.records none)
  unfolding notes_of
  placed_is = ap (λ (n : Notes). n.region) p.noted

  region : option_in notes.region ≡ last_region p.file.records none
  region = ap option_in placed_is ∙ region-back _

  -- what the record's checks came to
  checked : (x : Verdict) → x ≡ append_checks (length buf) used (option_in notes.region) t v → x ≡ append_checks (length buf) used (last_region p.file.records none) t v
  checked x e = rw (← region) e

  module _ (h : Pass ≡ append_checks (length buf) used (option_in notes.region) t v) where
    room : HasRoom buf used notes.region t v
    room = rw placed_is (has_room buf used p.file used_is t v (fit _ _ _ _ _ (sym (checked Pass h))))

    -- the record ends in the buffer
    ends : used + (8 + length v) ≤ length buf
    unfolding record_length
    ends = (fit _ _ _ _ _ (sym (checked Pass h))).ends

pub returns-in_err-when : goal.returns-in_err-when
unfolding used_checks length_check
returns-in_err-when c =
    let e : c.from_residual.result ≡ Err c.in_err-when.field-0.0 = search rules in
    rw e (writes-refused _ _ _ _ (used-fault _ _ _ _ _ _ (decides _ _ _ _ c.in_err-when.ensures)))

pub returns-in_err-when-2 : goal.returns-in_err-when-2
unfolding used_checks length_check
returns-in_err-when-2 c =
    let e : c.from_residual-in_err-when-2.result ≡ Err c.in_err-when-2.field-0.0 = search rules in
    rw e (writes-refused _ _ _ _ (used-fault _ _ _ _ _ _ (goes_on _ _ _ c.in_ok-when.ensures c.in_err-when-2.ensures)))

pub slice_bounds-scan-end : goal.slice_bounds-scan-end
slice_bounds-scan-end c = inside c

pub slice_bounds-scan-end-2 : goal.slice_bounds-scan-end-2
slice_bounds-scan-end-2 c = sym (length-take-le _ _ (inside c))

pub returns-in_err-region : goal.returns-in_err-region
returns-in_err-region c =
    let k = (goal.at.returns-in_err-region c).In_ok-when-2 in
    let e : c.from_residual-in_err-region.result ≡ Err c.in_err-region.field-0.0 = search rules in
    rw e (writes-refused _ _ _ _ (sym (append-refused _ _ _ _ _ _ (used-read _ _ (small k) (inside k) ∙ scan-refused _ _ _ _ c.in_err-region.ensures))))

pub check_append-requires : goal.check_append-requires
check_append-requires c = inside (goal.at.check_append-requires c).In_ok-when-2

pub returns-in_err-kind : goal.returns-in_err-kind
unfolding append_to
returns-in_err-kind c =
    let k = goal.at.returns-in_err-kind c in
    let p = passed k.In_ok-region in
    let few = small k.In_ok-when-2 in
    let within = inside k.In_ok-when-2 in
    let e : c.from_residual-in_err-kind.result ≡ Err c.in_err-kind.field-0.0 = search rules in
    rw e (writes-refused _ _ _ _
    (fails _ _ _ _ (checked _ _ _ p few within _ _ _ c.in_err-kind.ensures.checks) ∙ sym (append-read _ _ _ _ _ (reads _ _ _ p few within c.args.kind c.args.content.now))))

pub put_record-requires : goal.put_record-requires
put_record-requires c =
    let k = goal.at.put_record-requires c in
    rw c.in_ok-kind.ensures.kind (room _ _ _ (passed k.In_ok-region) (small k.In_ok-when-2) (inside k.In_ok-when-2) _ _ c.in_ok-kind.ensures.checks)

pub overflow_add-result-2 : goal.overflow_add-result-2
overflow_add-result-2 c =
    let k = goal.at.overflow_add-result-2 c in
    let end = ends _ _ _ (passed k.In_ok-region) (small k.In_ok-when-2) (inside k.In_ok-when-2) _ _ c.in_ok-kind.ensures.checks in
    record { fits = omega (arith, end) }

pub returns : goal.returns
unfolding append_to appended record_length
returns c =
    let a = c.args in
    let k = goal.at.returns c in
    let p = passed k.In_ok-region in
    let few = small k.In_ok-when-2 in
    let within = inside k.In_ok-when-2 in
    writes-done _ _ (appended a.buf.now a.used (last_region p.file.records none) a.kind a.content.now) _
    (settles _ _ _ (checked _ _ _ p few within _ _ _ c.in_ok-kind.ensures.checks) refl ∙ sym (append-read _ _ _ _ _ (reads _ _ _ p few within a.kind a.content.now)))
    (c.put_record.ensures ∙ rw (region _ _ _ p few within a.kind a.content.now, c.in_ok-kind.ensures.kind))
