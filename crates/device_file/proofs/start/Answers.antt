-- Where its checks pass, the header is written.
use Rattle.std.proofs.Common.{◌≡◌, Err, refl, sym, ◌∙◌, rules, arith}
use Rattle.std.proofs.Math.Seq.{length-sets}
use Rattle.answer.proofs.Answers.{fails, settles}
use Rattle.device_file.specs.Write.{started, start_file}
use Rattle.device_file.proofs.Writing.{writes-refused, writes-done, start-room, put-header}
use Rattle.device_file.proofs.start.Goals as goal

pub returns-in_err-check_start : goal.returns-in_err-check_start
unfolding start_file
returns-in_err-check_start c =
    let e : c.from_residual.result ≡ Err c.in_err-check_start.field-0.0 = search rules in
    rw e (writes-refused _ _ _ _ (fails _ _ _ _ c.in_err-check_start.ensures))

pub put-requires : goal.put-requires
put-requires c = omega (arith, start-room _ _ (sym c.in_ok-check_start.ensures))

-- the buffer is as long as it was, after each write
pub put-requires-2 : goal.put-requires-2
put-requires-2 c = rw (c.put.ensures, length-sets) (omega (arith, start-room _ _ (sym c.in_ok-check_start.ensures)))

pub put-requires-3 : goal.put-requires-3
put-requires-3 c = rw (c.put-2.ensures, length-sets, c.put.ensures, length-sets) (start-room _ _ (sym c.in_ok-check_start.ensures))

pub returns : goal.returns
unfolding start_file started
returns c =
    let a = c.args in
    writes-done _ _ (started a.buf.now a.magic a.version a.flags) _ (settles _ _ _ c.in_ok-check_start.ensures refl)
    (c.put-3.ensures ∙ rw (c.put-2.ensures, c.put.ensures) (put-header _ _ _ _))
