use Rattle.std.proofs.Common.{sym, ◌∙◌, arith}
use Rattle.std.proofs.lemmas.Result.{err_from_is_err_and}
use Rattle.iommu.specs.Table.{readable, writable}
use Rattle.answer.proofs.Checks.{decides, goes_on}
use Rattle.dma.proofs.Transfers.{written-fault, read-fault}
use Rattle.dma.proofs.run_fault.Goals as goal

pub returns-then-write : goal.returns-then-write
unfolding writable
returns-then-write c size left room = c.unless.ensures ∙ sym (written-fault _ _ _ _ _ _ (omega arith) c.if-write.true)

pub returns-in_err-unless : goal.returns-in_err-unless
unfolding readable
returns-in_err-unless c size left room =
    let e = err_from_is_err_and c.from_residual.result c.from_residual.ensures.1 in
    rw (e.1, e.2) (decides _ _ _ _ c.in_err-unless.ensures ∙ sym (read-fault _ _ _ _ _ _ (omega arith) c.if-write.false))

pub returns : goal.returns
unfolding readable
returns c size left room =
    goes_on _ _ _ c.in_ok-unless.ensures (c.check_written.ensures size room) ∙ sym (read-fault _ _ _ _ _ _ (omega arith) c.if-write.false)
