-- The index is judged, then each field is written.
use Rattle.std.proofs.Common.{◌≡◌, refl}
use Rattle.interrupts.specs.Lines.{index_at}
use Rattle.emulator.specs.Effect.{filled}
use Rattle.emulator.specs.Requests.{get_irq_info, listed_checks, listed_effect, requested_index}
use Rattle.emulator.specs.Contract.{request_writes}
use Rattle.vfio.proofs.Handlers.{handled-refused, reports, there, not_there}
use Rattle.vfio.proofs.get_irq_info.Goals as goal

pub returns-in_err-interrupt : goal.returns-in_err-interrupt
unfolding listed_checks requested_index
returns-in_err-interrupt c s rs m =
    let v = rw c.at.ensures at c.in_err-interrupt.ensures.value in
    let e = not_there c.index_at.result _ _ _ v c.index_at.ensures.there in
    handled-refused get_irq_info _ s rs m _ _ c.from_residual.ensures (rw c.get-index.ensures at e)

pub returns : goal.returns
unfolding listed_checks listed_effect request_writes requested_index filled
returns c =
    let p = there c.index_at.result _ _ _ _ c.in_ok-interrupt.ensures.value c.index_at.ensures.there in
    let is : c.in_ok-interrupt.interrupt ≡ index_at c.get-index.result = rw p.1 at c.index_at.ensures.fields in
    let pass = rw c.get-index.ensures at p.0 in
    reports get_irq_info _ _ 0 _ (λ e. pass) (λ e. refl) refl (rw (← c.get-index.ensures, ← is) (cc))
