-- The index is judged, then each field is written.
use Rattle.std.proofs.Common.{refl}
use Rattle.emulator.specs.Effect.{filled}
use Rattle.emulator.specs.Requests.{get_region_info, listed_checks, listed_effect, requested_index}
use Rattle.emulator.specs.Contract.{request_writes}
use Rattle.vfio.proofs.Handlers.{handled-refused, reports, region_is}
use Rattle.vfio.proofs.get_region_info.Goals as goal

pub returns-in_err-unless : goal.returns-in_err-unless
unfolding listed_checks requested_index
returns-in_err-unless c s rs m = handled-refused get_region_info _ s rs m _ _ c.from_residual.ensures (rw c.get-index.ensures at c.in_err-unless.ensures)

pub returns : goal.returns
unfolding listed_checks listed_effect request_writes requested_index filled
returns c = let e = rw c.get-index.ensures at c.in_ok-unless.ensures in reports get_region_info _ _ 0 _ (λ k. e) (λ e. refl) refl (rw (← c.get-index.ensures, ← (region_is c.get-index.result).0, ← (region_is c.get-index.result).1) (cc))
