-- The number that is read is the extension that is asked for.
use Rattle.std.proofs.Common.{refl, [], Bool, true, false, ◌≡◌}
use Rattle.answer.specs.Tests.{pick}
use mir.Val.{bool_byte}
use Rattle.emulator.specs.Machine.{Machine}
use Rattle.emulator.specs.Effect.{value, giving, reporting, filled}
use Rattle.emulator.specs.Requests.{check_extension, requested_type, listed_checks, listed_effect}
use Rattle.emulator.specs.Contract.{request_writes}
use Rattle.vfio.proofs.Handlers.{reports}
use Rattle.vfio.proofs.check_extension.Goals as goal

-- the number that a flag is
flag : {b t : Bool} {k : Machine} → b ≡ t → giving (value (pick t 1 0)) k ≡ reporting (bool_byte b) [] k
unfolding pick
flag {b} {t} {k} h = rw h (by t)
  where
    by : (t : Bool) → giving (value (pick t 1 0)) k ≡ reporting (bool_byte t) [] k
    by true = refl
    by false = refl

pub returns : goal.returns
unfolding listed_checks listed_effect request_writes requested_type filled pick
returns c = reports check_extension _ _ _ [] (λ e. refl) (λ e. flag (rw c.get.ensures at c.is_iommu_type.ensures)) refl refl
