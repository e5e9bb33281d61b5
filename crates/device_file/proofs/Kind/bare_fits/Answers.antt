use Rattle.answer.specs.Tests.{pick}
use Rattle.device_file.specs.Write.{bare_fits}
use Rattle.device_file.proofs.Types.{no_region}
use Rattle.device_file.proofs.Kind.bare_fits.Goals as goal

pub returns-in-Region : goal.returns-in-Region
unfolding bare_fits pick
returns-in-Region c = rw c.in-Region.is

pub returns-in_default : goal.returns-in_default
unfolding bare_fits pick
returns-in_default c = rw (no_region _ c.in_default.not-Region, c.fits.ensures)
