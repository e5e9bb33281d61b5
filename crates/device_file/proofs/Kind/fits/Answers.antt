use Rattle.device_file.proofs.Types.{fits-some, fits-alone}
use Rattle.device_file.proofs.Kind.fits.Goals as goal

pub returns-in-Region : goal.returns-in-Region
returns-in-Region c = rw c.least_length-least.ensures (fits-some _ _ c.in-Region.is)

pub returns-in_default : goal.returns-in_default
returns-in_default c = rw c.least_length-least.ensures (fits-alone _ _ c.in_default.not-Region c.in_default.not-DtPath)
