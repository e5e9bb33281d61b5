use Rattle.std.proofs.Common.{sym}
use Rattle.device_file.proofs.Types.{sub-not, is_sub-other}
use Rattle.device_file.proofs.Kind.is_sub.Goals as goal

pub returns-in-Region : goal.returns-in-Region
returns-in-Region c = sym (sub-not _ c.in-Region.is)

pub returns-in_default : goal.returns-in_default
returns-in_default c = sym (is_sub-other _ c.in_default.not-Region c.in_default.not-Interrupt)
