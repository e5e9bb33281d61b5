use Rattle.std.proofs.Common.{◌∙◌}
use Rattle.answer.proofs.Tests.{both_and}
use Rattle.device_file.proofs.Types.{valid_index, valid-other}
use Rattle.device_file.proofs.Kind.is_valid_content.Goals as goal

pub returns-in-DtIndex : goal.returns-in-DtIndex
returns-in-DtIndex c = rw c.get-property.ensures (both_and _ _ ∙ valid_index _ _ c.in-DtIndex.is)

pub returns-in_default : goal.returns-in_default
returns-in_default c = valid-other _ _ c.in_default.not-DtIndex
