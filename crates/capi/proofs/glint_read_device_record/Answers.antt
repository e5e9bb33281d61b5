-- The struct is that of the record that was found.
use Rattle.capi.proofs.Answers.{hands}
use Rattle.capi.proofs.glint_read_device_record.Goals as goal

pub returns : goal.returns
returns c = rw c.from.ensures (hands _ _ _ c.read_record.ensures)
