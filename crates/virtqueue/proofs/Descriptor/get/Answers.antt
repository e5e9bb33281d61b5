use Rattle.virtqueue.proofs.Numbers.{descriptor_part}
use Rattle.virtqueue.proofs.Descriptor.get.Goals as goal

pub returns : goal.returns
returns c = descriptor_part _ _ _ c.get.ensures c.get-2.ensures c.get-3.ensures c.get-4.ensures
