-- How a walk reads.
use Rattle.memory.specs.Memory.{memory_of}
use Rattle.virtqueue.specs.declared.View.{View}
use Rattle.virtqueue.specs.Ring.{Reader, card_read}

-- card reads, through the mappings
abbrev pub reads : View → Reader
reads v = card_read v.mappings.now (memory_of v.bytes.now v.shadow.now)
