use Rattle.interrupts.proofs.Indices.{looked_up}
use Rattle.interrupts.proofs.interrupt_at.Goals as goal

pub returns : goal.returns
returns c =
    let found = looked_up c.index_at.result c.at.result c.args.index c.index_at.ensures.there c.index_at.ensures.fields c.at.ensures in
    rw c.ok_or.ensures.value (record { checks = found.0; fields = found.1 })
