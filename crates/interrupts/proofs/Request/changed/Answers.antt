-- The cases of the definition, by the name of the data.
use Rattle.std.proofs.Common.{ap, arith, eq-eqb, ne_eqb}
use Rattle.answer.specs.Tests.{◌or◌, pick}
use Rattle.interrupts.specs.Requests.{data_number, byte_at}
use Rattle.interrupts.proofs.Requests.{changed-by, width_bool, width-event}
use Rattle.interrupts.proofs.Request.changed.Goals as goal

pub returns-in-Nothing : goal.returns-in-Nothing
unfolding pick ◌or◌
returns-in-Nothing c = rw (changed-by c.args.buf.now c.args.self c.args.j c.args.line c.requires.0 c.requires.1, c.in-Nothing.is) c.acted.ensures

pub bounds-buf-j : goal.bounds-buf-j
bounds-buf-j c = omega (arith, c.requires.2, rw (width_bool (ap data_number c.in-Bytes.is)) at c.requires.3)

pub returns-then-selected : goal.returns-then-selected
unfolding pick ◌or◌ byte_at
returns-then-selected c =
    rw (changed-by c.args.buf.now c.args.self c.args.j c.args.line c.requires.0 c.requires.1, c.in-Bytes.is, ne_eqb _ 0 c.if-selected.true) c.acted-then-selected.ensures

pub returns-else-selected : goal.returns-else-selected
unfolding pick ◌or◌ byte_at
returns-else-selected c =
    rw (changed-by c.args.buf.now c.args.self c.args.j c.args.line c.requires.0 c.requires.1, c.in-Bytes.is, eq-eqb _ 0 c.if-selected.false)

pub event_at-requires : goal.event_at-requires
event_at-requires c = omega (arith, c.requires.2, rw (width-event (ap data_number c.in-Numbers.is)) at c.requires.3)

pub returns-in-Numbers : goal.returns-in-Numbers
unfolding pick
returns-in-Numbers c =
    rw (changed-by c.args.buf.now c.args.self c.args.j c.args.line c.requires.0 c.requires.1, c.in-Numbers.is, ← c.event_at.ensures) c.stored.ensures
