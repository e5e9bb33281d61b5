use Rattle.interrupts.proofs.Indices.{first_listed, first_past}
use Rattle.interrupts.proofs.first_of.Goals as goal

pub returns-in-Some : goal.returns-in-Some
returns-in-Some c = let found = c.in-Some.ensures.lookup in first_listed _ _ found.3.0 found.1

pub returns-in-None : goal.returns-in-None
returns-in-None c = first_past _ c.in-None.ensures.lookup.3
