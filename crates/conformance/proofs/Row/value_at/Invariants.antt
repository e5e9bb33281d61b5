-- The bytes before `n` are good.
use Rattle.conformance.specs.Scan.{Good}
use Rattle.conformance.proofs.Row.value_at.Given as goal

abbrev pub invariant-loop-n : goal.invariant-loop-n
invariant-loop-n l = Good l.self.words l.self.index l.v l.n
