-- The rows before `index` are decided.
use Rattle.conformance.proofs.Pass.{Scanned}
use Rattle.conformance.proofs.scan.Given as goal

abbrev pub invariant-loop-index : goal.invariant-loop-index
invariant-loop-index l = Scanned l.words l.s l.at l.best l.index
