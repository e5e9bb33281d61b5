use Rattle.std.proofs.Common.{drop, arith}
use Rattle.parts.proofs.Steps.{rest-is}
use Rattle.conformance.specs.Scan.{MostGood}
use Rattle.conformance.proofs.Steps.{found-absent, found_broken, found-whole}
use Rattle.conformance.proofs.Row.part_at.Goals as goal
use Rattle.conformance.proofs.Row.part_at.Goals.{After-value_at-m}

-- what is found of the value
value : (c : After-value_at-m) → MostGood c.args.self.words c.args.self.index (drop 16 c.args.h.now) c.value_at-m.result
value c = rw (rest-is c.args.h.now 16) at c.value_at-m.ensures

pub returns-then-n-lt-HEADER_SIZE : goal.returns-then-n-lt-HEADER_SIZE
returns-then-n-lt-HEADER_SIZE c = found-absent _ _ _ _ c.header_at-n.ensures c.if-n-lt-HEADER_SIZE.true

pub returns-then-m-size_of : goal.returns-then-m-size_of
returns-then-m-size_of c =
    found_broken _ _ _ _ _ c.header_at-n.ensures c.if-n-lt-HEADER_SIZE.false (value (goal.at.returns-then-m-size_of c).After-value_at-m) (omega (arith, c.size_of.ensures, c.if-m-size_of.true))

pub returns : goal.returns
returns c =
    found-whole _ _ _ _ _ c.header_at-n.ensures c.if-n-lt-HEADER_SIZE.false (value (goal.at.returns c).After-value_at-m) (omega (arith, c.size_of.ensures, c.if-m-size_of.false))
