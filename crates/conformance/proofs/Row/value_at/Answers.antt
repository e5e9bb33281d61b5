use Rattle.std.proofs.Common.{sym, ◌∙◌, arith}
use Rattle.registers.proofs.Cards.{card-small}
use Rattle.conformance.proofs.Steps.{good-whole}
use Rattle.conformance.proofs.Row.value_at.Goals as goal

pub returns-then-is_value : goal.returns-then-is_value
returns-then-is_value c =
    rw c.size_of-size.ensures
    (good-whole c.args.self.words (card-small _ c.args.self.listed.0) c.args.self.index c.args.self.listed.1 c.args.v.now (λ j. omega (arith, c.type_inv.v j)) (sym c.is_value.ensures ∙ c.if-is_value.true))
