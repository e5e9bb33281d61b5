-- Five fields, one behind the other.
use Rattle.std.proofs.Common.{[], ◌∙◌, arith}
use Rattle.std.proofs.Math.ListN.{replicate}
use Rattle.wire.proofs.Laws.{sets-all}
use Rattle.registers.proofs.Cards.{card-small}
use Rattle.registers.proofs.Rows.{size-most}
use Rattle.parts.specs.Save.{encoded}
use Rattle.parts.proofs.Saving.{put-behind, length-encoded}
use Rattle.conformance.specs.Bytes.{header}
use Rattle.conformance.proofs.Row.header.Goals as goal

pub overflow_cast-size : goal.overflow_cast-size
overflow_cast-size c = record { fits = omega (arith, c.size_of-size.ensures, size-most c.args.self.words c.args.self.index (card-small _ c.args.self.listed.0) c.args.self.listed.1) }

pub returns : goal.returns
unfolding header
returns c =
    let a = c.args in
    put-behind a.self.words (replicate 16 0) 0 a.self.index [] c.put.ensures c.put-2.ensures c.put-3.ensures c.put-4.ensures c.put-5.ensures
    (c.number.ensures ∙ c.kind_of-kind.ensures) (rw (← c.number.ensures) at c.flags-flags.ensures) c.selector_of-selector.ensures c.size_of-size.ensures
    ∙ sets-all (replicate 16 0) (encoded a.self.words a.self.index []) (length-encoded a.self.words a.self.index [])
