use Rattle.std.proofs.Common.{refl, sym, ◌∙◌, arith, le-leb}
use Rattle.std.proofs.lemmas.Bool.{lt-leb}
use Rattle.answer.proofs.Tests.{and_false, and_made, and_second}
use Rattle.iommu.specs.Table.{table_of, in_use}
use Rattle.iommu.proofs.Soundness.{mapping-facts}
use Rattle.iommu.proofs.Passes.{sound_lent}
use Rattle.iommu.proofs.Lows.{low-start, low_on, low_end}
use Rattle.iommu.proofs.sound.Goals.{then-m-low-via-then-m-low, then-m-low-via-else-m-low+then-not-is_sound}
use Rattle.iommu.proofs.sound.Goals as goal

pub loop-m-init : goal.loop-m-init
loop-m-init c = low-start _ _

pub returns-then-m-low : goal.returns-then-m-low
unfolding in_use
returns-then-m-low c =
    sound_lent c.args.size (table_of c.args.records.now c.args.count) c.if-records-gt-CAPACITY.false c.if-records-count.false
    (sym (c.loop-m.invariant ∙ low_on _ _ _ _ c.loop-m-test.true ∙ and_false _ _ (elim c.then-m-low.branch [
      | then-m-low-via-then-m-low w ↦ and_false _ _ (lt-leb _ _ w.if-m-low.true)
      | then-m-low-via-else-m-low+then-not-is_sound w ↦ sym (and_second (le-leb _ _ w.if-m-low.false) (sym (sym w.is_sound.ensures ∙ w.if-not-is_sound.true)))
    ])))

pub overflow_add-low : goal.overflow_add-low
overflow_add-low c =
    let f = mapping-facts _ _ (sym c.is_sound.ensures ∙ c.if-not-is_sound.false) in
    omega arith

pub loop-m-preserved : goal.loop-m-preserved
loop-m-preserved c =
    c.loop-m.invariant ∙ low_on _ _ _ _ c.loop-m-test.true ∙ sym (and_second (and_made _ _ (le-leb _ _ c.if-m-low.false) (sym c.is_sound.ensures ∙ c.if-not-is_sound.false)) refl)

pub returns : goal.returns
unfolding in_use
returns c =
    sound_lent c.args.size (table_of c.args.records.now c.args.count) c.if-records-gt-CAPACITY.false c.if-records-count.false
    (sym (c.loop-m.invariant ∙ low_end _ _ _ _ c.loop-m-test.false))
