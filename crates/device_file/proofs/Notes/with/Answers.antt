-- The record is the one that is asked for, or the notes keep what they have; then by its type.
use Rattle.std.proofs.Common.{◌≡◌, inl, inr}
use borrow.Author.Tests.{eq-eqb, ne_eqb}
use Rattle.answer.specs.Tests.{pick}
use Rattle.device_file.specs.Scan.{with_entry}
use Rattle.device_file.specs.declared.Kind.{Kind}
use Rattle.device_file.specs.declared.Kind.TheVariants.{Region, Interrupt}
use Rattle.device_file.proofs.Types.{is_region, no_region, sub-not, is_sub-other}
use Rattle.device_file.proofs.Notes.with.Goals as goal
use Rattle.device_file.proofs.Notes.with.Goals.{then-self-n, else-self-n}

not_both : {k : Kind} → k ≡ Interrupt → k ≡ Region → ⊥
not_both e f = cc

pub returns-in-Region : goal.returns-in-Region
unfolding with_entry pick
returns-in-Region c = elim c.if-self-n.branch [
  | then-self-n w ↦ rw (w.result-is, w.record.ensures, eq-eqb _ _ w.if-self-n.true, sub-not _ (inl c.in-Region.is), is_region _ c.in-Region.is)
  | else-self-n w ↦ rw (w.result-is, ne_eqb _ _ w.if-self-n.false, sub-not _ (inl c.in-Region.is), is_region _ c.in-Region.is)
]

pub returns-in-Interrupt : goal.returns-in-Interrupt
unfolding with_entry pick
returns-in-Interrupt c = elim c.if-self-n.branch [
  | then-self-n w ↦ rw (w.result-is, w.record.ensures, eq-eqb _ _ w.if-self-n.true, sub-not _ (inr c.in-Interrupt.is), no_region _ (λ e. not_both c.in-Interrupt.is e))
  | else-self-n w ↦ rw (w.result-is, ne_eqb _ _ w.if-self-n.false, sub-not _ (inr c.in-Interrupt.is), no_region _ (λ e. not_both c.in-Interrupt.is e))
]

pub returns-in_default : goal.returns-in_default
unfolding with_entry pick
returns-in_default c = elim c.if-self-n.branch [
  | then-self-n w ↦ rw (w.result-is, w.record.ensures, eq-eqb _ _ w.if-self-n.true, is_sub-other _ c.in_default.not-Region c.in_default.not-Interrupt)
  | else-self-n w ↦ rw (w.result-is, ne_eqb _ _ w.if-self-n.false, is_sub-other _ c.in_default.not-Region c.in_default.not-Interrupt)
]
