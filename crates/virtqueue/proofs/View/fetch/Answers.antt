use Rattle.std.proofs.Common.{◌+◌, length, sym, ap, ◌∙◌, arith, ltb-true, ltb-false}
use borrow.Author.Tests.{not-true, not-false}
use Rattle.std.proofs.lemmas.Result.{err_from_is_err_and}
use Rattle.answer.specs.Answer.{◌onward◌}
use Rattle.iommu.specs.Table.{translation_of}
use Rattle.dma.proofs.Ahead.{ready-sound}
use Rattle.virtqueue.proofs.Results.{stops, goes, stays}
use Rattle.virtqueue.proofs.CardReads.{Held, far-read, none-read, held-read}
use Rattle.virtqueue.proofs.View.fetch.Goals as goal
use Rattle.virtqueue.proofs.View.fetch.Goals.{In_ok-when-2}

-- what the mapping that was found tells of the read
held : (c : In_ok-when-2) → Held c.args.self.now (c.args.base + c.args.offset) c.args.n c.saturating_add-start.result c.find-found.result.lo
held c =
    let below = ltb-false _ _ (goes _ _ _ c.in_ok-when.ensures) in
    held-read c.args.self.now _ _ c.requires.some c.requires.page _ c.saturating_add-start.ensures below _ _ c.find-found.ensures.1 (not-false _ (goes _ _ _ c.in_ok-when-2.ensures))

pub returns-in_err-when-clause-reads : goal.returns-in_err-when-clause-reads
returns-in_err-when-clause-reads c =
    let p = err_from_is_err_and c.from_residual.result c.from_residual.ensures.1 in
    let s = stops _ _ _ _ _ (rw c.at.ensures at c.in_err-when.ensures) in
    rw (p.1, p.2) (stays _ _ _ ∙ s.1 ∙ sym (far-read c.args.self.now _ _ c.requires.some c.requires.page _ c.saturating_add-start.ensures (ltb-true _ _ s.0)))

pub find-found-requires : goal.find-found-requires
find-found-requires c = (ready-sound c.args.self.now.walkable.ready).table

pub returns-in_err-when-2-clause-reads : goal.returns-in_err-when-2-clause-reads
returns-in_err-when-2-clause-reads c =
    let p = err_from_is_err_and c.from_residual-in_err-when-2.result c.from_residual-in_err-when-2.ensures.1 in
    let s = stops _ _ _ _ _ (rw c.at-2.ensures at c.in_err-when-2.ensures) in
    let below = ltb-false _ _ (goes _ _ _ c.in_ok-when.ensures) in
    rw (p.1, p.2)
    (stays _ _ _ ∙ s.1 ∙ sym (none-read c.args.self.now _ _ c.requires.some c.requires.page _ c.saturating_add-start.ensures below _ _ c.find-found.ensures.1 (not-true _ s.0)))

pub offset_bounds-self-found : goal.offset_bounds-self-found
offset_bounds-self-found c = let few = c.args.self.now.walkable.ready.few in omega (arith, (held c).inside)

pub bounds-self-found : goal.bounds-self-found
bounds-self-found c = (held c).inside

pub shown_by-requires : goal.shown_by-requires
shown_by-requires c h = (held (goal.at.shown_by-requires c).In_ok-when-2).range

pub unwrap-target-requires : goal.unwrap-target-requires
unwrap-target-requires c = (held (goal.at.unwrap-target-requires c).In_ok-when-2).shown _ c.shown_by.ensures

pub run_fault-requires : goal.run_fault-requires
run_fault-requires c =
    let v = c.args.self.now in
    let room = (held (goal.at.run_fault-requires c).In_ok-when-2).room c.unwrap-target.result (sym (ap translation_of c.unwrap-target.ensures) ∙ c.shown_by.ensures) in
    let marked = v.walkable.marked in
    let limit = v.walkable.ready.limit in
    (omega arith, omega arith, c.requires.some)

pub overflow_add-start : goal.overflow_add-start
overflow_add-start c =
    let h = held (goal.at.overflow_add-start c).In_ok-when-2 in
    let is = sym (ap translation_of c.unwrap-target.ensures) ∙ c.shown_by.ensures in
    let f = h.faults c.unwrap-target.result is _ _ (c.in-Err.ensures (length c.args.self.now.bytes.now) c.unwrap-target.result.left (h.room c.unwrap-target.result is)) in
    omega (arith, f.1)

pub returns-in-Ok-clause-reads : goal.returns-in-Ok-clause-reads
unfolding ◌onward◌
returns-in-Ok-clause-reads c =
    let h = held (goal.at.returns-in-Ok-clause-reads c).In_ok-when-2 in
    let is = sym (ap translation_of c.unwrap-target.ensures) ∙ c.shown_by.ensures in
    sym (h.passes c.unwrap-target.result is (c.in-Ok.ensures (length c.args.self.now.bytes.now) c.unwrap-target.result.left (h.room c.unwrap-target.result is)))

pub returns-in-Ok-clause-inside : goal.returns-in-Ok-clause-inside
returns-in-Ok-clause-inside c = (held (goal.at.returns-in-Ok-clause-inside c).In_ok-when-2).room c.unwrap-target.result (sym (ap translation_of c.unwrap-target.ensures) ∙ c.shown_by.ensures)

pub returns-in-Err-clause-reads : goal.returns-in-Err-clause-reads
returns-in-Err-clause-reads c =
    let h = held (goal.at.returns-in-Err-clause-reads c).In_ok-when-2 in
    let is = sym (ap translation_of c.unwrap-target.ensures) ∙ c.shown_by.ensures in
    let f = h.faults c.unwrap-target.result is _ _ (c.in-Err.ensures (length c.args.self.now.bytes.now) c.unwrap-target.result.left (h.room c.unwrap-target.result is)) in
    stays _ _ _ ∙ rw c.at-in-Err.ensures (sym f.2)
