use Rattle.std.proofs.Common.{◌≡◌, ◌+◌, ◌-◌, ◌≤◌, true, false, length, take, drop, length-take-le, length-drop, sym, ◌∙◌, arith}
use native.Mathlib.Nat.{zero-add}
use Rattle.interrupts.specs.Lines.{stored}
use Rattle.interrupts.specs.Requests.{flags_of, count_of, disables, range_start, range_count, changed_line}
use Rattle.interrupts.proofs.Runs.{run_none, run_more}
use Rattle.interrupts.proofs.Requests.{set-passed, range-within, disables-by, range-whole, range-part, change-whole, change-part}
use Rattle.interrupts.proofs.Request.change.Goals as goal
use Rattle.interrupts.proofs.Request.change.Goals.{Start, Then-disables, Else-disables}

-- the range lies among the lines
within : (c : Start) → range_start c.args.buf.now + range_count c.args.buf.now ≤ length c.args.lines.now
within c = omega (arith, c.requires.0, range-within _ (set-passed _ c.requires.1))

whole : (c : Then-disables) → disables (flags_of c.args.buf.now) (count_of c.args.buf.now) ≡ true
whole c = sym (disables-by c.args.buf.now c.args.self c.requires.3) ∙ sym c.disables.ensures ∙ c.if-disables.true

part : (c : Else-disables) → disables (flags_of c.args.buf.now) (count_of c.args.buf.now) ≡ false
part c = sym (disables-by c.args.buf.now c.args.self c.requires.3) ∙ sym c.disables.ensures ∙ c.if-disables.false

-- where it ends
end-whole : (c : Then-disables) → c.first_of-first.result + c.args.self.interrupt.count ≤ length c.args.lines.now
end-whole c =
    let range = range-whole c.args.buf.now c.args.self c.requires.3 (whole c) in
    omega (arith, within (goal.at.Then-disables c).Start, c.first_of-first.ensures, range.0, range.1)

end-part : (c : Else-disables) → c.first_of-first.result + c.args.self.start + c.args.self.count ≤ length c.args.lines.now
end-part c =
    let range = range-part c.args.buf.now c.args.self c.requires.3 (part c) in
    omega (arith, within (goal.at.Else-disables c).Start, c.first_of-first.ensures, range.0, range.1)

pub overflow_add-first : goal.overflow_add-first
overflow_add-first c = record { fits = omega (arith, c.requires.0, end-whole (goal.at.overflow_add-first c).Then-disables) }

pub offset_bounds-lines-first : goal.offset_bounds-lines-first
offset_bounds-lines-first c = record { fits = omega (arith, c.requires.0, end-whole (goal.at.offset_bounds-lines-first c).Then-disables) }

pub slice_bounds-fill-end : goal.slice_bounds-fill-end
slice_bounds-fill-end c = omega (arith, c.requires.0, end-whole (goal.at.slice_bounds-fill-end c).Then-disables)

pub returns-then-disables : goal.returns-then-disables
returns-then-disables c =
    let at = goal.at.returns-then-disables c in
    let asked = c.requires.3 in
    let n : c.first_of-first.result + c.args.self.interrupt.count - c.first_of-first.result ≡ c.args.self.interrupt.count = omega arith in
    let long = length-take-le c.args.self.interrupt.count (drop c.first_of-first.result c.args.lines.now)
    (omega (arith, end-whole at.Then-disables, length-drop c.first_of-first.result c.args.lines.now)) in
    rw (c.fill.ensures.after (λ y e. e), n, long, c.off.ensures, c.first_of-first.ensures)
    (change-whole c.args.buf.now c.args.self asked c.args.lines.now (within at.Start) (whole at.Then-disables))

pub overflow_add-from : goal.overflow_add-from
overflow_add-from c = record { fits = omega (arith, c.requires.0, end-part (goal.at.overflow_add-from c).Else-disables) }

pub overflow_add-range : goal.overflow_add-range
overflow_add-range c = record { fits = omega (arith, c.requires.0, end-part (goal.at.overflow_add-range c).Else-disables) }

pub offset_bounds-lines-from : goal.offset_bounds-lines-from
offset_bounds-lines-from c = record { fits = omega (arith, c.requires.0, end-part (goal.at.offset_bounds-lines-from c).Else-disables) }

pub slice_bounds-range-end : goal.slice_bounds-range-end
slice_bounds-range-end c = omega (arith, c.requires.0, end-part (goal.at.slice_bounds-range-end c).Else-disables)

-- the part that is changed
long : (c : Else-disables) → let from = c.first_of-first.result + c.args.self.start in
    length (take (from + c.args.self.count - from) (drop from c.args.lines.now)) ≡ c.args.self.count
long c =
    let from = c.first_of-first.result + c.args.self.start in
    let n : from + c.args.self.count - from ≡ c.args.self.count = omega arith in
    rw n (length-take-le c.args.self.count (drop from c.args.lines.now) (omega (arith, end-part c, length-drop from c.args.lines.now)))

pub changed-requires : goal.changed-requires
changed-requires c =
    let at = goal.at.changed-requires c in
    let asked = c.requires.3 in (
      asked,
      part at.Else-disables,
      omega (arith, c.loop-j-test.true, long at.Else-disables),
      rw (asked.data_is, asked.count_is) (omega (arith, (set-passed _ c.requires.1).room, c.requires.2)),
    )

pub loop-j-preserved : goal.loop-j-preserved
unfolding stored
loop-j-preserved c =
    let is = long (goal.at.loop-j-preserved c).Else-disables in
    let turn = run_more (changed_line c.args.buf.now) 0 c.args.self.count c.loop-j.j c.loop-j.range (stored 0) (omega (arith, c.loop-j-test.true, is)) (omega (arith, c.loop-j-test.true, c.loop-j.auto.range)) in
    rw c.changed.ensures (sym (simp zero-add at turn) ∙ c.loop-j.invariant)

pub returns : goal.returns
returns c =
    let at = goal.at.returns c in
    let f = changed_line c.args.buf.now in
    let from = c.first_of-first.result + c.args.self.start in
    let n : from + c.args.self.count - from ≡ c.args.self.count = omega arith in
    let done : c.args.self.count - c.loop-j.j ≡ 0 = omega (arith, c.loop-j-test.false, long at.Else-disables) in
    let all = sym (run_none f c.loop-j.j c.loop-j.j c.loop-j.range) ∙ (rw done at c.loop-j.invariant) in
    rw (n, all, n, c.first_of-first.ensures)
    (change-part c.args.buf.now c.args.self c.requires.3 c.args.lines.now (within at.Start) (part at.Else-disables))
