use Rattle.std.proofs.Common.{◌+◌, ◌<◌, arith, ltb-true}
use Rattle.answer.proofs.Tests.{and_true}
use Rattle.answer.proofs.Checks.{unless_pass}
use Rattle.interrupts.specs.Lines.{index_at, line_count}
use Rattle.interrupts.specs.Requests.{show_checks}
use Rattle.interrupts.proofs.Indices.{index-within}
use Rattle.interrupts.proofs.shown.Goals as goal
use Rattle.interrupts.proofs.shown.Goals.{After-first_of}

-- the line is one of its index, and so one of all
below : (c : After-first_of) → c.first_of.result + c.args.line < line_count
unfolding show_checks
below c =
    omega (arith, c.first_of.ensures, index-within c.args.index, ltb-true c.args.line (index_at c.args.index).count (and_true _ _ (unless_pass _ _ c.requires)).1)

pub overflow_add-result : goal.overflow_add-result
overflow_add-result c = record { fits = omega (arith, below c) }

pub offset_bounds-lines-first_of : goal.offset_bounds-lines-first_of
offset_bounds-lines-first_of c = record { fits = omega (arith, below c) }

pub bounds-lines-first_of : goal.bounds-lines-first_of
bounds-lines-first_of c = below c
