use Rattle.std.proofs.Common.{◌≡◌, ◌-◌}
use Rattle.interrupts.specs.Requests.{changed_line, changed_run}
use Rattle.interrupts.proofs.Request.change.Given as goal

-- the lines that are left to change are the rest of the run
abbrev pub invariant-loop-j : goal.invariant-loop-j
invariant-loop-j l = changed_run (changed_line l.buf) l.j l.j (l.self.count - l.j) l.range ≡ changed_run (changed_line l.buf) 0 0 l.self.count l.initial.range
