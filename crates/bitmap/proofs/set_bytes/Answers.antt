use Rattle.std.proofs.Common.{◌≡◌, ℕ, ◌≤◌, ◌<◌, get_or, sym, rules}
use Rattle.answer.specs.Tests.{pick}
use Rattle.bitmap.proofs.Runs.{run-whole}
use Rattle.bitmap.proofs.set_bytes.Goals as goal
use Rattle.bitmap.proofs.set_bytes.Goals.{then-v, else-v}

pub returns : goal.returns
unfolding pick
returns c =
    let a = c.args in
    let v : c.if-v.fill ≡ pick a.v 255 0 = elim c.if-v.branch [ then-v w ↦ rw w.if-v.true w.fill-is | else-v w ↦ rw w.if-v.false w.fill-is ] in
    let sound : (j : ℕ) → a.q ≤ j → get_or a.map.now j 0 < 256 = λ j h. search rules in
    rw (c.fill.ensures, v) (sym (run-whole a.c a.map.now a.q a.v c.requires sound))
