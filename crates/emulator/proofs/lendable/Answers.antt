use Rattle.std.proofs.Common.{◌+◌, ◌/◌, refl, length, eq-eqb, ne_eqb, arith}
use Rattle.answer.specs.Tests.{◌and◌}
use Rattle.memory.specs.Shadow.{shadow_length}
use Rattle.emulator.specs.Machine.{lendable}
use Rattle.emulator.proofs.lendable.Goals as goal

pub returns-then-shadow-div_ceil : goal.returns-then-shadow-div_ceil
unfolding lendable shadow_length ◌and◌
returns-then-shadow-div_ceil c =
    let a = c.args in
    rw (eq-eqb (length a.bytes.now) (length a.bytes.now) refl, eq-eqb (length a.shadow.now) ((length a.bytes.now + 7) / 8) (omega (arith, c.div_ceil.ensures, c.if-shadow-div_ceil.true))) refl

pub returns-else-shadow-div_ceil : goal.returns-else-shadow-div_ceil
unfolding lendable shadow_length ◌and◌
returns-else-shadow-div_ceil c =
    let a = c.args in
    rw (eq-eqb (length a.bytes.now) (length a.bytes.now) refl, ne_eqb (length a.shadow.now) ((length a.bytes.now + 7) / 8) (λ e. c.if-shadow-div_ceil.false (omega (arith, c.div_ceil.ensures))), ne_eqb (length a.shadow.now) c.div_ceil.result c.if-shadow-div_ceil.false) refl
