use Rattle.std.proofs.Common.{◌≡◌, ◌+◌, ◌*◌, ◌^◌, ◌<◌, ◌≤◌, eqb, length, refl, sym, ◌∙◌, arith, ltb-false, eqb-true}
use Rattle.answer.specs.Tests.{◌and◌}
use Rattle.answer.proofs.Checks.{decides, goes_on, when_pass}
use Rattle.wire.proofs.Laws.{field_lt}
use Rattle.interrupts.specs.declared.Data.TheVariants.{Numbers}
use Rattle.interrupts.specs.Requests.{data_start, data_event, data_number, any_lower}
use Rattle.interrupts.proofs.Names.{data-is}
use Rattle.interrupts.proofs.Joins.{and-both, and-first}
use Rattle.interrupts.proofs.Requests.{data-checked, size-most, width-event}
use Rattle.interrupts.proofs.Request.check_data.Goals as goal
use Rattle.interrupts.proofs.Request.check_data.Goals.{After-width, Then-eq, After-when-2, then-eq, else-eq}

-- a line has four bytes of data at most
bounded : (c : After-width) → (c.args.self.count < 2 ^ 32) × (c.args.self.count * c.width.result ≤ 4 * c.args.self.count)
bounded c = (
  rw c.requires.2.count_is (field_lt c.args.buf.now (λ i. (c.type_inv.buf i).fits) 16 4),
  rw c.width.ensures (size-most (data_number c.args.self.«data») c.args.self.count),
)

pub overflow_mul-end : goal.overflow_mul-end
overflow_mul-end c = record { fits = omega (arith, bounded c) }

pub overflow_add-end : goal.overflow_add-end
overflow_add-end c = record { fits = omega (arith, bounded c) }

pub returns-in_err-when : goal.returns-in_err-when
returns-in_err-when c =
    let asked = c.requires.2 in
    rw (data-checked c.args.buf.now (data_number c.args.self.«data») c.args.self.count asked.data_is asked.count_is, ← c.get.ensures, ← c.width.ensures)
    (grind (arith, decides, goes_on))

-- the data lie in the buffer
inside : (c : Then-eq) → data_start + 4 * c.args.self.count ≤ length c.args.buf.now
inside c =
    let event = data-is c.args.self.«data» Numbers refl c.eq.ensures in
    let four : c.width.result ≡ 4 = c.width.ensures ∙ width-event (eqb-true _ _ (sym event ∙ c.if-eq.true)) in
    let room = ltb-false _ _ (when_pass _ _ (sym c.in_ok-when.ensures)) in
    omega (arith, rw four at room, c.get.ensures, c.requires.1)

pub any_lower-requires : goal.any_lower-requires
any_lower-requires c = omega (arith, inside c)

pub returns : goal.returns
returns c =
    let asked = c.requires.2 in
    let numbers : c.if-eq.when ≡ (eqb (data_number c.args.self.«data») data_event and any_lower c.args.buf.now c.args.self.count) =
    elim c.if-eq.branch [
      | then-eq w ↦ and-both (data-is c.args.self.«data» Numbers refl c.eq.ensures) w.any_lower.ensures w.if-eq.true w.when-is
      | else-eq w ↦ and-first _ (data-is c.args.self.«data» Numbers refl c.eq.ensures) w.if-eq.false w.when-is
    ] in
    rw (data-checked c.args.buf.now (data_number c.args.self.«data») c.args.self.count asked.data_is asked.count_is, ← c.get.ensures, ← c.width.ensures, ← numbers)
    (grind (arith, decides, goes_on))
