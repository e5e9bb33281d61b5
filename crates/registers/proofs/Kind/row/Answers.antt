-- `registers::Kind::row` meets its contract, type by type: the search computes where the type is known.
use Rattle.std.proofs.Common.{◌∙◌, refl, arith}
use borrow.Author.Tests.{ne_eqb}
use Rattle.answer.specs.Tests.{◌and◌, ◌or◌, pick}
use Rattle.answer.proofs.Tests.{below}
use Rattle.registers.specs.Rows.{row_of, row_from, kind_of, selector_of}
use Rattle.registers.proofs.Rows.{among}
use Rattle.registers.proofs.Kind.row.Goals as goal

pub returns-in-OfferedFeatures : goal.returns-in-OfferedFeatures
unfolding row_of row_from kind_of selector_of below ◌and◌ ◌or◌ pick
returns-in-OfferedFeatures c = (c.row_among.ensures.0 ∙ rw c.in-OfferedFeatures.is (among 0x100 0 1 refl refl c.args.selector), c.row_among.ensures.1)

pub returns-in-DriverFeatures : goal.returns-in-DriverFeatures
unfolding row_of row_from kind_of selector_of below ◌and◌ ◌or◌ pick
returns-in-DriverFeatures c = (c.row_among-in-DriverFeatures.ensures.0 ∙ rw c.in-DriverFeatures.is (among 0x101 1 1 refl refl c.args.selector), c.row_among-in-DriverFeatures.ensures.1)

pub returns-in-DeviceStatus : goal.returns-in-DeviceStatus
unfolding row_of row_from kind_of selector_of below ◌and◌ ◌or◌ pick
returns-in-DeviceStatus c = (c.row_among-in-DeviceStatus.ensures.0 ∙ rw c.in-DeviceStatus.is (among 0x103 6 1 refl refl c.args.selector), c.row_among-in-DeviceStatus.ensures.1)

pub returns-in-QueueConfig : goal.returns-in-QueueConfig
unfolding row_of row_from kind_of selector_of below ◌and◌ ◌or◌ pick
returns-in-QueueConfig c = (c.row_among-in-QueueConfig.ensures.0 ∙ rw c.in-QueueConfig.is (among 0x104 7 4 refl refl c.args.selector), c.row_among-in-QueueConfig.ensures.1)

pub returns-in-NotifyConfig : goal.returns-in-NotifyConfig
unfolding row_of row_from kind_of selector_of below ◌and◌ ◌or◌ pick
returns-in-NotifyConfig c = (c.row_among-in-NotifyConfig.ensures.0 ∙ rw c.in-NotifyConfig.is (among 0x105 11 4 refl refl c.args.selector), c.row_among-in-NotifyConfig.ensures.1)

pub returns-in-0 : goal.returns-in-0
unfolding row_of row_from kind_of selector_of ◌and◌ pick
returns-in-0 c = rw (c.in-CommonField.is, c.in-0.is) (refl, omega arith)

pub returns-in-8 : goal.returns-in-8
unfolding row_of row_from kind_of selector_of ◌and◌ pick
returns-in-8 c = rw (c.in-CommonField.is, c.in-8.is) (refl, omega arith)

pub returns-in-16 : goal.returns-in-16
unfolding row_of row_from kind_of selector_of ◌and◌ pick
returns-in-16 c = rw (c.in-CommonField.is, c.in-16.is) (refl, omega arith)

pub returns-in-22 : goal.returns-in-22
unfolding row_of row_from kind_of selector_of ◌and◌ pick
returns-in-22 c = rw (c.in-CommonField.is, c.in-22.is) (refl, omega arith)

pub returns-in_default : goal.returns-in_default
unfolding row_of row_from kind_of selector_of ◌and◌ pick
returns-in_default c =
    let s = c.args.selector in
    rw (c.in-CommonField.is, ne_eqb 0 s (λ e. omega arith), ne_eqb 8 s (λ e. omega arith), ne_eqb 16 s (λ e. omega arith), ne_eqb 22 s (λ e. omega arith)) (refl, tt)
