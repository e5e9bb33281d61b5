-- The types of record as the code has them.
use Rattle.std.specs.Prelude.{ℕ, ◌≡◌, eqb, Result, IfOk}
use Rattle.answer.specs.Tests.{pick}
use Rattle.answer.specs.Codes.{UnknownPart}
use Rattle.answer.specs.Checks.{◌unless◌}
use Rattle.answer.specs.Answer.{verdict_of}
use Rattle.answer.specs.declared.Refusal.{Refusal}
use Rattle.device_file.specs.Layout as layout
use Rattle.device_file.specs.Layout.{is_type, region_size}
use Rattle.device_file.specs.declared.Kind.{Kind}
use Rattle.device_file.specs.declared.Kind.TheVariants.{Region, DtPath, DtIndex, Interrupt, ConfigSpace, BarIndex, PhysAddr}

abbrev pub number_of : Kind → ℕ
number_of Region = layout.Region
number_of DtPath = layout.DtPath
number_of DtIndex = layout.DtIndex
number_of Interrupt = layout.Interrupt
number_of ConfigSpace = 5
number_of BarIndex = 6
number_of PhysAddr = 7

-- rule 9.5: a number is that of a type, or is refused
abbrev pub Names : ℕ → Result Kind Refusal → Type 0
Names t r = (verdict_of r ≡ (UnknownPart unless is_type t)) × IfOk r (λ kind. number_of kind ≡ t)

-- rule 9.7: how long a record of a type and a length is before its sub-records
unfoldable pub own_length_of : ℕ → ℕ → ℕ
own_length_of t n = pick (eqb t layout.Region) region_size n
