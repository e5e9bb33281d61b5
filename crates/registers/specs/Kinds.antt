-- Part types and rows, as the code has them.
use Rattle.std.specs.Prelude.{ℕ, ◌≡◌, ◌<◌, Option, IfSome, unwrap_or, Result, IfOk}
use Rattle.answer.specs.Codes.{UnknownPart}
use Rattle.answer.specs.Checks.{◌unless◌}
use Rattle.answer.specs.Answer.{verdict_of}
use Rattle.answer.specs.declared.Refusal.{Refusal}
use Rattle.registers.specs.Rows as rows
use Rattle.registers.specs.declared.Kind.{Kind}
use Rattle.registers.specs.declared.Kind.TheVariants.{OfferedFeatures, DriverFeatures, CommonField, DeviceStatus, QueueConfig, NotifyConfig}

-- the number of a type
abbrev pub number_of : Kind → ℕ
number_of OfferedFeatures = rows.OfferedFeatures
number_of DriverFeatures = rows.DriverFeatures
number_of CommonField = rows.CommonField
number_of DeviceStatus = rows.DeviceStatus
number_of QueueConfig = rows.QueueConfig
number_of NotifyConfig = rows.NotifyConfig

-- the type of a number; rule 5.15: 20 for a number that is not listed
abbrev pub Decodes : ℕ → Result Kind Refusal → Type 0
Decodes kind result = (verdict_of result ≡ (UnknownPart unless rows.listed kind)) × IfOk result (λ k. number_of k ≡ kind)

-- what the code gives for the row of a type and a selector number: nothing where none is listed
abbrev pub Names : Option ℕ → ℕ → ℕ → Type 0
Names row kind selector = (unwrap_or row rows.row_count ≡ rows.row_of kind selector) × IfSome row (λ i. i < rows.row_count)
