-- What is promised and found below, kept under the struct that C gets.
use Rattle.std.proofs.Common.{◌≡◌, refl, ◌∙◌, ap, ℕ, List, [], Option, None, Some, Ok, Err, arith}
use Rattle.std.specs.Prelude.{Result as Returned}
use Rattle.std.proofs.Math.Option.{Option as Found, none, some}
use Rattle.answer.specs.Answer.{Answer, done, refused, ◌onward◌, told}
use Rattle.answer.specs.declared.Refusal.{Refusal}
use Rattle.iommu.specs.declared.Mapping.{Mapping}
use Rattle.memory.specs.Memory.{Memory}
use Rattle.emulator.specs.Effect.{Result}
use Rattle.emulator.specs.Calls.{Call}
use Rattle.emulator.specs.Contract.{Meets}
use Rattle.emulator.specs.declared.State.{State}
use Rattle.device_file.specs.Read.{Record as Piece}
use Rattle.device_file.specs.Scan.{option_of, record_of, content_of, Hands}
use Rattle.device_file.specs.declared.Record.{Record}
use Rattle.parts.specs.Step.{Step, Part, End, Refused, step_at, value_to, step_value, value_at}
use Rattle.parts.proofs.Steps.{step_says}
use Rattle.capi.specs.Structs.{step_struct}
use Rattle.capi.specs.Contract.{Returns, Steps}
use Rattle.capi.specs.DeviceFiles.{record_struct, HandsRecord}

module _ {A : Type 0} {shape : Answer Result → A} {c : Call} {buf : List ℕ} {s : State} {rs : List Mapping} {m : Memory} {a : Answer Result} {buf' : List ℕ} {m' : Memory} {s' : State} {rs' : List Mapping} where
  -- a promise of the emulator, with a state that is the same
  pub as_kept : {r : A} {t : State} → (r ≡ shape a) × (t ≡ s') → Meets c buf s rs m a buf' m' s' rs' → Returns shape c buf s rs m r buf' m' t rs'
  as_kept e h =
      record { answer = e.0 ∙ ap shape h.answer; rest = record { answer = refl; buffer = h.buffer; memory = h.memory; state = e.1 ∙ h.state; records = h.records } }

  pub as_told : {r : A} → r ≡ shape a → Meets c buf s rs m a buf' m' s' rs' → Returns shape c buf s rs m r buf' m' s' rs'
  as_told e h = as_kept (e, refl) h

-- a step, by what was found
module _ (s : List ℕ) (p : ℕ) where
  pub steps : (x : Step) → x ≡ step_at s p → Steps s p (step_struct p x)
  unfolding value_at step_value value_to
  steps (Part kind flags selector next) e =
      let says = step_says s p kind flags selector next e in
      record { step = ap (step_struct p) e; inside = omega (arith, says.0, says.1); value = ap (step_value s p) e }
  steps End e = record { step = ap (step_struct p) e; inside = omega arith; value = ap (step_value s p) e }
  steps (Refused code place) e = record { step = ap (step_struct p) e; inside = omega arith; value = ap (step_value s p) e }

-- nothing is handed out of a file that has no more records, or is refused
none_found : (a : Answer (Found Piece)) → done None ≡ record_of a → [] ≡ content_of a
unfolding record_of content_of ◌onward◌ option_of
none_found (done none) h = refl
none_found (done (some r)) h = cc
none_found (refused code place) h = refl

refused_found : (code place : ℕ) (a : Answer (Found Piece)) → refused code place ≡ record_of a → [] ≡ content_of a
unfolding record_of content_of ◌onward◌
refused_found code place (done r) h = cc
refused_found code place (refused code' place') h = refl

-- a record of a device file; no content is at the file's start, and has no bytes
pub hands : (s : List ℕ) (n : ℕ) (found : Returned (Option Record) Refusal) → Hands s n found → HandsRecord s n (record_struct (told found))
hands s n (Ok (Some r)) h = record { answer = ap record_struct h.answer; inside = h.inside; content = h.content }
hands s n (Ok None) h = record { answer = ap record_struct h.answer; inside = omega arith; content = none_found _ h.answer }
hands s n (Err e) h = record { answer = ap record_struct h.answer; inside = omega arith; content = refused_found _ _ _ h.answer }
