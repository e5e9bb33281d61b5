-- The bytes in use behind an append: those before, with their REGION grown, and the record.
use Prim.Native.Nat.{ℕ, ◌+◌, ◌≤◌}
use native.Mathlib.Omega.{arith}
use mathlib.Core.Path.{◌≡◌, refl, ◌∙◌, ap}
use mathlib.Core.Bool.{Bool, true, false}
use mathlib.Core.List.{List, ◌++◌}
use mathlib.Core.Option.{Option, none, some}
use lib.ListN.{length, take, drop}
use lib.Seq.{sets, length-sets}
use Rattle.answer.specs.Tests.{pick}
use Rattle.wire.specs.Field.{bytes_of}
use Rattle.wire.proofs.Laws.{length-bytes}
use Rattle.device_file.specs.Layout.{is_sub, prefix_size}
use Rattle.device_file.specs.Read.{length_at}
use Rattle.device_file.specs.Write.{record_length, grown, encoded, appended}
use Rattle.device_file.specs.RoundTrips.{in_use}
use Rattle.device_file.proofs.Lists.{take-sets, drop-sets, take-written, drop-written}
use Rattle.device_file.proofs.Writing.{length-grown}
use Rattle.device_file.proofs.Appending.{field-take}

pub length-encoded : (t : ℕ) (v : List ℕ) → length (encoded t v) ≡ record_length v
unfolding encoded record_length bytes_of
length-encoded t v = omega arith

pub record_least : (v : List ℕ) → prefix_size ≤ record_length v
unfolding record_length
record_least v = omega arith

module _ (buf : List ℕ) (used t n : ℕ) where
  grown_parts : (region : Option ℕ) → ((g : ℕ) → region ≡ some g → g + prefix_size ≤ used)
      → (take used (grown buf region t n) ≡ grown (take used buf) region t n) × ((k : ℕ) → used ≤ k → drop k (grown buf region t n) ≡ drop k buf)
  unfolding grown pick
  grown_parts none there = (refl, λ k h. refl)
  grown_parts (some g) there = go (is_sub t) (there g refl)
    where
      x : List ℕ
      x = bytes_of 4 (length_at buf g + n)

      go : (b : Bool) → g + prefix_size ≤ used
          → (take used (pick b (sets buf (g + 4) x) buf) ≡ pick b (sets (take used buf) (g + 4) (bytes_of 4 (length_at (take used buf) g + n))) (take used buf))
          × ((k : ℕ) → used ≤ k → drop k (pick b (sets buf (g + 4) x) buf) ≡ drop k buf)
      go true h =
          let long = length-bytes 4 (length_at buf g + n) in (
            rw (field-take buf used (g + 4) 4 (omega arith)) (take-sets used buf (g + 4) x (omega arith)),
            λ k le. drop-sets k buf (g + 4) x (omega arith),
          )
      go false h = (refl, λ k le. refl)

module _ (buf : List ℕ) (used : ℕ) (region : Option ℕ) (t : ℕ) (v : List ℕ) (room : used + record_length v ≤ length buf) (there : (g : ℕ) → region ≡ some g → g + prefix_size ≤ used) where
  end : used + length (encoded t v) ≡ used + record_length v
  end = omega (arith, length-encoded t v)

  fits : used + record_length v ≤ length (grown buf region t (record_length v))
  fits = omega (arith, length-grown buf region t (record_length v))

  pub used-after : in_use (appended buf used region t v) ≡ grown (take used buf) region t (record_length v) ++ encoded t v
  unfolding appended
  used-after =
      take-written (grown buf region t (record_length v)) used (encoded t v) (used + record_length v) end fits
      ∙ ap (λ (l : List ℕ). l ++ encoded t v) (grown_parts buf used t (record_length v) region there).0

  pub rest-after : drop (used + record_length v) (appended buf used region t v).buffer ≡ drop (used + record_length v) buf
  unfolding appended
  rest-after =
      drop-written (grown buf region t (record_length v)) used (encoded t v) (used + record_length v) end fits
      ∙ (grown_parts buf used t (record_length v) region there).1 (used + record_length v) (omega arith)

  pub length-after : length (appended buf used region t v).buffer ≡ length buf
  unfolding appended
  length-after = length-sets (grown buf region t (record_length v)) used (encoded t v) ∙ length-grown buf region t (record_length v)
