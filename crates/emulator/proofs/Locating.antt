-- What look-up has to answer, with the count that it tells, by what its checks and its search came to.
use Prim.Native.Nat.{ℕ}
use mathlib.Core.Path.{◌≡◌, refl, sym, ◌∙◌}
use mathlib.Core.Bool.{Bool, true, false}
use mathlib.Core.List.{List, []}
use lib.ListN.{length}
use lib.Dec.{ltb}
use Rattle.std.specs.Prelude.{Option, Some, None, Err}
use Rattle.std.specs.Option.{ok_or}
use Rattle.answer.specs.Tests.{pick}
use Rattle.answer.specs.Codes.{BadBench, Range, Unmapped}
use Rattle.answer.specs.Checks.{Verdict, Pass, Fail, ◌then◌, ◌unless◌}
use Rattle.answer.specs.Answer.{verdict, number_of}
use Rattle.answer.specs.declared.Refusal.{Refusal}
use Rattle.answer.specs.declared.Reason.TheVariants.{Unmapped as UnmappedReason}
use Rattle.answer.proofs.Checks.{then_pass, then_assoc, decides, never}
use Rattle.address.specs.Address.{device_limit}
use Rattle.address.specs.declared.DeviceAddress.{DeviceAddress}
use Rattle.iommu.specs.Table.{table_of, in_use, translate, translation_of, mapped}
use Rattle.iommu.specs.Halving.{probes_for}
use Rattle.iommu.specs.Requests.{translate_checks}
use Rattle.iommu.specs.declared.Mapping.{Mapping}
use Rattle.iommu.specs.declared.Target.{Target}
use Rattle.memory.specs.Memory.{Memory, edited}
use Rattle.emulator.specs.Machine.{machine_of, emulator_of, sound, usable}
use Rattle.emulator.specs.Effect.{carried, filled}
use Rattle.emulator.specs.Calls.{look_up, given, own_checks, checks, located, effect, probes_of}
use Rattle.emulator.specs.Contract.{writes, state_with, records_with, told_location, Meets, Locates}
use Rattle.emulator.specs.declared.State.{State}
use Rattle.emulator.specs.declared.LookUp.{LookUp}
use Rattle.emulator.proofs.Meets.{meets-refused, refused-by, accepted, counted-by}

module _ (s : State) (rs : List Mapping) (m : Memory) (d : DeviceAddress) where
  abbrev first-checks : Verdict
  first-checks = BadBench unless sound (length rs) (machine_of s rs) then Range unless ltb d.0 device_limit

  -- the count that goes with an answer
  locates : (r : LookUp) → Meets (look_up d) [] s rs m (told_location r.found) [] m s rs → r.probes ≡ carried (verdict (told_location r.found)) (probes_for (machine_of s rs).mappings d)
      → Locates d s rs m r
  unfolding emulator_of probes_of
  locates r h e = record { meets = h; count = e ∙ counted-by (look_up d) [] s rs m (told_location r.found) [] m s rs h }

  -- refusals 1 and 9 tell of no record
  uncounted : (v : Verdict) (n : ℕ) → v ≡ first-checks → (v ≡ Pass → ⊥) → 0 ≡ carried v n
  unfolding carried pick ◌then◌ ◌unless◌
  uncounted v n h not = go (sound (length rs) (machine_of s rs)) (ltb d.0 device_limit) h
    where
      go : (t u : Bool) → v ≡ (BadBench unless t then Range unless u) → 0 ≡ carried v n
      go true true e = absurd (not e)
      go true false e = rw e refl
      go false u e = rw e refl

  pub refuses-first : (e : Refusal) → Fail (number_of e.reason) e.place ≡ first-checks → Locates d s rs m (record { found = Err e; probes = 0 })
  unfolding checks given usable own_checks translate_checks emulator_of machine_of verdict
  refuses-first e h =
      locates _ (meets-refused (look_up d) [] s rs m _ _ (sym (decides _ (Unmapped unless mapped (translate (in_use (table_of rs s.count)) d)) _ _ h ∙ then_assoc _ _ _)))
      (uncounted _ _ h (λ p. never _ _ p))

  module _ (passed : Pass ≡ first-checks) where
    pub finds : (t : Option Target) → translation_of t ≡ translate (in_use (table_of rs s.count)) d → (r : LookUp) → r.found ≡ ok_or t (record { reason = UnmappedReason; place = 0 })
        → r.probes ≡ probes_for (in_use (table_of rs s.count)) d → Locates d s rs m r
    unfolding checks given usable own_checks effect emulator_of machine_of translate_checks writes state_with records_with filled edited located ◌then◌ ◌unless◌ mapped carried pick verdict
    finds None e r f n =
        let p = then_pass _ _ (sym passed) in
        locates r (rw f (refused-by (look_up d) [] s rs m Unmapped 0 (sym p.0) (rw (p.1, ← e) refl))) (rw f n)
    finds (Some t) e r f n =
        let p = then_pass _ _ (sym passed) in
        locates r (rw f (rw (← e) at (accepted (look_up d) [] s rs m [] m s rs (sym p.0) (rw (p.1, ← e) refl) refl refl refl refl))) (rw f n)
