-- Laws of loading: one part, and the loop over the parts.
use Prim.Native.Nat.{ℕ, zero, suc, ◌+◌, ◌-◌, ◌^◌, ◌≤◌, ◌<◌}
use native.Mathlib.Omega.{arith}
use mathlib.Core.Path.{◌≡◌, refl, sym, ◌∙◌, ap}
use mathlib.Core.Bool.{Bool, true, false, not}
use mathlib.Core.List.{List, [], ◌∷◌}
use mathlib.Core.Option.{Option, none, some}
use lib.ListN.{length, get_or, set, replicate, length-set, get_or-eq_default}
use lib.Dec.{eqb, ltb}
use borrow.Author.Tests.{lt-ltb}
use Rattle.answer.specs.Tests.{pick, flagged, is_some}
use Rattle.answer.specs.Codes.{UnknownPart, Header, Value, Twice, Running, Missing}
use Rattle.answer.specs.Checks.{Verdict, Pass, Fail, ◌then◌, ◌when◌, ◌unless◌, ◌at◌}
use Rattle.answer.specs.Limits.{length_check}
use Rattle.answer.specs.Answer.{Answer, done, refused, settle, ◌onward◌}
use Rattle.answer.proofs.Tests.{pick_true, is_false}
use Rattle.answer.proofs.Checks.{never, then_pass, unless_pass}
use Rattle.registers.specs.Rows.{row_count, row_of, kind_of, size_of, selects, listed, selector_width, status_row}
use Rattle.registers.specs.Values.{content_checks, value_checks}
use Rattle.registers.specs.File.{File, register_value, file_from, register_of, slots_of}
use Rattle.registers.specs.declared.Register.{Register}
use Rattle.registers.specs.declared.Registers.{Registers}
use Rattle.registers.proofs.Rows.{selected, row_listed}
use Rattle.registers.proofs.Values.{value-size}
use Rattle.registers.proofs.File.{absent, set_at, file-set}
use Rattle.parts.specs.Step.{Step, Part, End, Refused, step_at, value_to}
use Rattle.parts.specs.Load.{Seen, flags_of, listed_checks, part_checks, named, taken, finish, on_step, load_from, load, seen_in, loaded_of, from_start}
use Rattle.parts.proofs.Steps.{when_not_at, step_says}

-- ---- one part

-- whether a type is listed, as the code finds it by its number
pub listed_picks : {A : Type 0} (t : Bool) (x a b : A) → Pass ≡ (UnknownPart unless t) → x ≡ a → x ≡ pick t a b
unfolding pick
listed_picks t x a b h e = rw (unless_pass UnknownPart t (sym h)) e

pub unlisted_picks : {A : Type 0} (t : Bool) (x a b : A) (code place : ℕ) → Fail code place ≡ (UnknownPart unless t) → x ≡ b → x ≡ pick t a b
unfolding pick ◌unless◌
unlisted_picks true x a b code place h e = never code place h
unlisted_picks false x a b code place h e = e

-- the checks that are left for a part that names a row
pub listed-left : (w : ℕ) (twice : Bool) (kind flags selector row : ℕ) (v : List ℕ) → Pass ≡ (Header unless eqb flags (flags_of kind))
    → Pass ≡ (Header unless ltb selector (256 ^ selector_width kind)) → row ≡ row_of kind selector → row < row_count
    → (Value unless eqb (length v) (size_of w row) then Twice when twice then content_checks w (kind_of row) v) ≡ listed_checks w twice kind flags selector v
unfolding listed_checks selects value_checks ◌then◌ ◌unless◌
listed-left w twice kind flags selector row v f l r lt = rw (← f, ← l, ← r, lt-ltb _ _ lt)

-- what passed checks tell of a part of a listed type
module _ (w : ℕ) (twice : Bool) (kind flags selector : ℕ) (v : List ℕ) (h : part_checks w twice kind flags selector v ≡ Pass) where
  pub part-row : listed kind ≡ true → (row_of kind selector < row_count) × (length v ≡ size_of w (row_of kind selector))
  unfolding part_checks listed_checks
  part-row l =
      let a = then_pass _ _ (sym (pick_true _ _ _ l) ∙ (then_pass _ _ h).1) in
      let b = then_pass _ _ (then_pass _ _ a.1).1 in
      (selected kind selector (unless_pass _ _ b.0), value-size w _ _ v b.1)

  -- of one that names a row
  pub part-size : row_of kind selector < row_count → length v ≡ size_of w (row_of kind selector)
  part-size lt = (part-row (row_listed kind selector lt)).1

  -- of one that names none
  pub part_unlisted : row_count ≤ row_of kind selector → listed kind ≡ false
  part_unlisted le = is_false (listed kind) (λ e. let r = part-row e in omega arith)

-- ---- the registers that parts named, as code keeps them

pub slots_set : (file : File) (i : ℕ) (x : Option (List ℕ)) → slots_of (set file i x) ≡ set (slots_of file) i (register_of x)
unfolding slots_of
slots_set [] i x = refl
slots_set (y ∷ file) zero x = refl
slots_set (y ∷ file) (suc i) x = ap (λ (l : List Register). register_of y ∷ l) (slots_set file i x)

-- registers that are written as code writes them
abbrev pub Canonical : ℕ → List Register → Type 0
Canonical w slots = slots ≡ slots_of (file_from w 1 slots)

-- a value that is set is in its row
module _ (w : ℕ) (slots : List Register) (i : ℕ) (v : List ℕ) (pos : 0 < i) (size : length v ≡ size_of w i) where
  row : 1 + (i - 1) ≡ i
  row = omega arith

  pub kept_set : file_from w 1 (set slots (i - 1) (register_of (some v))) ≡ set (file_from w 1 slots) (i - 1) (some v)
  kept_set = file-set w 1 slots (i - 1) v (rw row size)

  pub kept-canonical : Canonical w slots → Canonical w (set slots (i - 1) (register_of (some v)))
  kept-canonical e =
      ap (λ (l : List Register). set l (i - 1) (register_of (some v))) e ∙ sym (slots_set (file_from w 1 slots) _ (some v)) ∙ ap slots_of (sym kept_set)

-- whether a row was named before
module _ (w : ℕ) (x : Option (List ℕ)) (slots : List Register) (kind selector : ℕ) where
  pub named-offered : row_of kind selector ≡ 0 → named (seen_in w x slots) kind selector ≡ is_some x
  unfolding named
  named-offered e = rw e

  pub named-kept : 0 < row_of kind selector → named (seen_in w x slots) kind selector ≡ flagged (get_or slots (row_of kind selector - 1) absent).set
  unfolding named
  named-kept pos =
      let e : row_of kind selector ≡ suc (row_of kind selector - 1) = omega arith in
      ap (λ (i : ℕ). is_some (get_or (seen_in w x slots) i none)) e ∙ set_at w 1 slots (row_of kind selector - 1)

  pub named_none : length slots ≡ 14 → row_count ≤ row_of kind selector → false ≡ named (seen_in w x slots) kind selector
  named_none long past =
      sym (named-kept (omega arith) ∙ ap (λ (r : Register). flagged r.set) (get_or-eq_default slots absent {n = row_of kind selector - 1} (omega arith)))

-- what the code gives for an answer
pub gives_refusal : (a : Answer File) (code place : ℕ) → a ≡ refused code place → refused code place ≡ loaded_of a
unfolding loaded_of
gives_refusal a code place e = rw e

pub gives_registers : (w : ℕ) (a : Answer File) (slots : List Register) → Canonical w slots → a ≡ done (file_from w 1 slots) → done (record { slots = slots }) ≡ loaded_of a
unfolding loaded_of
gives_registers w a slots c e = rw e (ap (λ (l : List Register). done (record { slots = l })) c)

-- ---- the end of the stream

-- the code asks the slot of status
module _ (w : ℕ) (x : Option (List ℕ)) (slots : List Register) (p : ℕ) where
  abbrev unset : Bool
  unset = not (flagged (get_or slots 5 absent).set)

  named_lem : (Missing unless is_some (get_or (seen_in w x slots) status_row none) at p) ≡ (Missing when unset at p)
  named_lem = ap (λ (t : Bool). Missing unless t at p) (set_at w 1 slots 5) ∙ sym (when_not_at Missing p _)

  pub finish-done : Pass ≡ (Missing when unset at p) → finish (seen_in w x slots) p ≡ done (file_from w 1 slots)
  unfolding finish settle
  finish-done h = ap (λ (v : Verdict). settle v (file_from w 1 slots)) (named_lem ∙ sym h)

  pub finish-fault : (code place : ℕ) → Fail code place ≡ (Missing when unset at p) → finish (seen_in w x slots) p ≡ refused code place
  unfolding finish settle
  finish-fault code place h = ap (λ (v : Verdict). settle v (file_from w 1 slots)) (named_lem ∙ sym h)

-- ---- the loop over the parts

-- at the head of the loop: the parts from `p` on decide, over what is seen
pub record Loop (w : ℕ) (s : List ℕ) (p : ℕ) (slots : List Register) (offered : Bool) : Type 0 where
  pub fuel : ℕ
  pub enough : length s < p + fuel
  pub inside : p ≤ length s
  pub features : Option (List ℕ)
  pub flag : is_some features ≡ offered
  pub rest : from_start w s ≡ load_from w fuel s p (seen_in w features slots)
  pub long : length slots ≡ 14
  pub canonical : Canonical w slots

pub loop_start : (w : ℕ) (s : List ℕ) (r : Register) → r ≡ register_of none → Loop w s 0 (replicate 14 r) false
unfolding file_from slots_of register_of register_value pick is_some
loop_start w s r e = rw e record {
  fuel = suc (length s);
  enough = omega arith;
  inside = omega arith;
  features = none;
  flag = refl;
  rest = refl;
  long = refl;
  canonical = refl;
}

module _ (w : ℕ) (s : List ℕ) (p : ℕ) (slots : List Register) (offered : Bool) (l : Loop w s p slots offered) where
  abbrev seen : Seen
  seen = seen_in w l.features slots

  -- there is fuel for one part more
  opened : (x : Step) → x ≡ step_at s p → from_start w s ≡ on_step w (load_from w (l.fuel - 1) s) s p seen x
  unfolding load_from
  opened x e =
      let one : l.fuel ≡ suc (l.fuel - 1) = omega (arith, l.enough, l.inside) in
      l.rest ∙ ap (λ (fuel : ℕ). load_from w fuel s p seen) one ∙ rw e

  pub loop_end : End ≡ step_at s p → from_start w s ≡ finish seen p
  unfolding on_step
  loop_end e = opened End e

  pub loop_refused : (code place : ℕ) → Refused code place ≡ step_at s p → from_start w s ≡ refused code place
  unfolding on_step
  loop_refused code place e = opened (Refused code place) e

  -- a part, and whether its row was named before
  module _ (kind flags selector next : ℕ) (e : Part kind flags selector next ≡ step_at s p) (twice : Bool) (known : twice ≡ named seen kind selector) where
    abbrev v : List ℕ
    v = value_to s p next

    pub loop_fault : (code place : ℕ) → Fail code place ≡ part_checks w twice kind flags selector v → from_start w s ≡ refused code p
    unfolding on_step settle ◌onward◌ ◌at◌
    loop_fault code place f = opened (Part kind flags selector next) e ∙ rw (← known, ← f)

    module _ (f : Pass ≡ part_checks w twice kind flags selector v) where
      goes_on_lem : (x : Option (List ℕ)) (slots' : List Register) (offered' : Bool) → is_some x ≡ offered' → taken seen kind selector v ≡ seen_in w x slots'
          → length slots' ≡ 14 → Canonical w slots' → Loop w s next slots' offered'
      unfolding on_step settle ◌onward◌ ◌at◌
      goes_on_lem x slots' offered' flag now long canonical =
          let says = step_says s p kind flags selector next e in
          record {
            fuel = l.fuel - 1;
            enough = omega (arith, l.enough, says.0);
            inside = says.1;
            features = x;
            flag = flag;
            rest = opened (Part kind flags selector next) e ∙ rw (← known, ← f, now);
            long = long;
            canonical = canonical;
          }

      -- the part of a listed type is taken
      listed-taken : row_of kind selector < row_count → taken seen kind selector v ≡ set seen (row_of kind selector) (some v)
      unfolding taken pick
      listed-taken lt = rw (row_listed kind selector lt)

      pub loop_offered : row_of kind selector ≡ 0 → Loop w s next slots true
      unfolding is_some
      loop_offered z =
          goes_on_lem (some v) slots true refl (listed-taken (omega arith) ∙ rw z) l.long l.canonical

      pub loop_kept : 0 < row_of kind selector → row_of kind selector < row_count
          → Loop w s next (set slots (row_of kind selector - 1) (register_of (some v))) offered
      loop_kept pos lt =
          let size = part-size w twice kind flags selector v (sym f) lt in
          let i : row_of kind selector ≡ suc (row_of kind selector - 1) = omega arith in
          goes_on_lem l.features _ offered l.flag
          (listed-taken lt ∙ ap (λ (i : ℕ). set seen i (some v)) i ∙ ap (λ (file : File). l.features ∷ file) (sym (kept_set w slots _ v pos size)))
          (length-set slots _ _ ∙ l.long) (kept-canonical w slots _ v pos size l.canonical)

      pub loop_skipped : row_count ≤ row_of kind selector → Loop w s next slots offered
      unfolding taken pick
      loop_skipped past =
          goes_on_lem l.features slots offered l.flag (rw (part_unlisted w twice kind flags selector v (sym f) past)) l.long l.canonical

-- ---- the checks before the first part

pub load_refused : (w : ℕ) (running : Bool) (s : List ℕ) (code place : ℕ) → Fail code place ≡ (Running when running then length_check (length s))
    → refused code place ≡ loaded_of (load w running s)
unfolding load loaded_of settle ◌onward◌
load_refused w running s code place h = rw (← h)

pub load_passes : (w : ℕ) (running : Bool) (s : List ℕ) (x : Answer Registers) → Pass ≡ (Running when running then length_check (length s))
    → x ≡ loaded_of (from_start w s) → x ≡ loaded_of (load w running s)
unfolding load settle ◌onward◌
load_passes w running s x h e = rw (← h) e

pub load_passed : (w : ℕ) (running : Bool) (s : List ℕ) → Pass ≡ (Running when running then length_check (length s)) → load w running s ≡ from_start w s
unfolding load settle ◌onward◌
load_passed w running s h = rw (← h)
