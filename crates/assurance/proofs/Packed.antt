-- Each call on packed marks does what it does on wide ones.
use Prim.Native.Nat.{ℕ, zero, suc, ◌+◌, ◌/◌, ◌≤◌, ◌<◌}
use native.Mathlib.Omega.{arith}
use mathlib.Core.Path.{◌≡◌, refl, sym, ◌∙◌, ap}
use mathlib.Core.Bool.{Bool, true, false}
use mathlib.Core.List.{List, [], ◌∷◌}
use lib.ListN.{length, get_or, set, replicate, length-set, length-replicate}
use lib.Seq.{get_or-set_same, get_or-set_other}
use lib.Dec.{eqb, ltb}
use borrow.Author.Tests.{eq-eqb, eqb-true, eqb-false, ltb-true, ltb-false}
use Rattle.answer.specs.Tests.{◌and◌, pick}
use Rattle.address.specs.declared.MemoryAddress.{MemoryAddress}
use Rattle.bitmap.specs.Bits.{bit_of, with_bit_of}
use Rattle.bitmap.proofs.Bits.{bound}
use Rattle.bitmap.proofs.Lists.{get_or_out, own-bit, other-bit}
use Rattle.memory.specs.Shadow.{packed, wide, initialized, marked, shadow_length}
use Rattle.memory.specs.Memory.{Memory, memory_of, Edit, put, clear, edit, edited}
use Rattle.emulator.specs.Machine.{Machine, Emulator, lendable}
use Rattle.emulator.specs.Effect.{Effect, after}
use Rattle.emulator.specs.Calls.{Call, outcome}
use Rattle.emulator.proofs.SameMarks.{shadowed_by, outcome-same}
use Rattle.assurance.specs.Packed.{with_packed, with_wide, Packs, Twins, Equivalence}

-- ---- edits

packs-set : (n : ℕ) (l w : List ℕ) (a : ℕ) (v : Bool) → Packs n l w → Packs n (with_bit_of l a (pick v 1 0)) (set w a (pick v 1 0))
packs-set n l w a v h =
    record {
      packed_length = length-set l _ _ ∙ h.packed_length;
      wide_length = length-set w _ _ ∙ h.wide_length;
      each = λ k b. go k b (eqb k a) refl;
    }
  where
    go : (k : ℕ) → k < n → (t : Bool) → eqb k a ≡ t → bit_of (with_bit_of l a (pick v 1 0)) k ≡ get_or (set w a (pick v 1 0)) k 0
    go k b true e =
        let f = eqb-true k a e in
        rw (f, own-bit l a (pick v 1 0) (bound v) (omega (arith, h.packed_length)), get_or-set_same w a (pick v 1 0) 0 (omega (arith, h.wide_length)))
    go k b false e =
        let f = eqb-false k a e in
        other-bit l a k (pick v 1 0) (bound v) f ∙ h.each k b ∙ sym (get_or-set_other w a k (pick v 1 0) 0 f)

-- two memories that differ in nothing but how they keep their marks
record Two (m n : Memory) : Type 0 where
  bytes : List ℕ
  marks : List ℕ
  wide_marks : List ℕ
  first : m ≡ memory_of bytes marks
  second : n ≡ record { bytes = bytes; shadow = wide wide_marks }
  packs : Packs (length bytes) marks wide_marks

edit-two : (d : Edit) (m n : Memory) → Two m n → Two (edit d m) (edit d n)
unfolding edit marked
edit-two (put a x) m n h =
    let long : length (set h.bytes a.0 x) ≡ length h.bytes = length-set h.bytes a.0 x in
    record {
      bytes = set h.bytes a.0 x;
      marks = with_bit_of h.marks a.0 (pick true 1 0);
      wide_marks = set h.wide_marks a.0 (pick true 1 0);
      first = rw (h.first, long);
      second = rw h.second;
      packs = rw long (packs-set (length h.bytes) h.marks h.wide_marks a.0 true h.packs);
    }
edit-two (clear a) m n h =
    record {
      bytes = h.bytes;
      marks = with_bit_of h.marks a.0 (pick false 1 0);
      wide_marks = set h.wide_marks a.0 (pick false 1 0);
      first = rw h.first;
      second = rw h.second;
      packs = packs-set (length h.bytes) h.marks h.wide_marks a.0 false h.packs;
    }

edited-two : (ds : List Edit) (m n : Memory) → Two m n → Two (edited ds m) (edited ds n)
unfolding edited
edited-two [] m n h = h
edited-two (d ∷ ds) m n h = edited-two ds (edit d m) (edit d n) (edit-two d m n h)

-- ---- calls

module _ (bytes l w : List ℕ) (room : ℕ) (k : Machine) (h : Packs (length bytes) l w) where
  due : length l ≡ shadow_length (packed (length bytes) l) (length bytes)
  unfolding shadow_length
  due = omega (arith, h.packed_length)

  lent_same : lendable (with_wide bytes w room k).memory ≡ lendable (with_packed bytes l room k).memory
  unfolding lendable with_wide with_packed shadow_length
  lent_same =
      rw (eq-eqb (length w) (length bytes) h.wide_length, eq-eqb (length bytes) (length bytes) refl, eq-eqb (length l) (shadow_length (packed (length bytes) l) (length bytes)) due)

  marks-same : (a : MemoryAddress) → initialized (wide w) a ≡ initialized (packed (length bytes) l) a
  unfolding initialized ◌and◌
  marks-same a = go (ltb a.0 (length bytes)) refl
    where
      go : (t : Bool) → ltb a.0 (length bytes) ≡ t → eqb (get_or w a.0 0) 1 ≡ (t and eqb (bit_of l a.0) 1)
      go true d = ap (λ (x : ℕ). eqb x 1) (sym (h.each a.0 (ltb-true _ _ d)))
      go false d = rw (get_or_out w a.0 (omega (arith, ltb-false a.0 (length bytes) d, h.wide_length)))

  calls_same : (c : Call) (buf : List ℕ) → outcome c buf (with_packed bytes l room k) ≡ outcome c buf (with_wide bytes w room k)
  unfolding with_packed with_wide shadowed_by
  calls_same c buf = sym (outcome-same (wide w) (with_packed bytes l room k) lent_same marks-same c buf)

  left-twins : (x : Effect) → Twins (after x (with_packed bytes l room k)) (after x (with_wide bytes w room k))
  unfolding after with_packed with_wide
  left-twins x =
      let two : Two (edited x.edits (memory_of bytes l)) (edited x.edits (record { bytes = bytes; shadow = wide w })) =
      edited-two x.edits _ _ (record { bytes = bytes; marks = l; wide_marks = w; first = refl; second = refl; packs = h }) in
      record {
        bytes = two.bytes;
        room = room;
        machine = x.machine;
        marks = two.marks;
        wide_marks = two.wide_marks;
        first = ap (λ (m : Memory). record { memory = m; room = room; machine = x.machine }) two.first;
        second = ap (λ (m : Memory). record { memory = m; room = room; machine = x.machine }) two.second;
        packs = two.packs;
      }

calls : (c : Call) (buf : List ℕ) (e f : Emulator) → Twins e f
    → (outcome c buf e ≡ outcome c buf f) × Twins (after (outcome c buf e).effect e) (after (outcome c buf f).effect f)
calls c buf e f t =
    let same = calls_same t.bytes t.marks t.wide_marks t.room t.machine t.packs c buf in
    rw (t.first, t.second) (same, rw (← same) (left-twins t.bytes t.marks t.wide_marks t.room t.machine t.packs _))

-- ---- all wide marks, and all packed ones

unfoldable pack : List ℕ → ℕ → List ℕ
pack w zero = replicate ((length w + 7) / 8) 0
pack w (suc k) = with_bit_of (pack w k) k (get_or w k 0)

pack-length : (w : List ℕ) (k : ℕ) → length (pack w k) ≡ (length w + 7) / 8
unfolding pack
pack-length w zero = length-replicate ((length w + 7) / 8) 0
pack-length w (suc k) = length-set (pack w k) _ _ ∙ pack-length w k

pack-at : (w : List ℕ) → ((a : ℕ) → a < length w → get_or w a 0 ≤ 1) → (k : ℕ) → k ≤ length w → (i : ℕ) → i < k → bit_of (pack w k) i ≡ get_or w i 0
unfolding pack
pack-at w small zero r i h = absurd (omega arith)
pack-at w small (suc k) r i h = go (eqb i k) refl (pack-at w small k (omega arith) i)
  where
    go : (t : Bool) → eqb i k ≡ t → (i < k → bit_of (pack w k) i ≡ get_or w i 0) → bit_of (with_bit_of (pack w k) k (get_or w k 0)) i ≡ get_or w i 0
    go true e before =
        let f = eqb-true i k e in
        rw (f, own-bit (pack w k) k (get_or w k 0) (small k (omega arith)) (omega (arith, pack-length w k)))
    go false e before =
        let f = eqb-false i k e in
        other-bit (pack w k) k i (get_or w k 0) (small k (omega arith)) f ∙ before (omega arith)

-- the `n` bits from `a` on, one to a byte
unfoldable widen : List ℕ → ℕ → ℕ → List ℕ
widen l a zero = []
widen l a (suc n) = bit_of l a ∷ widen l (a + 1) n

widen-length : (l : List ℕ) (a n : ℕ) → length (widen l a n) ≡ n
unfolding widen
widen-length l a zero = refl
widen-length l a (suc n) = ap suc (widen-length l (a + 1) n)

widen-at : (l : List ℕ) (a n i : ℕ) → i < n → bit_of l (a + i) ≡ get_or (widen l a n) i 0
unfolding widen
widen-at l a zero i h = absurd (omega arith)
widen-at l a (suc n) zero h = let e : a + 0 ≡ a = omega arith in rw e
widen-at l a (suc n) (suc i) h = let e : a + suc i ≡ a + 1 + i = omega arith in rw e (widen-at l (a + 1) n i (omega arith))

twins : (bytes l w : List ℕ) (room : ℕ) (k : Machine) → Packs (length bytes) l w → Twins (with_packed bytes l room k) (with_wide bytes w room k)
twins bytes l w room k h = record { bytes = bytes; room = room; machine = k; marks = l; wide_marks = w; first = refl; second = refl; packs = h }

pub equivalence : Equivalence
equivalence =
    record {
      calls = calls;
      packing = λ bytes w room k long small. (
        pack w (length w),
        twins bytes (pack w (length w)) w room k
            (record {
              packed_length = rw (← long) (pack-length w (length w));
              wide_length = long;
              each = λ a b. pack-at w small (length w) (omega arith) a (omega arith);
            }),
      );
      widening = λ bytes l room k long. (
        widen l 0 (length bytes),
        twins bytes l (widen l 0 (length bytes)) room k
            (record {
              packed_length = long;
              wide_length = widen-length l 0 (length bytes);
              each = λ a b. let e : 0 + a ≡ a = omega arith in rw e at (widen-at l 0 (length bytes) a b);
            }),
      );
    }
