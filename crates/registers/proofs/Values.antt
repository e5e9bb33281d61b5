-- Laws of what a value must satisfy.
use Prim.Native.Nat.{ℕ, zero, suc, ◌+◌, ◌*◌, ◌%◌, ◌≤◌, ◌<◌}
use native.Mathlib.Omega.{arith}
use mathlib.Core.Path.{◌≡◌, refl}
use mathlib.Core.Bool.{Bool, true, false}
use mathlib.Core.List.{List, []}
use lib.ListN.{length}
use lib.Dec.{eqb, leb, ltb}
use borrow.Author.Tests.{eq-eqb, leb-true, le-leb, eqb-true, ltb-true, ltb-false}
use Rattle.answer.specs.Tests.{◌and◌, ◌or◌, pick}
use Rattle.answer.specs.Codes.{Value, Mismatch}
use Rattle.answer.specs.Checks.{Verdict, Pass, Fail, ◌then◌, ◌when◌, ◌unless◌, passes}
use Rattle.answer.proofs.Tests.{and_true, and_made, same_test, below}
use Rattle.answer.proofs.Checks.{then_pass, unless_pass}
use Rattle.wire.specs.Field.{field}
use Rattle.wire.proofs.Laws.{field_split}
use Rattle.registers.specs.Rows.{row_count, status_row, kind_of, width_of, size_in, size_of}
use Rattle.registers.specs.Values.{each_word, within, valid_size, valid_queue, valid_notify, content_checks, value_checks}
use Rattle.registers.proofs.Rows.{in_range_lem}

-- ---- the order of the checks

-- a second value of the wrong length is refused for its length
pub length-first : (w : ℕ) → value_checks w status_row true [] ≡ Fail Value 0
unfolding value_checks size_of size_in width_of ◌then◌ ◌unless◌
length-first w = refl

-- ---- a queue's value

-- what a valid one satisfies
pub record Queue (v : List ℕ) : Type 0 where
  pub size : valid_size (field v 0 2) (field v 4 2) ≡ true
  pub enabled : field v 4 2 ≤ 1
  pub reserved : field v 6 2 ≡ 0
  pub descriptors : field v 8 8 % 16 ≡ 0
  pub driver : field v 16 8 % 2 ≡ 0
  pub device : field v 24 8 % 4 ≡ 0

pub queue_says : (v : List ℕ) → valid_queue v ≡ true → Queue v
unfolding valid_queue
queue_says v h =
    let a = and_true _ _ h in
    let b = and_true _ _ a.0 in
    let c = and_true _ _ b.0 in
    let d = and_true _ _ c.0 in
    let e = and_true _ _ d.0 in
    record {
      size = e.0;
      enabled = leb-true _ _ e.1;
      reserved = eqb-true _ _ d.1;
      descriptors = eqb-true _ _ c.1;
      driver = eqb-true _ _ b.1;
      device = eqb-true _ _ a.1;
    }

-- enabled and reserved, read as one number
queue-state : (v : List ℕ) → field v 4 4 ≡ field v 4 2 + 65536 * field v 6 2
queue-state v = field_split v 4 2 2

-- the code's tests: enabled and reserved are small as one number, and the remainders have no sum
pub queue-tested : (v : List ℕ) → (valid_size (field v 0 2) (field v 4 4) and leb (field v 4 4) 1 and eqb (field v 8 8 % 16 + field v 16 8 % 2 + field v 24 8 % 4) 0) ≡ valid_queue v
unfolding valid_queue
queue-tested v =
    let s = queue-state v in
    same_test _ _
    (λ t.
    let a = and_true _ _ t in
    let b = and_true _ _ a.0 in
    let small : field v 4 4 ≤ 1 = leb-true _ _ b.1 in
    let sum : field v 8 8 % 16 + field v 16 8 % 2 + field v 24 8 % 4 ≡ 0 = eqb-true _ _ a.1 in
    let low : field v 4 4 ≡ field v 4 2 = omega arith in
    let enabled : field v 4 2 ≤ 1 = omega arith in
    let reserved : field v 6 2 ≡ 0 = omega arith in
    let descriptors : field v 8 8 % 16 ≡ 0 = omega arith in
    let driver : field v 16 8 % 2 ≡ 0 = omega arith in
    let device : field v 24 8 % 4 ≡ 0 = omega arith in
    let flags = and_made _ _ (and_made _ _ (rw low at b.0) (le-leb _ _ enabled)) (eq-eqb _ _ reserved) in
    and_made _ _ (and_made _ _ (and_made _ _ flags (eq-eqb _ _ descriptors)) (eq-eqb _ _ driver)) (eq-eqb _ _ device))
    (λ t.
    let q = queue_says v t in
    let low : field v 4 2 ≡ field v 4 4 = omega arith in
    let small : field v 4 4 ≤ 1 = omega arith in
    let sum : field v 8 8 % 16 + field v 16 8 % 2 + field v 24 8 % 4 ≡ 0 = omega arith in
    and_made _ _ (and_made _ _ (rw low at q.size) (le-leb _ _ small)) (eq-eqb _ _ sum))

-- ---- what a value holds, row by row

pub unless-passes : (code : ℕ) (t : Bool) → passes (code unless t) ≡ t
unfolding passes ◌unless◌
unless-passes code true = refl
unless-passes code false = refl

pub content-features : (w i : ℕ) (v : List ℕ) → i < 2 → content_checks w (kind_of i) v ≡ (Mismatch unless each_word (pick (eqb i 0) eqb within) w v)
unfolding content_checks kind_of pick
content-features w zero v h = refl
content-features w (suc zero) v h = refl
content-features w (suc (suc i)) v h = absurd (omega arith)

module _ (w i : ℕ) (v : List ℕ) where
  pub content-free : 2 ≤ i → i < 7 → content_checks w (kind_of i) v ≡ Pass
  unfolding content_checks kind_of pick below ◌and◌ ◌or◌
  content-free low high = go (ltb i 6) refl
    where
      go : (t : Bool) → ltb i 6 ≡ t → content_checks w (kind_of i) v ≡ Pass
      go true e = rw (← in_range_lem kind_of 0x102 2 6 refl i low (ltb-true _ _ e))
      go false e = rw (← in_range_lem kind_of 0x103 6 7 refl i (ltb-false _ _ e) high)

  pub content-queue : 7 ≤ i → i < 11 → content_checks w (kind_of i) v ≡ (Value unless valid_queue v)
  unfolding content_checks kind_of pick below ◌and◌ ◌or◌
  content-queue low high = rw (← in_range_lem kind_of 0x104 7 11 refl i low high)

  pub content-notify : 11 ≤ i → i < 15 → content_checks w (kind_of i) v ≡ (Value unless valid_notify v)
  unfolding content_checks kind_of pick below ◌and◌ ◌or◌
  content-notify low high = rw (← in_range_lem kind_of 0x105 11 15 refl i low high)

  -- a value that breaks its row's rule is refused by one number for each row
  pub content-coded : i < row_count → (pick (ltb i 2) Mismatch Value unless passes (content_checks w (kind_of i) v)) ≡ content_checks w (kind_of i) v
  unfolding pick passes ◌unless◌
  content-coded h = go (ltb i 2) (ltb i 7) (ltb i 11) refl refl refl
    where
      coded : (code : ℕ) (x : Verdict) (t : Bool) → x ≡ (code unless t) → (code unless passes x) ≡ x
      coded code x t e = rw (e, unless-passes code t)

      go : (a b c : Bool) → ltb i 2 ≡ a → ltb i 7 ≡ b → ltb i 11 ≡ c → (pick a Mismatch Value unless passes (content_checks w (kind_of i) v)) ≡ content_checks w (kind_of i) v
      go true b c p q r = coded Mismatch (content_checks w (kind_of i) v) (each_word (pick (eqb i 0) eqb within) w v) (content-features w i v (ltb-true _ _ p))
      go false true c p q r = coded Value (content_checks w (kind_of i) v) true (content-free (ltb-false _ _ p) (ltb-true _ _ q))
      go false false true p q r = coded Value (content_checks w (kind_of i) v) (valid_queue v) (content-queue (ltb-false _ _ q) (ltb-true _ _ r))
      go false false false p q r = coded Value (content_checks w (kind_of i) v) (valid_notify v) (content-notify (ltb-false _ _ r) h)

-- ---- all checks of a value

-- what it holds decides, where its size is right and it came once
pub value-content : (w i : ℕ) (v : List ℕ) → length v ≡ size_of w i → value_checks w i false v ≡ content_checks w (kind_of i) v
unfolding value_checks ◌then◌ ◌unless◌ ◌when◌
value-content w i v e = rw (eq-eqb _ _ e)

pub value-size : (w i : ℕ) (twice : Bool) (v : List ℕ) → value_checks w i twice v ≡ Pass → length v ≡ size_of w i
unfolding value_checks
value-size w i twice v h = eqb-true _ _ (unless_pass _ _ (then_pass _ _ h).0)
