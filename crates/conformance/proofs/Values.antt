-- The rule for each byte of a value: all bytes of a good value are good (so no later byte repairs a wrong one), a value of good bytes is
-- good, and good bytes with zeros behind them stay good (so every beginning can be completed).
use Prim.Native.Nat.{ℕ, zero, suc, ◌+◌, ◌*◌, ◌-◌, ◌%◌, ◌^◌, ◌≤◌, ◌<◌}
use native.Mathlib.Omega.{arith}
use mathlib.Core.Path.{◌≡◌, refl, sym, ◌∙◌, ap}
use mathlib.Core.Bool.{Bool, true, false, false≢true}
use mathlib.Core.List.{List, ◌++◌}
use mathlib.Core.Option.{some}
use mathlib.Core.Logic.{◌⊎◌, inl, inr, ⊎_elim}
use lib.ListN.{length, get_or, take, replicate, get_elem?, length-append, length-replicate, get_or-replicate, get_or-append}
use lib.Seq.{length-take-le, get_or-take, get_or-append-add, ext_get_or}
use lib.Dec.{eqb, leb, ltb}
use lib.Bits.{bit_and, and_zero_l}
use lib.Pow.{pow_pos}
use borrow.Author.Tests.{eq-eqb, eqb-true, eqb-false, ne_eqb, leb-true, le-leb, ltb-true, ltb-false, lt-ltb, le-ltb}
use Rattle.answer.specs.Tests.{◌and◌, ◌or◌, pick}
use Rattle.answer.specs.Checks.{Pass}
use Rattle.answer.proofs.Tests.{and_true, and_made, or_left, pick_true, pick_false, below}
use Rattle.answer.proofs.Checks.{unless_pass, unless_true}
use Rattle.wire.specs.Field.{field}
use Rattle.registers.specs.Cards.{word_room}
use Rattle.registers.specs.Rows.{row_count, kind_of, size_of, size_in, width_of}
use Rattle.registers.specs.Values.{offered, within, power_of_two, valid_size, valid_queue, valid_notify, content_checks}
use Rattle.registers.proofs.PowersOfTwo.{power-most}
use Rattle.registers.proofs.Rows.{in_range_lem, features-size}
use Rattle.registers.proofs.Features.{offered-length, offered-take}
use Rattle.registers.proofs.Values.{Queue, queue_says, content-features, content-free, content-queue, content-notify}
use Rattle.registers.proofs.File.{none≢some}
use Rattle.conformance.specs.Saves.{Bytes}
use Rattle.conformance.specs.Bytes.{offered_byte, queue_byte, good_byte}
use Rattle.conformance.proofs.Lists.{Alike, Apart, elem_in, elem_out, elem_append, elem_take, same-value, apart_more, alike_or_apart}
use Rattle.conformance.proofs.Digits.{Digits, digits_equal, digits_within, words-bytes, bytes-words, bytes-append, bytes_take, bytes-zeros, bytes-offered}

-- ---- tests by cases

pick-holds : (t a b : Bool) → (t ≡ true → a ≡ true) → (t ≡ false → b ≡ true) → pick t a b ≡ true
unfolding pick
pick-holds true a b p q = p refl
pick-holds false a b p q = q refl

or_cases : (s t : Bool) → (s or t) ≡ true → (s ≡ true) ⊎ (t ≡ true)
unfolding ◌or◌
or_cases true t h = inl refl
or_cases false t h = inr h

or_right : (s t : Bool) → t ≡ true → (s or t) ≡ true
unfolding ◌or◌
or_right true t h = refl
or_right false t h = h

at-index : (test : ℕ → Bool) (j k : ℕ) → eqb j k ≡ true → test k ≡ true → test j ≡ true
at-index test j k e h = ap test (eqb-true j k e) ∙ h

-- ---- a queue's bytes

-- a size that a queue may have, by its bytes: 256, a power of two below it, or 0 where the queue is not enabled
data Size (low high enabled : ℕ) : Type 0 where
  largest : low ≡ 0 → high ≡ 1 → Size low high enabled
  smaller : power_of_two 8 low ≡ true → high ≡ 0 → (low ≡ 0 → ⊥) → Size low high enabled
  unavailable : low ≡ 0 → high ≡ 0 → enabled ≡ 0 → Size low high enabled

power-some : (m n : ℕ) → power_of_two m n ≡ true → 1 ≤ n
unfolding power_of_two
power-some zero n h = omega (arith, eqb-true n 1 h)
power-some (suc m) n h = ⊎_elim (λ e. omega (arith, eqb-true n (2 ^ suc m) e, pow_pos (suc m))) (power-some m n) (or_cases _ _ h)

power-at_most : (m n : ℕ) → power_of_two m n ≡ true → n ≤ 2 ^ m
power-at_most m n p = go (ltb (2 ^ m) n) refl
  where
    go : (t : Bool) → ltb (2 ^ m) n ≡ t → n ≤ 2 ^ m
    go true e = absurd (false≢true (sym (power-most m n (ltb-true _ _ e)) ∙ p))
    go false e = ltb-false _ _ e

size-bytes : (low high enabled : ℕ) → low < 256 → valid_size (low + 256 * high) enabled ≡ true → Size low high enabled
size-bytes low high enabled l h = ⊎_elim power none (or_cases _ _ h)
  where
    power : power_of_two 8 (low + 256 * high) ≡ true → Size low high enabled
    power p = go (ltb (low + 256 * high) 256) refl
      where
        go : (t : Bool) → ltb (low + 256 * high) 256 ≡ t → Size low high enabled
        go true e =
            let lt = ltb-true (low + 256 * high) 256 e in
            let same : low + 256 * high ≡ low = omega arith in
            smaller (rw same at p) (omega arith) (λ n. omega (arith, power-some 8 (low + 256 * high) p))
        go false e =
            let ge = ltb-false (low + 256 * high) 256 e in
            let le = power-at_most 8 (low + 256 * high) p in
            largest (omega arith) (omega arith)

    none : (eqb (low + 256 * high) 0 and eqb enabled 0) ≡ true → Size low high enabled
    none p = let b = and_true _ _ p in let z = eqb-true (low + 256 * high) 0 b.0 in unavailable (omega arith) (omega arith) (eqb-true enabled 0 b.1)

bytes-size : (low high enabled : ℕ) → Size low high enabled → valid_size (low + 256 * high) enabled ≡ true
unfolding power_of_two ◌or◌ ◌and◌
bytes-size low high enabled (largest a b) = rw (a, b)
bytes-size low high enabled (smaller p b n) = let e : low + 256 * high ≡ low = omega arith in rw e (or_left _ _ p)
bytes-size low high enabled (unavailable a b c) = rw (a, b, c)

module _ (v : List ℕ) (vb : Bytes v) where
  low_byte : Size (get_or v 0 0) (get_or v 1 0) (field v 4 2) → (eqb (get_or v 0 0) 0 or power_of_two 8 (get_or v 0 0)) ≡ true
  low_byte (largest a b) = or_left _ _ (eq-eqb _ _ a)
  low_byte (smaller p b n) = or_right _ _ p
  low_byte (unavailable a b c) = or_left _ _ (eq-eqb _ _ a)

  high_byte : Size (get_or v 0 0) (get_or v 1 0) (field v 4 2) → get_or v 1 0 ≤ pick (eqb (get_or v 0 0) 0) 1 0
  unfolding pick
  high_byte (largest a b) = rw (eq-eqb _ _ a) (omega arith)
  high_byte (smaller p b n) = rw (ne_eqb _ _ n) (omega arith)
  high_byte (unavailable a b c) = rw (eq-eqb _ _ a) (omega arith)

  enabled-byte : Size (get_or v 0 0) (get_or v 1 0) (field v 4 2) → get_or v 4 0 ≤ 1 → get_or v 4 0 ≤ pick (eqb (field v 0 2) 0) 0 1
  unfolding pick field
  enabled-byte (largest a b) l = rw (ne_eqb (field v 0 2) 0 (λ e. omega arith)) l
  enabled-byte (smaller p b n) l = rw (ne_eqb (field v 0 2) 0 (λ e. n (omega arith))) l
  enabled-byte (unavailable a b c) l = rw (eq-eqb (field v 0 2) 0 (omega arith)) (omega arith)

  two : (a : ℕ) → field v a 2 ≡ get_or v a 0 + 256 * get_or v (suc a) 0
  unfolding field
  two a = omega arith

  size_of-queue : Queue v → Size (get_or v 0 0) (get_or v 1 0) (field v 4 2)
  size_of-queue q = size-bytes (get_or v 0 0) (get_or v 1 0) (field v 4 2) (vb 0) (rw (two 0) at q.size)

  queue_of-size : Size (get_or v 0 0) (get_or v 1 0) (field v 4 2) → valid_size (field v 0 2) (field v 4 2) ≡ true
  queue_of-size s = rw (two 0) (bytes-size (get_or v 0 0) (get_or v 1 0) (field v 4 2) s)

  -- the bytes of a good queue
  queue-bytes : valid_queue v ≡ true → (j : ℕ) → queue_byte v j ≡ true
  unfolding queue_byte field
  queue-bytes h j =
      let q = queue_says v h in
      let size = size_of-queue q in
      pick-holds _ _ _ (λ e. rw (eqb-true j 0 e) (low_byte size))
      (λ e₀. pick-holds _ _ _ (λ e. rw (eqb-true j 1 e) (le-leb _ _ (high_byte size)))
      (λ e₁. pick-holds _ _ _ (λ e. rw (eqb-true j 4 e) (le-leb _ _ (enabled-byte size (omega (arith, q.enabled, vb 4)))))
      (λ e₄. pick-holds _ _ _ (λ e. let b = and_true _ _ e in eq-eqb _ 0 (reserved q (leb-true _ _ b.0) (leb-true _ _ b.1)))
      (λ e₅. pick-holds _ _ _ (λ e. at-index (λ k. eqb (get_or v k 0 % 16) 0) j 8 e (eq-eqb (get_or v 8 0 % 16) 0 (omega (arith, q.descriptors))))
      (λ e₆. pick-holds _ _ _ (λ e. at-index (λ k. eqb (get_or v k 0 % 2) 0) j 16 e (eq-eqb (get_or v 16 0 % 2) 0 (omega (arith, q.driver))))
      (λ e₇. pick-holds _ _ _ (λ e. at-index (λ k. eqb (get_or v k 0 % 4) 0) j 24 e (eq-eqb (get_or v 24 0 % 4) 0 (omega (arith, q.device))))
      (λ e₈. refl)))))))
    where
      reserved : Queue v → 5 ≤ j → j ≤ 7 → get_or v j 0 ≡ 0
      reserved q l u = go (eqb j 5) (eqb j 6) refl refl
        where
          go : (s t : Bool) → eqb j 5 ≡ s → eqb j 6 ≡ t → get_or v j 0 ≡ 0
          go true t e f = rw (eqb-true j 5 e) (omega (arith, q.enabled))
          go false true e f = rw (eqb-true j 6 f) (omega (arith, q.reserved))
          go false false e f = let k : j ≡ 7 = omega (arith, eqb-false j 5 e, eqb-false j 6 f) in rw k (omega (arith, q.reserved))

  -- and the other way round
  bytes-queue : ((j : ℕ) → j < 32 → queue_byte v j ≡ true) → valid_queue v ≡ true
  unfolding queue_byte valid_queue field pick ◌and◌
  bytes-queue h =
      let high = leb-true _ _ (h 1 (omega arith)) in
      let enabled = leb-true _ _ (h 4 (omega arith)) in
      let five : get_or v 5 0 ≡ 0 = eqb-true _ _ (h 5 (omega arith)) in
      let six : get_or v 6 0 ≡ 0 = eqb-true _ _ (h 6 (omega arith)) in
      let seven : get_or v 7 0 ≡ 0 = eqb-true _ _ (h 7 (omega arith)) in
      let a : get_or v 8 0 % 16 ≡ 0 = eqb-true _ _ (h 8 (omega arith)) in
      let b : get_or v 16 0 % 2 ≡ 0 = eqb-true _ _ (h 16 (omega arith)) in
      let c : get_or v 24 0 % 4 ≡ 0 = eqb-true _ _ (h 24 (omega arith)) in
      let flags = and_made _ _ (and_made _ _ (queue_of-size (size (h 0 (omega arith)) high enabled five)) (le-leb (field v 4 2) 1 (omega (arith, at_most enabled)))) (eq-eqb (field v 6 2) 0 (omega arith)) in
      and_made _ _ (and_made _ _ (and_made _ _ flags (eq-eqb (field v 8 8 % 16) 0 (omega arith))) (eq-eqb (field v 16 8 % 2) 0 (omega arith))) (eq-eqb (field v 24 8 % 4) 0 (omega arith))
    where
      at_most : get_or v 4 0 ≤ pick (eqb (field v 0 2) 0) 0 1 → get_or v 4 0 ≤ 1
      at_most l = go (eqb (field v 0 2) 0) l
        where
          go : (t : Bool) → get_or v 4 0 ≤ pick t 0 1 → get_or v 4 0 ≤ 1
          go true l = omega arith
          go false l = l

      size : (eqb (get_or v 0 0) 0 or power_of_two 8 (get_or v 0 0)) ≡ true → get_or v 1 0 ≤ pick (eqb (get_or v 0 0) 0) 1 0 → get_or v 4 0 ≤ pick (eqb (field v 0 2) 0) 0 1 → get_or v 5 0 ≡ 0
          → Size (get_or v 0 0) (get_or v 1 0) (field v 4 2)
      size low high enabled five = go (eqb (get_or v 0 0) 0) refl (eqb (get_or v 1 0) 0) refl
        where
          go : (s : Bool) → eqb (get_or v 0 0) 0 ≡ s → (t : Bool) → eqb (get_or v 1 0) 0 ≡ t → Size (get_or v 0 0) (get_or v 1 0) (field v 4 2)
          go true e true f =
              let l = eqb-true (get_or v 0 0) 0 e in
              let u = eqb-true (get_or v 1 0) 0 f in
              let z : get_or v 4 0 ≤ 0 = rw (eq-eqb (field v 0 2) 0 (omega arith)) at enabled in
              unavailable l u (omega arith)
          go true e false f = let u : get_or v 1 0 ≤ 1 = rw e at high in largest (eqb-true _ _ e) (omega (arith, eqb-false (get_or v 1 0) 0 f))
          go false e t f =
              let u : get_or v 1 0 ≤ 0 = rw e at high in
              smaller (⊎_elim (λ z. absurd (false≢true (sym e ∙ z))) (λ p. p) (or_cases _ _ low)) (omega arith) (eqb-false _ _ e)

-- ---- a notify value's bytes

module _ (v : List ℕ) where
  notify-bytes : valid_notify v ≡ true → (j : ℕ) → j < 8 → (ltb j 4 or eqb (get_or v j 0) 0) ≡ true
  unfolding valid_notify field
  notify-bytes h j l = go (ltb j 4) refl
    where
      zero-at : field v 4 4 ≡ 0 → (k : ℕ) → k < 4 → get_or v (4 + k) 0 ≡ 0
      zero-at e zero l = omega arith
      zero-at e (suc zero) l = omega arith
      zero-at e (suc (suc zero)) l = omega arith
      zero-at e (suc (suc (suc zero))) l = omega arith
      zero-at e (suc (suc (suc (suc k)))) l = absurd (omega arith)

      go : (t : Bool) → ltb j 4 ≡ t → (t or eqb (get_or v j 0) 0) ≡ true
      go true e = or_left _ _ refl
      go false e =
          let ge = ltb-false j 4 e in
          let k : 4 + (j - 4) ≡ j = omega arith in
          or_right _ _ (eq-eqb _ _ (rw k at (zero-at (eqb-true (field v 4 4) 0 h) (j - 4) (omega arith))))

  bytes-notify : ((j : ℕ) → j < 8 → (ltb j 4 or eqb (get_or v j 0) 0) ≡ true) → valid_notify v ≡ true
  unfolding valid_notify field ◌or◌
  bytes-notify h =
      let a : get_or v 4 0 ≡ 0 = eqb-true _ _ (h 4 (omega arith)) in
      let b : get_or v 5 0 ≡ 0 = eqb-true _ _ (h 5 (omega arith)) in
      let c : get_or v 6 0 ≡ 0 = eqb-true _ _ (h 6 (omega arith)) in
      let d : get_or v 7 0 ≡ 0 = eqb-true _ _ (h 7 (omega arith)) in
      eq-eqb (field v 4 4) 0 (omega arith)

-- ---- a value of any row

exact : (i : ℕ) → Digits (pick (eqb i 0) eqb within)
unfolding pick
exact i = go (eqb i 0)
  where
    go : (t : Bool) → Digits (pick t eqb within)
    go true = digits_equal
    go false = digits_within

-- the ranges of rows that have one rule
data Range (i : ℕ) : Type 0 where
  features : i < 2 → Range i
  free : 2 ≤ i → i < 7 → Range i
  queue : 7 ≤ i → i < 11 → Range i
  notify : 11 ≤ i → Range i

range : (i : ℕ) → Range i
range i = go (ltb i 2) (ltb i 7) (ltb i 11) refl refl refl
  where
    go : (a b c : Bool) → ltb i 2 ≡ a → ltb i 7 ≡ b → ltb i 11 ≡ c → Range i
    go true b c p q r = features (ltb-true i 2 p)
    go false true c p q r = free (ltb-false i 2 p) (ltb-true i 7 q)
    go false false true p q r = queue (ltb-false i 7 q) (ltb-true i 11 r)
    go false false false p q r = notify (ltb-false i 11 r)

-- the rule for each byte there
module _ (i : ℕ) (v : List ℕ) (j : ℕ) where
  pub byte-features : i < 2 → good_byte i v j ≡ pick (eqb i 0) eqb within (get_or v j 0) (offered_byte j)
  unfolding good_byte
  byte-features h = pick_true _ _ _ (lt-ltb i 2 h)

  pub byte-free : 2 ≤ i → i < 7 → good_byte i v j ≡ true
  unfolding good_byte
  byte-free l h = pick_false _ _ _ (le-ltb i 2 l) ∙ pick_true _ _ _ (lt-ltb i 7 h)

  pub byte-queue : 7 ≤ i → i < 11 → good_byte i v j ≡ queue_byte v j
  unfolding good_byte
  byte-queue l h = pick_false _ _ _ (le-ltb i 2 (omega arith)) ∙ pick_false _ _ _ (le-ltb i 7 l) ∙ pick_true _ _ _ (lt-ltb i 11 h)

  pub byte-notify : 11 ≤ i → good_byte i v j ≡ (ltb j 4 or eqb (get_or v j 0) 0)
  unfolding good_byte
  byte-notify l = pick_false _ _ _ (le-ltb i 2 (omega arith)) ∙ pick_false _ _ _ (le-ltb i 7 (omega arith)) ∙ pick_false _ _ _ (le-ltb i 11 l)

module _ (w : ℕ) (small : w ≤ word_room) (i : ℕ) (lt : i < row_count) (v : List ℕ) (vb : Bytes v) where
  -- Each byte of a good value is good.
  pub good-bytes : content_checks w (kind_of i) v ≡ Pass → (j : ℕ) → j < size_of w i → good_byte i v j ≡ true
  unfolding size_of size_in width_of below ◌and◌ ◌or◌
  good-bytes h j l = go (range i)
    where
      go : Range i → good_byte i v j ≡ true
      go (features a) =
          byte-features i v j a ∙ words-bytes _ (exact i) w small v vb (unless_pass _ _ (sym (content-features w i v a) ∙ h)) j (omega (arith, features-size w i a))
      go (free a b) = byte-free i v j a b
      go (queue a b) = byte-queue i v j a b ∙ queue-bytes v vb (unless_pass _ _ (sym (content-queue w i v a b) ∙ h)) j
      go (notify a) =
          byte-notify i v j a ∙ notify-bytes v (unless_pass _ _ (sym (content-notify w i v a lt) ∙ h)) j (omega (arith, in_range_lem (size_of w) 8 11 15 refl i a lt))

  -- A value whose bytes are good is good.
  pub bytes_good : ((j : ℕ) → j < size_of w i → good_byte i v j ≡ true) → content_checks w (kind_of i) v ≡ Pass
  unfolding size_of size_in width_of below ◌and◌ ◌or◌
  bytes_good h = go (range i)
    where
      go : Range i → content_checks w (kind_of i) v ≡ Pass
      go (features a) =
          content-features w i v a ∙ unless_true _ _ (bytes-words _ (exact i) w small v vb (λ j l. sym (byte-features i v j a) ∙ h j (omega (arith, features-size w i a))))
      go (free a b) = content-free w i v a b
      go (queue a b) =
          content-queue w i v a b ∙ unless_true _ _ (bytes-queue v vb (λ j l. sym (byte-queue i v j a b) ∙ h j (omega (arith, in_range_lem (size_of w) 32 7 11 refl i a b))))
      go (notify a) =
          content-notify w i v a lt ∙ unless_true _ _ (bytes-notify v (λ j l. sym (byte-notify i v j a) ∙ h j (omega (arith, in_range_lem (size_of w) 8 11 15 refl i a lt))))

-- ---- beginnings of values

-- the rule looks at no later byte
module _ (v h : List ℕ) (j : ℕ) (same : (k : ℕ) → k ≤ j → get_or v k 0 ≡ get_or h k 0) where
  first-local : j ≡ 0 → queue_byte v j ≡ queue_byte h j
  unfolding queue_byte pick
  first-local e = rw (e, same 0 (omega arith))

  queue-local : queue_byte v j ≡ queue_byte h j
  unfolding queue_byte field
  queue-local = go (eqb j 0) refl
    where
      go : (t : Bool) → eqb j 0 ≡ t → queue_byte v j ≡ queue_byte h j
      go true e = first-local (eqb-true j 0 e)
      go false e = let low = same 0 (omega arith) in let high = same 1 (omega (arith, eqb-false j 0 e)) in rw (same j (omega arith), low, high)

  pub byte-local : (i : ℕ) → good_byte i v j ≡ good_byte i h j
  unfolding good_byte
  byte-local i = rw (same j (omega arith), queue-local)

-- 0 is good but in offered features
zero-leb : (x n : ℕ) → x ≡ 0 → leb x n ≡ true
zero-leb x n e = le-leb x n (omega arith)

zero-queue : (v : List ℕ) (j : ℕ) → get_or v j 0 ≡ 0 → queue_byte v j ≡ true
unfolding queue_byte
zero-queue v j z =
    pick-holds _ _ _ (λ e. or_left _ _ (eq-eqb _ _ z))
    (λ e₀. pick-holds _ _ _ (λ e. zero-leb _ _ z)
    (λ e₁. pick-holds _ _ _ (λ e. zero-leb _ _ z)
    (λ e₄. pick-holds _ _ _ (λ e. eq-eqb _ _ z)
    (λ e₅. pick-holds _ _ _ (λ e. eq-eqb (get_or v j 0 % 16) 0 (omega arith))
    (λ e₆. pick-holds _ _ _ (λ e. eq-eqb (get_or v j 0 % 2) 0 (omega arith))
    (λ e₇. pick-holds _ _ _ (λ e. eq-eqb (get_or v j 0 % 4) 0 (omega arith))
    (λ e₈. refl)))))))

zero-within : (i o : ℕ) → 1 ≤ i → pick (eqb i 0) eqb within 0 o ≡ true
unfolding within
zero-within i o l =
    ap (λ (test : ℕ → ℕ → Bool). test 0 o) (pick_false _ eqb within (ne_eqb i 0 (λ e. omega arith))) ∙ eq-eqb (bit_and 0 o) 0 (and_zero_l o)

zero-good : (i : ℕ) (v : List ℕ) (j : ℕ) → 1 ≤ i → get_or v j 0 ≡ 0 → good_byte i v j ≡ true
zero-good i v j l z = go (range i)
  where
    go : Range i → good_byte i v j ≡ true
    go (features a) = byte-features i v j a ∙ rw z (zero-within i (offered_byte j) l)
    go (free a b) = byte-free i v j a b
    go (queue a b) = byte-queue i v j a b ∙ zero-queue v j z
    go (notify a) = byte-notify i v j a ∙ or_right _ _ (eq-eqb _ _ z)

-- a value that begins with the first `m` bytes of `h`
pub record Filled (w i : ℕ) (h : List ℕ) (m : ℕ) : Type 0 where
  pub value : List ℕ
  pub long : length value ≡ size_of w i
  pub bytes : Bytes value
  pub good : content_checks w (kind_of i) value ≡ Pass
  pub alike : Alike value h m

offered-byte : (w : ℕ) → w ≤ word_room → (j : ℕ) → j < 8 * w → get_or (offered w) j 0 ≡ offered_byte j
unfolding offered_byte
offered-byte w small j l = ap (λ (o : List ℕ). get_or o j 0) (sym (offered-take w word_room small)) ∙ get_or-take (8 * w) (offered word_room) j 0 l

module _ (w : ℕ) (small : w ≤ word_room) where
  -- in row 0 a good value is what is offered
  pub offered_only : (v : List ℕ) → Bytes v → length v ≡ size_of w 0 → content_checks w (kind_of 0) v ≡ Pass → v ≡ offered w
  unfolding pick
  offered_only v vb long h =
      let size = features-size w 0 (omega arith) in
      ext_get_or 0 v (offered w) (omega (arith, offered-length w))
      (λ j l. eqb-true _ _ (sym (byte-features 0 v j (omega arith)) ∙ good-bytes w small 0 (omega arith) v vb h j (omega arith)) ∙ sym (offered-byte w small j (omega arith)))

  module _ (i : ℕ) (lt : i < row_count) (h : List ℕ) (hb : Bytes h) (m : ℕ) (fits : m ≤ size_of w i) (inside : m ≤ length h) (each : (j : ℕ) → j < m → good_byte i h j ≡ true) where
    features-filled : i ≡ 0 → Filled w i h m
    unfolding pick
    features-filled z =
        let size = features-size w 0 (omega arith) in
        let same : (j : ℕ) → j < m → get_or h j 0 ≡ offered_byte j = λ j l. eqb-true _ _ (sym (byte-features 0 h j (omega arith)) ∙ rw z at (each j l)) in
        let n : m ≤ 8 * w = rw (z, ← size) at fits in
        rw z record {
          value = offered w;
          long = offered-length w ∙ size;
          bytes = bytes-offered w;
          good = bytes_good w small 0 (omega arith) (offered w) (bytes-offered w)
              (λ j l. byte-features 0 (offered w) j (omega arith) ∙ eq-eqb _ _ (offered-byte w small j (omega arith)));
          alike = λ j l.
              elem_in (offered w) j (omega (arith, offered-length w)) ∙ ap some (offered-byte w small j (omega arith) ∙ sym (same j l)) ∙ sym (elem_in h j (omega arith));
        }

    -- the bytes with zeros behind them
    abbrev zeros : List ℕ
    zeros = take m h ++ replicate (size_of w i - m) 0

    zeros-there : length (take m h) ≡ m
    zeros-there = length-take-le m h inside

    zeros-before : (j : ℕ) → j < m → get_or zeros j 0 ≡ get_or h j 0
    zeros-before j l = get_or-append (take m h) _ 0 j (omega (arith, zeros-there)) ∙ get_or-take m h j 0 l

    zeros-behind : (j : ℕ) → m ≤ j → j < size_of w i → get_or zeros j 0 ≡ 0
    zeros-behind j l u =
        let k : length (take m h) + (j - m) ≡ j = omega (arith, zeros-there) in
        rw k at (get_or-append-add (take m h) (replicate (size_of w i - m) 0) (j - m) 0 ∙ get_or-replicate (size_of w i - m) (j - m) 0 0 (omega arith))

    zeros-good : 1 ≤ i → (j : ℕ) → j < size_of w i → good_byte i zeros j ≡ true
    zeros-good kept j l = go (ltb j m) refl
      where
        go : (t : Bool) → ltb j m ≡ t → good_byte i zeros j ≡ true
        go true e = let u = ltb-true j m e in byte-local zeros h j (λ k n. zeros-before k (omega arith)) i ∙ each j u
        go false e = zero-good i zeros j kept (zeros-behind j (ltb-false j m e) l)

    zeros-filled : 1 ≤ i → Filled w i h m
    zeros-filled kept =
        let zb = bytes-append (take m h) (replicate (size_of w i - m) 0) (bytes_take m h hb) (bytes-zeros (size_of w i - m)) in
        record {
          value = zeros;
          long = omega (arith, length-append (take m h) (replicate (size_of w i - m) 0), length-replicate {A = ℕ} (size_of w i - m) 0, zeros-there);
          bytes = zb;
          good = bytes_good w small i lt zeros zb (zeros-good kept);
          alike = λ j l. elem_append (take m h) _ j (omega (arith, zeros-there)) ∙ elem_take m h j l;
        }

    -- Every beginning whose bytes are good can be completed.
    pub filled : Filled w i h m
    filled = go (eqb i 0) refl
      where
        go : (t : Bool) → eqb i 0 ≡ t → Filled w i h m
        go true e = features-filled (eqb-true i 0 e)
        go false e = zeros-filled (omega (arith, eqb-false i 0 e))

-- No byte behind a wrong one repairs it: every good value is apart from bytes that end before it, or have a wrong byte, by then.
module _ (w : ℕ) (small : w ≤ word_room) (i : ℕ) (lt : i < row_count) (v h : List ℕ) (vb : Bytes v) (long : length v ≡ size_of w i) (good : content_checks w (kind_of i) v ≡ Pass) (m : ℕ) (short : m < size_of w i) where
  wrong_there : Alike v h m → (length h ≡ m) ⊎ (good_byte i h m ≡ false) → get_elem? v m ≡ get_elem? h m → ⊥
  wrong_there alike (inl e) same = none≢some (sym (elem_out h m (omega arith)) ∙ sym same ∙ elem_in v m (omega arith))
  wrong_there alike (inr e) same =
      false≢true (sym e ∙ sym (byte-local v h m values i) ∙ good-bytes w small i lt v vb good m short)
    where
      values : (k : ℕ) → k ≤ m → get_or v k 0 ≡ get_or h k 0
      values k l = go (eqb k m) refl
        where
          go : (t : Bool) → eqb k m ≡ t → get_or v k 0 ≡ get_or h k 0
          go true p = rw (eqb-true k m p) (same-value v h m same)
          go false p = same-value v h k (alike k (omega (arith, eqb-false k m p)))

  pub unrepaired : (length h ≡ m) ⊎ (good_byte i h m ≡ false) → Apart v h (suc m)
  unrepaired wrong =
      ⊎_elim (λ alike. record { at = m; near = omega arith; other = wrong_there alike wrong }) (apart_more (omega arith)) (alike_or_apart v h m)
