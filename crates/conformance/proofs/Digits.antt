-- Laws of tests that hold of two numbers exactly if they hold of each pair of their bytes, over any width.
use Prim.Native.Nat.{ℕ, zero, suc, ◌+◌, ◌*◌, ◌/◌, ◌≤◌, ◌<◌}
use native.Mathlib.Omega.{arith}
use mathlib.Core.Path.{◌≡◌, refl, sym, ◌∙◌}
use mathlib.Core.Bool.{Bool, true, false}
use mathlib.Core.List.{List, [], ◌∷◌, ◌++◌}
use lib.ListN.{get_or, take, replicate}
use lib.Bits.{bit_and, and_block, and_le_l}
use lib.Dec.{eqb}
use borrow.Author.Tests.{eq-eqb, eqb-true, eqb-false}
use Rattle.answer.specs.Tests.{◌and◌}
use Rattle.answer.proofs.Tests.{and_true, and_made, same_test}
use Rattle.wire.specs.Field.{field, bytes_of}
use Rattle.registers.specs.Values.{offered_word, offered, each_word, within}
use Rattle.registers.specs.Cards.{word_room}
use Rattle.registers.proofs.Features.{word_at, each_at}
use Rattle.conformance.specs.Saves.{Bytes}
use Rattle.conformance.specs.Bytes.{offered_byte}

pub bytes-append : (a b : List ℕ) → Bytes a → Bytes b → Bytes (a ++ b)
bytes-append [] b p q j = q j
bytes-append (x ∷ a) b p q zero = p 0
bytes-append (x ∷ a) b p q (suc j) = bytes-append a b (λ k. p (suc k)) q j

pub bytes_take : (n : ℕ) (l : List ℕ) → Bytes l → Bytes (take n l)
bytes_take zero l h j = omega arith
bytes_take (suc n) [] h j = omega arith
bytes_take (suc n) (x ∷ l) h zero = h 0
bytes_take (suc n) (x ∷ l) h (suc j) = bytes_take n l (λ k. h (suc k)) j

pub bytes-zeros : (n : ℕ) → Bytes (replicate n 0)
bytes-zeros zero j = omega arith
bytes-zeros (suc n) zero = omega arith
bytes-zeros (suc n) (suc j) = bytes-zeros n j

pub bytes-of : (n x : ℕ) → Bytes (bytes_of n x)
unfolding bytes_of
bytes-of zero x j = omega arith
bytes-of (suc n) x zero = omega arith
bytes-of (suc n) x (suc j) = bytes-of n (x / 256) j

pub bytes-offered : (w : ℕ) → Bytes (offered w)
unfolding offered
bytes-offered zero j = omega arith
bytes-offered (suc w) j = bytes-append (offered w) (bytes_of 8 (offered_word w)) (bytes-offered w) (bytes-of 8 (offered_word w)) j

-- a test of two numbers by their lowest bytes and what is above them
pub record Digits (test : ℕ → ℕ → Bool) : Type 0 where
  pub none : test 0 0 ≡ true
  pub more : (r s x y : ℕ) → r < 256 → s < 256 → test (r + 256 * x) (s + 256 * y) ≡ (test r s and test x y)

pub digits_equal : Digits eqb
digits_equal = record {
  none = refl;
  more = λ r s x y h g. same_test _ _
      (λ e. let p = eqb-true (r + 256 * x) (s + 256 * y) e in and_made _ _ (eq-eqb r s (omega arith)) (eq-eqb x y (omega arith)))
      (λ e. let b = and_true _ _ e in eq-eqb (r + 256 * x) (s + 256 * y) (omega (arith, eqb-true r s b.0, eqb-true x y b.1)));
}

pub digits_within : Digits within
unfolding within
digits_within = record {
  none = refl;
  more = λ r s x y h g.
      let block : bit_and (r + 256 * x) (s + 256 * y) ≡ bit_and x y * 256 + bit_and r s = blocks r s x y h g in
      let low = and_le_l r s in
      same_test _ _
      (λ e. let p = eqb-true (bit_and (r + 256 * x) (s + 256 * y)) (r + 256 * x) e in and_made _ _ (eq-eqb (bit_and r s) r (omega arith)) (eq-eqb (bit_and x y) x (omega arith)))
      (λ e. let b = and_true _ _ e in eq-eqb (bit_and (r + 256 * x) (s + 256 * y)) (r + 256 * x) (omega (arith, eqb-true (bit_and r s) r b.0, eqb-true (bit_and x y) x b.1)));
}
  where
    blocks : (r s x y : ℕ) → r < 256 → s < 256 → bit_and (r + 256 * x) (s + 256 * y) ≡ bit_and x y * 256 + bit_and r s
    blocks r s x y h g =
        let p : r + 256 * x ≡ x * 256 + r = omega arith in
        let q : s + 256 * y ≡ y * 256 + s = omega arith in
        rw (p, q) (and_block 8 x y r s h g)

module _ (test : ℕ → ℕ → Bool) (digits : Digits test) (v o : List ℕ) (vb : Bytes v) (ob : Bytes o) where
  -- fields that pass have bytes that pass
  pub field_bytes_pass : (a n : ℕ) → test (field v a n) (field o a n) ≡ true → (j : ℕ) → a ≤ j → j < a + n → test (get_or v j 0) (get_or o j 0) ≡ true
  unfolding field
  field_bytes_pass a zero h j l u = absurd (omega arith)
  field_bytes_pass a (suc n) h j l u =
      let b = and_true _ _ (sym (digits.more _ _ _ _ (vb a) (ob a)) ∙ h) in
      go b.0 (λ m. field_bytes_pass (suc a) n b.1 j m (omega arith)) (eqb j a) refl
    where
      go : test (get_or v a 0) (get_or o a 0) ≡ true → (suc a ≤ j → test (get_or v j 0) (get_or o j 0) ≡ true) → (t : Bool) → eqb j a ≡ t → test (get_or v j 0) (get_or o j 0) ≡ true
      go p q true e = rw (eqb-true j a e) p
      go p q false e = q (omega (arith, eqb-false j a e))

  -- and the other way round
  pub bytes_field_pass : (a n : ℕ) → ((j : ℕ) → a ≤ j → j < a + n → test (get_or v j 0) (get_or o j 0) ≡ true) → test (field v a n) (field o a n) ≡ true
  unfolding field
  bytes_field_pass a zero h = digits.none
  bytes_field_pass a (suc n) h =
      digits.more _ _ _ _ (vb a) (ob a) ∙ and_made _ _ (h a (omega arith) (omega arith)) (bytes_field_pass (suc a) n (λ j l u. h j (omega arith) (omega arith)))

-- ---- features

module _ (test : ℕ → ℕ → Bool) (digits : Digits test) (w : ℕ) (small : w ≤ word_room) (v : List ℕ) (vb : Bytes v) where
  -- features that pass word by word pass byte by byte
  pub words-bytes : each_word test w v ≡ true → (j : ℕ) → j < 8 * w → test (get_or v j 0) (offered_byte j) ≡ true
  unfolding offered_byte
  words-bytes h j l =
      let i = j / 8 in
      let word : test (field v (8 * i) 8) (field (offered word_room) (8 * i) 8) ≡ true = rw (word_at i word_room (omega arith)) (each_at test w v h i (omega arith)) in
      field_bytes_pass test digits v (offered word_room) vb (bytes-offered word_room) (8 * i) 8 word j (omega arith) (omega arith)

  -- and the other way round
  pub bytes-words : ((j : ℕ) → j < 8 * w → test (get_or v j 0) (offered_byte j) ≡ true) → each_word test w v ≡ true
  unfolding offered_byte each_word
  bytes-words h = go w (omega arith)
    where
      go : (k : ℕ) → k ≤ w → each_word test k v ≡ true
      go zero le = refl
      go (suc k) le =
          let word = bytes_field_pass test digits v (offered word_room) vb (bytes-offered word_room) (8 * k) 8 (λ j l u. h j (omega arith)) in
          and_made _ _ (go k (omega arith)) (rw (word_at k word_room (omega arith)) at word)
