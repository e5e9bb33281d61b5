-- Laws of the words of features, over their number.
use Prim.Native.Nat.{ℕ, zero, suc, ◌+◌, ◌*◌, ◌^◌, ◌≤◌, ◌<◌}
use native.Mathlib.Nat.{not-suc-le-zero, add-zero}
use native.Mathlib.Omega.{arith}
use mathlib.Core.Path.{◌≡◌, refl, sym, ◌∙◌, ap}
use mathlib.Core.Bool.{Bool, true, false, true≢false}
use mathlib.Core.List.{List, [], ◌++◌, append-nil}
use lib.ListN.{length, take, drop, length-append, get_or-append}
use lib.Seq.{take_all, take-append-le, drop-append_seam}
use lib.Dec.{eqb}
use borrow.Author.Tests.{eq-eqb, eqb-true, eqb-false}
use Rattle.answer.proofs.Tests.{and_true, and_made, is_false}
use Rattle.wire.specs.Field.{field, bytes_of}
use Rattle.wire.proofs.Laws.{length-bytes, field_cong, field-drop, field-bytes}
use Rattle.registers.specs.Values.{offered_word, offered, each_word}

-- ---- the words that are offered

word_fits : (i : ℕ) → offered_word i < 256 ^ 8
unfolding offered_word
word_fits zero = omega arith
word_fits (suc zero) = omega arith
word_fits (suc (suc i)) = omega arith

-- past the second word nothing is offered
pub no_word : (i : ℕ) → (i ≡ 0 → ⊥) → (i ≡ 1 → ⊥) → 0 ≡ offered_word i
unfolding offered_word
no_word zero a b = absurd (a refl)
no_word (suc zero) a b = absurd (b refl)
no_word (suc (suc i)) a b = refl

pub offered-length : (w : ℕ) → length (offered w) ≡ 8 * w
unfolding offered
offered-length zero = refl
offered-length (suc w) = omega (arith, length-append (offered w) (bytes_of 8 (offered_word w)), offered-length w, length-bytes 8 (offered_word w))

-- what holds of each of `w` words, where it holds of the last, and of one that is not the last where it holds of that among the others
last_or_before : (P : ℕ → ℕ → Type 0) → ((w : ℕ) → P w (suc w)) → ((i w : ℕ) → i < w → P i w → P i (suc w)) → (i w : ℕ) → i < w → P i w
last_or_before P last before i zero lt = absurd (not-suc-le-zero lt)
last_or_before P last before i (suc w) lt = go (eqb i w) refl (last_or_before P last before i w)
  where
    go : (t : Bool) → eqb i w ≡ t → (i < w → P i w) → P i (suc w)
    go true e rest = rw (eqb-true i w e) (last w)
    go false e rest = let l : i < w = omega (arith, eqb-false i w e) in before i w l (rest l)

-- fewer words are the beginning of more
pub offered-take : (w n : ℕ) → w ≤ n → take (8 * w) (offered n) ≡ offered w
unfolding offered
offered-take w zero le = let e : w ≡ 0 = omega arith in rw e
offered-take w (suc n) le = go (eqb w (suc n)) refl (offered-take w n)
  where
    go : (t : Bool) → eqb w (suc n) ≡ t → (w ≤ n → take (8 * w) (offered n) ≡ offered w) → take (8 * w) (offered (suc n)) ≡ offered w
    go true e rest = rw (eqb-true w (suc n) e) (take_all (8 * suc n) (offered (suc n)) (omega (arith, offered-length (suc n))))
    go false e rest =
        let l : w ≤ n = omega (arith, eqb-false w (suc n) e) in
        take-append-le (8 * w) (offered n) _ (omega (arith, offered-length n)) ∙ rest l

-- each word of what is offered
pub word_at : (i w : ℕ) → i < w → field (offered w) (8 * i) 8 ≡ offered_word i
unfolding offered
word_at = last_or_before (λ i w. field (offered w) (8 * i) 8 ≡ offered_word i) last before
  where
    last : (w : ℕ) → field (offered (suc w)) (8 * w) 8 ≡ offered_word w
    last w =
        let xs = offered w in
        let x = bytes_of 8 (offered_word w) in
        let there : drop (8 * w) (xs ++ x) ≡ x = rw (← offered-length w) (drop-append_seam xs x) in
        sym (rw add-zero at (field-drop (xs ++ x) (8 * w) 0 8)) ∙ ap (λ (l : List ℕ). field l 0 8) (there ∙ sym (append-nil x)) ∙ field-bytes 8 (offered_word w) [] (word_fits w)

    before : (i w : ℕ) → i < w → field (offered w) (8 * i) 8 ≡ offered_word i → field (offered (suc w)) (8 * i) 8 ≡ offered_word i
    before i w lt h =
        field_cong (offered (suc w)) (offered w) (8 * i) 8 (λ k l. get_or-append (offered w) _ 0 (8 * i + k) (omega (arith, offered-length w))) ∙ h

-- ---- a test of each word

-- it holds of every word where it holds of all
pub each_at : (test : ℕ → ℕ → Bool) (w : ℕ) (v : List ℕ) → each_word test w v ≡ true → (i : ℕ) → i < w → test (field v (8 * i) 8) (offered_word i) ≡ true
unfolding each_word
each_at test w v h i lt =
    last_or_before (λ i w. each_word test w v ≡ true → test (field v (8 * i) 8) (offered_word i) ≡ true)
    (λ w h. (and_true _ _ h).1) (λ i w l rest h. rest (and_true _ _ h).0) i w lt h

pub each-not : (test : ℕ → ℕ → Bool) (w i : ℕ) (v : List ℕ) → i < w → test (field v (8 * i) 8) (offered_word i) ≡ false → false ≡ each_word test w v
each-not test w i v lt e = sym (is_false _ (λ h. true≢false (sym (each_at test w v h i lt) ∙ e)))

-- what is offered has the words that are offered
pub offered-exact : (w : ℕ) → each_word eqb w (offered w) ≡ true
unfolding each_word
offered-exact w = go w (omega arith)
  where
    go : (k : ℕ) → k ≤ w → each_word eqb k (offered w) ≡ true
    go zero le = refl
    go (suc k) le = and_made _ _ (go k (omega arith)) (eq-eqb _ _ (word_at k w (omega arith)))
