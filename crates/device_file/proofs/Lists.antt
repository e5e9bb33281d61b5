-- Laws of lists that agree at some places, and of bytes written into one.
use Prim.Native.Nat.{ℕ, suc, ◌+◌, ◌≤◌, ◌<◌}
use native.Mathlib.Omega.{arith}
use mathlib.Core.Path.{◌≡◌, refl, sym, ◌∙◌, ap}
use mathlib.Core.List.{List, [], ◌∷◌, ◌++◌}
use lib.ListN.{length, get_or, set, take, drop, length-append, get_or-append}
use lib.Seq.{sets, sets-eq, ext_get_or, get_or-take, get_or-drop, take-set-lt, drop-set-lt, take_at, length-take-le, drop-append_seam}
use Rattle.wire.specs.Field.{field, slice}
use Rattle.wire.proofs.Laws.{field_cong, field-drop, length_part}

-- ---- agreeing

-- the bytes from `a` up to but not including `b` are the same
abbrev pub Same : List ℕ → List ℕ → ℕ → ℕ → Type 0
Same l m a b = (i : ℕ) → a ≤ i → i < b → get_or l i 0 ≡ get_or m i 0

pub same-field : (l m : List ℕ) (o w : ℕ) → Same l m o (o + w) → field l o w ≡ field m o w
same-field l m o w h = field_cong l m o w (λ i lt. h (o + i) (omega arith) (omega arith))

pub same-slice : (l m : List ℕ) (o n : ℕ) → o + n ≤ length l → o + n ≤ length m → Same l m o (o + n) → slice l o n ≡ slice m o n
same-slice l m o n a b h =
    let long = length_part l o n a in
    ext_get_or 0 (slice l o n) (slice m o n) (long ∙ sym (length_part m o n b))
    (λ i lt.
    let in-part : i < n = omega arith in
    get_or-take n (drop o l) i 0 in-part ∙ get_or-drop o l i 0 ∙ h (o + i) (omega arith) (omega arith) ∙ sym (get_or-take n (drop o m) i 0 in-part ∙ get_or-drop o m i 0))

pub same-append : (l m : List ℕ) (a : ℕ) → Same (l ++ m) l a (length l)
same-append l m a i from lt = get_or-append l m 0 i lt

-- a field behind a list
pub field-behind : (l m : List ℕ) (o w : ℕ) → field (l ++ m) (length l + o) w ≡ field m o w
field-behind l m o w = sym (field-drop (l ++ m) (length l) o w) ∙ ap (λ (l : List ℕ). field l o w) (drop-append_seam l m)

-- ---- bytes written

-- inside the first `k`
pub take-sets : (k : ℕ) (l : List ℕ) (o : ℕ) (xs : List ℕ) → o + length xs ≤ k → take k (sets l o xs) ≡ sets (take k l) o xs
take-sets k l o [] h = refl
take-sets k l o (x ∷ xs) h =
    take-sets k (set l o x) (suc o) xs (omega arith) ∙ ap (λ (l : List ℕ). sets l (suc o) xs) (take-set-lt k l o x (omega arith))

pub drop-sets : (k : ℕ) (l : List ℕ) (o : ℕ) (xs : List ℕ) → o + length xs ≤ k → drop k (sets l o xs) ≡ drop k l
drop-sets k l o [] h = refl
drop-sets k l o (x ∷ xs) h = drop-sets k (set l o x) (suc o) xs (omega arith) ∙ drop-set-lt k l o x (omega arith)

-- as the last of the first `k`
module _ (l : List ℕ) (o : ℕ) (xs : List ℕ) (k : ℕ) (end : o + length xs ≡ k) (room : k ≤ length l) where
  pub take-written : take k (sets l o xs) ≡ take o l ++ xs
  take-written =
      let front : length (take o l ++ xs) ≡ k = omega (arith, length-append (take o l) xs, length-take-le o l (omega arith)) in
      ap (take k) (sets-eq xs l o (omega arith)) ∙ take_at (take o l ++ xs) (drop (o + length xs) l) k front

  pub drop-written : drop k (sets l o xs) ≡ drop k l
  drop-written = drop-sets k l o xs (omega arith)
