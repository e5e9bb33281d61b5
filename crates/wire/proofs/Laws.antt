-- Laws of little-endian fields, each proved once over the width.
use Prim.Native.Nat.{ℕ, zero, suc, ◌+◌, ◌*◌, ◌-◌, ◌/◌, ◌%◌, ◌^◌, ◌≤◌, ◌<◌}
use native.Mathlib.Nat.{pow-suc, add-suc, suc-add, add-zero, zero-add, mul_comm, mul_assoc}
use native.Mathlib.Omega.{arith}
use mathlib.Core.Path.{◌≡◌, refl, sym, ◌∙◌, ap}
use mathlib.Core.List.{List, [], ◌∷◌, ◌++◌, append-nil, append_assoc}
use lib.ListN.{length, get_or, set, take, drop, replicate, length-set, length-drop, length-replicate, drop_of_length-le}
use borrow.Rule.Slice.PartMut.{put_mid}
use lib.Seq.{sets, sets-eq, drop-drop, length-take-le, drop-cons, get_or-drop, get_or-set_other, get_or-set_same}
use Rattle.wire.specs.Field.{field, bytes_of, slice}

-- ---- bounds

pub length-bytes : (w x : ℕ) → length (bytes_of w x) ≡ w
unfolding bytes_of
length-bytes zero x = refl
length-bytes (suc w) x = ap suc (length-bytes w (x / 256))

-- a field of `w` bytes is below 256 ^ w
pub field_lt : (l : List ℕ) → ((i : ℕ) → get_or l i 0 < 256) → (o w : ℕ) → field l o w < 256 ^ w
unfolding field
field_lt l h o zero = omega arith
field_lt l h o (suc w) = omega (arith, h o, field_lt l h (suc o) w, pow-suc 256 w)

-- ---- where a field lies

-- two lists that agree on the field's bytes have the same field
pub field_cong : (l m : List ℕ) (o w : ℕ) → ((i : ℕ) → i < w → get_or l (o + i) 0 ≡ get_or m (o + i) 0) → field l o w ≡ field m o w
unfolding field
field_cong l m o zero h = refl
field_cong l m o (suc w) h =
    rw (rw add-zero at (h 0 (omega arith)), field_cong l m (suc o) w (λ i lt. rw (suc-add o i, ← add-suc o i) (h (suc i) (omega arith))))

-- a field behind a prefix
pub field-drop : (l : List ℕ) (p o w : ℕ) → field (drop p l) o w ≡ field l (p + o) w
unfolding field
field-drop l p o zero = refl
field-drop l p o (suc w) = rw (get_or-drop p l o 0, field-drop l p (suc o) w, add-suc p o)

pub field-tail : (x : ℕ) (l : List ℕ) (o w : ℕ) → field (x ∷ l) (suc o) w ≡ field l o w
unfolding field
field-tail x l o zero = refl
field-tail x l o (suc w) = rw (field-tail x l (suc o) w)

-- ---- what a write then reads

-- a number written at the front of a list is read back
pub field-bytes : (w x : ℕ) (l : List ℕ) → x < 256 ^ w → field (bytes_of w x ++ l) 0 w ≡ x
unfolding field bytes_of
field-bytes zero x l h = omega arith
field-bytes (suc w) x l h =
    rw (field-tail (x % 256) (bytes_of w (x / 256) ++ l) 0 w, field-bytes w (x / 256) l (let e = pow-suc 256 w in omega arith)) (omega arith)

-- what bytes written from offset `o` on leave at another offset
pub get_or_sets_other : (l : List ℕ) (o : ℕ) (xs : List ℕ) (i : ℕ) → (o ≤ i → i < o + length xs → ⊥) → get_or (sets l o xs) i 0 ≡ get_or l i 0
get_or_sets_other l o [] i h = refl
get_or_sets_other l o (x ∷ xs) i h =
    get_or_sets_other (set l o x) (suc o) xs i (λ a b. h (omega arith) (omega arith))
    ∙ get_or-set_other l o i x 0 (λ e. h (omega arith) (omega arith))

-- what is written behind what was written
pub sets_then : (l xs ys : List ℕ) (a b : ℕ) → a + length xs ≡ b → sets (sets l a xs) b ys ≡ sets l a (xs ++ ys)
sets_then l [] ys a b e = let f : b ≡ a = omega arith in rw f
sets_then l (x ∷ xs) ys a b e = sets_then (set l a x) xs ys (suc a) b (omega arith)

-- a number written at a place is read back there
pub field-sets : (l : List ℕ) (o w x : ℕ) → o + w ≤ length l → x < 256 ^ w → field (sets l o (bytes_of w x)) o w ≡ x
unfolding field bytes_of
field-sets l o zero x room h = omega arith
field-sets l o (suc w) x room h =
    let first : get_or (sets (set l o (x % 256)) (suc o) (bytes_of w (x / 256))) o 0 ≡ x % 256 =
    get_or_sets_other (set l o (x % 256)) (suc o) (bytes_of w (x / 256)) o (λ a b. omega arith) ∙ get_or-set_same l o (x % 256) 0 (omega arith) in
    let rest = field-sets (set l o (x % 256)) (suc o) w (x / 256) (omega (arith, length-set l o (x % 256))) (let e = pow-suc 256 w in omega arith) in
    rw (first, rest) (omega arith)

-- ---- a field is its two halves

pub field_split : (l : List ℕ) (o w v : ℕ) → field l o (w + v) ≡ field l o w + 256 ^ w * field l (o + w) v
unfolding field
field_split l o zero v = rw (zero-add v, add-zero o) (omega arith)
field_split l o (suc w) v =
    let e : suc o + w ≡ o + suc w = omega arith in
    let f : 256 ^ suc w * field l (o + suc w) v ≡ 256 * (256 ^ w * field l (o + suc w) v) =
    rw (pow-suc 256 w, mul_comm (256 ^ w) 256) (mul_assoc 256 (256 ^ w) (field l (o + suc w) v)) in
    rw (suc-add w v, field_split l (suc o) w v, e, f) (omega arith)

pub field-halves : (l : List ℕ) (o w : ℕ) {low high : ℕ} → low ≡ field l o w → high ≡ field l (o + w) w → low + high * 256 ^ w ≡ field l o (w + w)
field-halves l o w e f = rw (e, f) (sym (field_split l o w w ∙ rw (mul_comm (256 ^ w) (field l (o + w) w))))

-- ---- a loop that writes a number, its first byte first

pub put-more : (l : List ℕ) (at width i y : ℕ) → i < width
    → sets l (at + i) (bytes_of (width - i) y) ≡ sets (set l (at + i) (y % 256)) (at + (i + 1)) (bytes_of (width - (i + 1)) (y / 256))
unfolding bytes_of
put-more l at width i y h =
    let e : width - i ≡ suc (width - (i + 1)) = omega arith in
    let f : suc (at + i) ≡ at + (i + 1) = omega arith in
    rw (e, ← f)

-- ---- a loop that copies, the first byte first

pub copy_more : (l src : List ℕ) (to from n i : ℕ) → i < n → from + n ≤ length src
    → sets l (to + i) (slice src (from + i) (n - i)) ≡ sets (set l (to + i) (get_or src (from + i) 0)) (to + (i + 1)) (slice src (from + (i + 1)) (n - (i + 1)))
copy_more l src to from n i h room =
    let e : n - i ≡ suc (n - (i + 1)) = omega arith in
    let f : suc (to + i) ≡ to + (i + 1) = omega arith in
    let g : suc (from + i) ≡ from + (i + 1) = omega arith in
    rw (e, drop-cons src (from + i) 0 (omega arith), ← f, ← g)

-- ---- runs of bytes written

-- one run behind another
pub sets-append : (l : List ℕ) (o : ℕ) (xs ys : List ℕ) → sets l o (xs ++ ys) ≡ sets (sets l o xs) (o + length xs) ys
sets-append l o [] ys = rw (add-zero o)
sets-append l o (x ∷ xs) ys = rw (add-suc o (length xs), ← suc-add o (length xs)) (sets-append (set l o x) (suc o) xs ys)

-- a part has the length asked for
pub length_part : (l : List ℕ) (o n : ℕ) → o + n ≤ length l → length (slice l o n) ≡ n
length_part l o n h = length-take-le n (drop o l) (omega (arith, length-drop o l))

-- a run over the whole list
pub sets-all : (l xs : List ℕ) → length xs ≡ length l → sets l 0 xs ≡ xs
sets-all l xs e =
    sets-eq xs l 0 (omega arith) ∙ ap (λ (rest : List ℕ). xs ++ rest) (drop_of_length-le l {i = 0 + length xs} (omega arith)) ∙ append-nil xs

-- a part that was written in place, by a method on `&mut l[o..o + k]`
pub part_written : {X : Type 0} (l ys : List X) (o k : ℕ) → length ys ≡ k → o + k ≤ length l → put_mid o k l ys ≡ sets l o ys
part_written l ys o k e h =
    ap (λ (rest : List _). take o l ++ (ys ++ rest)) (drop-drop k o l ∙ ap (λ (n : ℕ). drop (o + n) l) (sym e))
    ∙ sym (append_assoc (take o l) ys _) ∙ sym (sets-eq ys l o (omega arith))

pub part_filled : {X : Type 0} (l : List X) (o k : ℕ) (v : X) → o + k ≤ length l
    → put_mid o k l (replicate (length (take k (drop o l))) v) ≡ sets l o (replicate k v)
part_filled l o k v h =
    let e : length (take k (drop o l)) ≡ k = length-take-le k (drop o l) (omega (arith, length-drop o l)) in
    rw e (part_written l (replicate k v) o k (length-replicate k v) h)
