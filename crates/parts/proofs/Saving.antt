-- Laws of saving: one part, and the loops over the rows.
use Prim.Native.Nat.{ℕ, suc, ◌+◌, ◌-◌, ◌*◌, ◌≤◌, ◌<◌}
use native.Mathlib.Numerals.{add-one}
use native.Mathlib.Omega.{arith}
use mathlib.Core.Path.{◌≡◌, refl, sym, ◌∙◌, ap}
use mathlib.Core.Bool.{true, false}
use mathlib.Core.List.{List, [], ◌++◌}
use lib.ListN.{length, take, length-append}
use lib.Seq.{sets, length-sets, length-take-le, take-add}
use Rattle.answer.specs.Tests.{flagged}
use Rattle.wire.specs.Field.{bytes_of, slice}
use Rattle.wire.proofs.Laws.{length-bytes, sets_then}
use Rattle.registers.specs.Cards.{word_room}
use Rattle.registers.specs.Rows.{row_count, kind_of, selector_of, size_of}
use Rattle.registers.specs.File.{File, current, register_value}
use Rattle.registers.specs.declared.Register.{Register}
use Rattle.registers.proofs.Rows.{size-most}
use Rattle.registers.proofs.File.{value_set, value-unset, features, features-row, features-whole, features-set}
use Rattle.parts.specs.Step.{header_size}
use Rattle.parts.specs.Load.{flags_of}
use Rattle.parts.specs.Save.{encoded, part_of, saved_from, saved}

-- ---- one part

pub length-encoded : (w i : ℕ) (v : List ℕ) → length (encoded w i v) ≡ header_size + length v
unfolding encoded bytes_of
length-encoded w i v = omega arith

-- two words, written one behind the other
pub put_two : (l v : List ℕ) (a : ℕ) → 16 ≤ length v → sets (sets l a (slice v 0 8)) (a + 8) (slice v 8 8) ≡ sets l a (take 16 v)
put_two l v a h =
    sets_then l (take 8 v) (slice v 8 8) a (a + 8) (omega (arith, length-take-le 8 v (omega arith))) ∙ ap (sets l a) (sym (take-add 8 8 v))

-- the six fields of a part, written one behind the other
pub put-encoded : (w : ℕ) (l : List ℕ) (a i : ℕ) (v : List ℕ)
    → sets (sets (sets (sets (sets (sets l a (bytes_of 2 (kind_of i))) (a + 2) (bytes_of 1 (flags_of (kind_of i)))) (a + 3) (bytes_of 1 0)) (a + 4) (bytes_of 8 (selector_of i))) (a + 12) (bytes_of 4 (size_of w i))) (a + 16) v
    ≡ sets l a (encoded w i v)
unfolding encoded
put-encoded w l a i v =
    let A = bytes_of 2 (kind_of i) in
    let B = bytes_of 1 (flags_of (kind_of i)) in
    let C = bytes_of 1 0 in
    let D = bytes_of 8 (selector_of i) in
    let E = bytes_of 4 (size_of w i) in
    let la = length-bytes 2 (kind_of i) in
    let lb = length-bytes 1 (flags_of (kind_of i)) in
    let lc = length-bytes 1 0 in
    let ld = length-bytes 8 (selector_of i) in
    let le = length-bytes 4 (size_of w i) in
    let ab = length-append A B in
    let abc = length-append (A ++ B) C in
    let abcd = length-append (A ++ B ++ C) D in
    let abcde = length-append (A ++ B ++ C ++ D) E in
    rw (
      sets_then l A B a (a + 2) (omega arith),
      sets_then l (A ++ B) C a (a + 3) (omega arith),
      sets_then l (A ++ B ++ C) D a (a + 4) (omega arith),
      sets_then l (A ++ B ++ C ++ D) E a (a + 12) (omega arith),
      sets_then l (A ++ B ++ C ++ D ++ E) v a (a + 16) (omega arith),
    )

-- the same, on what each write left: the header is in place, and the value goes behind it
pub put-behind : (w : ℕ) (l : List ℕ) (a i : ℕ) (v : List ℕ) {k f s n : ℕ} {l₁ l₂ l₃ l₄ l₅ : List ℕ}
    → l₁ ≡ sets l a (bytes_of 2 k) → l₂ ≡ sets l₁ (a + 2) (bytes_of 1 f) → l₃ ≡ sets l₂ (a + 3) (bytes_of 1 0) → l₄ ≡ sets l₃ (a + 4) (bytes_of 8 s)
    → l₅ ≡ sets l₄ (a + 12) (bytes_of 4 n) → k ≡ kind_of i → f ≡ flags_of k → s ≡ selector_of i → n ≡ size_of w i
    → sets l₅ (a + 16) v ≡ sets l a (encoded w i v)
put-behind w l a i v e₁ e₂ e₃ e₄ e₅ k f s n = rw (e₅, e₄, e₃, e₂, e₁, f, k, s, n) (put-encoded w l a i v)

-- ---- the rows from `i` on

-- what is still to be saved
abbrev pub rest : ℕ → File → ℕ → List ℕ
rest w file i = saved_from w file i (row_count - i)

pub rest_end : (w : ℕ) (file : File) (i : ℕ) → row_count ≤ i → rest w file i ≡ []
unfolding saved_from
rest_end w file i h = let e : row_count - i ≡ 0 = omega arith in rw e

module _ (w : ℕ) (small : w ≤ word_room) (file : File) (i : ℕ) (lt : i < row_count) where
  pub rest-cons : rest w file i ≡ part_of w i (current w file i) ++ rest w file (i + 1)
  unfolding saved_from
  rest-cons = let e : row_count - i ≡ suc (row_count - (i + 1)) = omega arith in rw (e, add-one)

  -- in a turn, with the register `r` that the row shows
  module _ (r : Register) (is : register_value w i r ≡ current w file i) where
    pub rest-none : flagged r.set ≡ false → rest w file i ≡ rest w file (i + 1)
    unfolding part_of
    rest-none h = rest-cons ∙ rw (← is, value-unset w i r h)

    module _ (whole : length r.bytes ≡ 32) (h : flagged r.set ≡ true) where
      pub rest_part : rest w file i ≡ encoded w i (take (size_of w i) r.bytes) ++ rest w file (i + 1)
      unfolding part_of
      rest_part = rest-cons ∙ rw (← is, value_set w i r h)

      pub part-long : length (encoded w i (take (size_of w i) r.bytes)) ≡ header_size + size_of w i
      part-long =
          length-encoded w i _ ∙ ap (λ (n : ℕ). header_size + n) (length-take-le (size_of w i) r.bytes (omega (arith, size-most w i small lt)))

      pub count-part : length (rest w file i) ≡ header_size + size_of w i + length (rest w file (i + 1))
      count-part = ap length rest_part ∙ length-append (encoded w i (take (size_of w i) r.bytes)) _ ∙ ap (λ (n : ℕ). n + length (rest w file (i + 1))) part-long

-- ---- the part of offered features, which comes first

pub features-room : (w : ℕ) → w ≤ word_room → (file : File) → header_size + size_of w 0 ≤ length (saved w file)
unfolding saved
features-room w small file = omega (arith, count-part w small file 0 (omega arith) features (features-row w file small) features-whole features-set)

-- ---- the loop that counts

-- at its head: `n` bytes and those of the rows from `i` on are all
pub record Count (w : ℕ) (file : File) (n i : ℕ) : Type 0 where
  pub most : i ≤ row_count
  pub small : n ≤ 48 * i
  pub all : n + length (rest w file i) ≡ length (saved w file)

pub count-start : (w : ℕ) → w ≤ word_room → (file : File) → Count w file (header_size + size_of w 0) 1
unfolding saved
count-start w small file =
    let most = size-most w 0 small (omega arith) in
    record { most = omega arith; small = omega arith; all = omega (arith, count-part w small file 0 (omega arith) features (features-row w file small) features-whole features-set) }

module _ (w : ℕ) (small : w ≤ word_room) (file : File) (n i : ℕ) (h : Count w file n i) where
  pub count-end : row_count ≤ i → n ≡ length (saved w file)
  count-end e = omega (arith, h.all, ap length (rest_end w file i e))

  module _ (lt : i < row_count) (r : Register) (is : register_value w i r ≡ current w file i) where
    pub count_none : flagged r.set ≡ false → (n' : ℕ) → n' ≡ n → Count w file n' (i + 1)
    count_none e n' same =
        record { most = omega arith; small = omega (arith, h.small); all = omega (arith, h.all, ap length (rest-none w small file i lt r is e)) }

    pub count-more : length r.bytes ≡ 32 → flagged r.set ≡ true → (n' : ℕ) → n' ≡ n + header_size + size_of w i → Count w file n' (i + 1)
    count-more whole e n' more =
        record {
          most = omega arith;
          small = omega (arith, h.small, size-most w i small lt);
          all = omega (arith, h.all, count-part w small file i lt r is whole e);
        }

-- ---- the loop that writes

-- at its head: the parts of the rows from `i` on, written from `p` on, make of the buffer what those of the rows that are kept make of the
-- one that has the part of offered features
pub record Left (w : ℕ) (file : File) (buf₀ buf : List ℕ) (p i : ℕ) : Type 0 where
  pub most : i ≤ row_count
  pub same : length buf ≡ length buf₀
  pub count : p + length (rest w file i) ≡ length (saved w file)
  pub bytes : sets buf₀ (header_size + size_of w 0) (rest w file 1) ≡ sets buf p (rest w file i)

pub left-start : (w : ℕ) → w ≤ word_room → (file : File) (buf : List ℕ) → Left w file buf buf (header_size + size_of w 0) 1
unfolding saved
left-start w small file buf = record {
  most = omega arith;
  same = refl;
  count = omega (arith, count-part w small file 0 (omega arith) features (features-row w file small) features-whole features-set);
  bytes = refl;
}

-- the part of offered features and the others behind it are all
pub left-all : (w : ℕ) → w ≤ word_room → (file : File) (buf : List ℕ) → sets (sets buf 0 (encoded w 0 (take (size_of w 0) features.bytes))) (header_size + size_of w 0) (rest w file 1) ≡ sets buf 0 (saved w file)
unfolding saved
left-all w small file buf =
    let row = features-row w file small in
    sets_then buf (encoded w 0 (take (size_of w 0) features.bytes)) (rest w file 1) 0 (header_size + size_of w 0)
    (omega (arith, part-long w small file 0 (omega arith) features row features-whole features-set))
    ∙ ap (sets buf 0) (sym (rest_part w small file 0 (omega arith) features row features-whole features-set))

module _ (w : ℕ) (small : w ≤ word_room) (file : File) (buf₀ buf : List ℕ) (p i : ℕ) (h : Left w file buf₀ buf p i) where
  pub left_end : row_count ≤ i → (buf ≡ sets buf₀ (header_size + size_of w 0) (rest w file 1)) × (p ≡ length (saved w file))
  left_end e = (sym (h.bytes ∙ rw (rest_end w file i e)), omega (arith, h.count, ap length (rest_end w file i e)))

  module _ (lt : i < row_count) (r : Register) (is : register_value w i r ≡ current w file i) where
    pub left-none : flagged r.set ≡ false → (buf' : List ℕ) (p' : ℕ) → buf' ≡ buf → p' ≡ p → Left w file buf₀ buf' p' (i + 1)
    left-none e buf' p' b q =
        let none = rest-none w small file i lt r is e in
        rw (b, q)
        record {
          most = omega arith;
          same = h.same;
          count = omega (arith, h.count, ap length none);
          bytes = h.bytes ∙ ap (sets buf p) none;
        }

    module _ (whole : length r.bytes ≡ 32) (e : flagged r.set ≡ true) where
      pub left-room : p + header_size + size_of w i ≤ length (saved w file)
      left-room = omega (arith, h.count, count-part w small file i lt r is whole e)

      pub left-more : (buf' : List ℕ) (p' : ℕ) → buf' ≡ sets buf p (encoded w i (take (size_of w i) r.bytes)) → p' ≡ p + header_size + size_of w i
          → Left w file buf₀ buf' p' (i + 1)
      left-more buf' p' b q =
          let part = encoded w i (take (size_of w i) r.bytes) in
          record {
            most = omega arith;
            same = ap length b ∙ length-sets buf p part ∙ h.same;
            count = omega (arith, h.count, count-part w small file i lt r is whole e);
            bytes =
                h.bytes ∙ ap (sets buf p) (rest_part w small file i lt r is whole e)
                ∙ sym (sets_then buf part _ p p' (omega (arith, part-long w small file i lt r is whole e)))
                ∙ ap (λ (l : List ℕ). sets l p' (rest w file (i + 1))) (sym b);
          }
