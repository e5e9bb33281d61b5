-- Laws for the functions of the pass: each way on and out of their loops.
use Prim.Native.Nat.{ℕ, suc, zero, ◌+◌, ◌%◌, ◌≤◌, ◌<◌}
use native.Mathlib.Omega.{arith}
use mathlib.Core.Path.{◌≡◌, refl, sym, ◌∙◌, ap}
use mathlib.Core.Bool.{Bool, true, false}
use mathlib.Core.List.{List, [], ◌∷◌, ◌++◌}
use mathlib.Core.Option.{some}
use lib.ListN.{length, get_or, take, drop, length-drop, get_or-eq_default}
use lib.Seq.{get_or-take}
use lib.Dec.{eqb, leb, ltb}
use borrow.Author.Tests.{eq-eqb, eqb-true, eqb-false, ltb-true, ltb-false, ne_eqb, leb-true, le-leb}
use Rattle.std.proofs.Common.{cond}
use Rattle.std.proofs.Math.ListN.{get_elem?}
use Rattle.std.specs.List.{zip, prefix_len}
use Rattle.answer.specs.Tests.{◌and◌, ◌or◌, pick}
use Rattle.answer.specs.Checks.{passes}
use Rattle.answer.proofs.Tests.{and_true, and_made, is_false, same_test, below, below_at}
use Rattle.wire.specs.Field.{field, bytes_of}
use Rattle.wire.proofs.Laws.{field_split, field_lt}
use Rattle.registers.specs.Cards.{word_room}
use Rattle.registers.specs.Rows.{row_count, kind_of, selector_of, size_of}
use Rattle.registers.specs.Values.{offered_word, offered, content_checks}
use Rattle.registers.proofs.Features.{offered-length}
use Rattle.registers.proofs.File.{passes_true, none≢some, some_same}
use Rattle.parts.specs.Step.{header_size}
use Rattle.parts.specs.Load.{flags_of}
use Rattle.parts.specs.Save.{encoded}
use Rattle.conformance.specs.Saves.{Bytes}
use Rattle.conformance.specs.Bytes.{header, offered_byte, queue_byte}
use Rattle.conformance.specs.Scan.{Common, MostGood, IsWhole, IsBroken, IsAbsent, Finds}
use Rattle.conformance.specs.declared.Part.{Part}
use Rattle.conformance.specs.declared.Part.TheVariants.{Whole, Broken, Absent}
use Rattle.conformance.proofs.Lists.{Alike, elem_in, elem_out}
use Rattle.conformance.proofs.Digits.{digits_equal, field_bytes_pass, bytes-append, bytes_take, bytes-of}
use Rattle.conformance.proofs.Values.{good-bytes, byte-local}
use Rattle.conformance.proofs.Tails.{header-long}

-- ---- the bytes that two lists share

-- a pair of bytes that are the same
abbrev pub same : ℕ × ℕ → Bool
same p = eqb p.0 p.1

alike-cons : (a b : List ℕ) (x y n : ℕ) → x ≡ y → Alike a b n → Alike (x ∷ a) (y ∷ b) (suc n)
alike-cons a b x y n e h zero lt = ap some e
alike-cons a b x y n e h (suc j) lt = h j (omega arith)

common-cons : (a b : List ℕ) (x y n m : ℕ) → x ≡ y → Common a b n → m ≡ suc n → Common (x ∷ a) (y ∷ b) m
common-cons a b x y n m e c is = rw is (record {
  first = omega (arith, c.first);
  second = omega (arith, c.second);
  alike = alike-cons a b x y n e c.alike;
  ends = λ l. c.ends (omega arith);
})

common_zero : (a b : List ℕ) → (0 < length a → get_elem? a 0 ≡ get_elem? b 0 → ⊥) → Common a b 0
common_zero a b h = record { first = omega arith; second = omega arith; alike = λ j l. absurd (omega arith); ends = h }

-- they are counted by their pairs, up to the first that differs
pub shared : (a b : List ℕ) → Common a b (prefix_len same (zip a b))
shared [] b = common_zero [] b (λ l e. absurd (omega arith))
shared (x ∷ a) [] = common_zero (x ∷ a) [] (λ l e. none≢some (sym e))
shared (x ∷ a) (y ∷ b) = go (eqb x y) refl (shared a b)
  where
    go : (t : Bool) → eqb x y ≡ t → Common a b (prefix_len same (zip a b)) → Common (x ∷ a) (y ∷ b) (cond t (1 + prefix_len same (zip a b)) 0)
    go true e r = common-cons a b x y _ _ (eqb-true x y e) r (omega arith)
    go false e r = common_zero (x ∷ a) (y ∷ b) (λ l h. eqb-false x y e (some_same h))

-- a stream that ends before a row's header, or begins with another byte
module _ (w i : ℕ) (h : List ℕ) where
  pub none_left : length h ≡ 0 → Common (header w i) h 0
  none_left e = common_zero (header w i) h (λ l f. none≢some (sym (elem_out h 0 (omega arith)) ∙ sym f ∙ elem_in (header w i) 0 l))

  first_of : get_or (header w i) 0 0 ≡ kind_of i % 256
  unfolding header encoded bytes_of
  first_of = refl

  pub other-first : 0 < length h → (get_or h 0 0 ≡ kind_of i % 256 → ⊥) → Common (header w i) h 0
  other-first there ne = common_zero (header w i) h (λ l f. ne (some_same (sym (elem_in h 0 there) ∙ sym f ∙ elem_in (header w i) 0 l) ∙ first_of))

pub bytes-header : (w i : ℕ) → Bytes (header w i)
unfolding header encoded
bytes-header w i =
    bytes-append (bytes_of 2 (kind_of i) ++ bytes_of 1 (flags_of (kind_of i)) ++ bytes_of 1 0 ++ bytes_of 8 (selector_of i) ++ bytes_of 4 (size_of w i)) []
    (bytes-append (bytes_of 2 (kind_of i) ++ bytes_of 1 (flags_of (kind_of i)) ++ bytes_of 1 0 ++ bytes_of 8 (selector_of i)) (bytes_of 4 (size_of w i))
    (bytes-append (bytes_of 2 (kind_of i) ++ bytes_of 1 (flags_of (kind_of i)) ++ bytes_of 1 0) (bytes_of 8 (selector_of i))
    (bytes-append (bytes_of 2 (kind_of i) ++ bytes_of 1 (flags_of (kind_of i))) (bytes_of 1 0)
    (bytes-append (bytes_of 2 (kind_of i)) (bytes_of 1 (flags_of (kind_of i))) (bytes-of 2 (kind_of i)) (bytes-of 1 (flags_of (kind_of i)))) (bytes-of 1 0)) (bytes-of 8 (selector_of i))) (bytes-of 4 (size_of w i))) (λ j. omega arith)

-- a row's header and 16 bytes that make the same number
pub shared-header : (w i : ℕ) (h : List ℕ) → Bytes h → header_size ≤ length h → eqb (field (header w i) 0 16) (field h 0 16) ≡ true
    → Common (header w i) h header_size
shared-header w i h hb le e = record {
  first = omega (arith, header-long w i);
  second = le;
  alike = λ j l.
      elem_in (header w i) j (omega (arith, header-long w i))
      ∙ ap some (eqb-true _ _ (field_bytes_pass eqb digits_equal (header w i) h (bytes-header w i) hb 0 16 e j (omega arith) (omega arith)))
      ∙ sym (elem_in h j (omega arith));
  ends = λ l. absurd (omega (arith, header-long w i));
}

-- the two halves of 16 bytes decide
pub halves : (a b : List ℕ) → Bytes a → Bytes b → (eqb (field a 0 8) (field b 0 8) and eqb (field a 8 8) (field b 8 8)) ≡ eqb (field a 0 16) (field b 0 16)
halves a b ab bb =
    let p = field_split a 0 8 8 in
    let q = field_split b 0 8 8 in
    let l = field_lt a ab 0 8 in
    let m = field_lt b bb 0 8 in
    same_test _ _
    (λ h. let c = and_true _ _ h in eq-eqb (field a 0 16) (field b 0 16) (omega (arith, eqb-true (field a 0 8) (field b 0 8) c.0, eqb-true (field a 8 8) (field b 8 8) c.1)))
    (λ h. let e = eqb-true (field a 0 16) (field b 0 16) h in and_made _ _ (eq-eqb (field a 0 8) (field b 0 8) (omega arith)) (eq-eqb (field a 8 8) (field b 8 8) (omega arith)))

-- ---- what is offered, byte by byte

-- the bytes that are not 0, which is computed
unfoldable some-offered : ℕ → Bool
some-offered j = eqb j 3 or eqb j 4 or eqb j 8 or eqb (offered_byte j) 0

inside-offered : (j : ℕ) → j < 32 → some-offered j ≡ true
unfolding below some-offered offered_byte offered ◌and◌ ◌or◌ bytes_of offered_word
inside-offered j l = below_at some-offered 32 refl j l

outside_offered : (j : ℕ) → 32 ≤ j → 0 ≡ offered_byte j
unfolding offered_byte
outside_offered j l = sym (get_or-eq_default (offered word_room) 0 (omega (arith, offered-length word_room)))

pub none-offered : (j : ℕ) → (j ≡ 3 → ⊥) → (j ≡ 4 → ⊥) → (j ≡ 8 → ⊥) → 0 ≡ offered_byte j
unfolding some-offered ◌or◌
none-offered j a b c = go (ltb j 32) refl
  where
    go : (t : Bool) → ltb j 32 ≡ t → 0 ≡ offered_byte j
    go true e = sym (eqb-true _ _ (rw (ne_eqb j 3 a, ne_eqb j 4 b, ne_eqb j 8 c) at (inside-offered j (ltb-true j 32 e))))
    go false e = outside_offered j (ltb-false j 32 e)

-- ---- the good bytes of a value

-- a value that is good at once
pub good-whole : (w : ℕ) → w ≤ word_room → (i : ℕ) → i < row_count → (v : List ℕ) → Bytes v → (leb (size_of w i) (length v) and passes (content_checks w (kind_of i) (take (size_of w i) v))) ≡ true → MostGood w i v (size_of w i)
good-whole w small i lt v vb h =
    let b = and_true _ _ h in
    let le = leb-true (size_of w i) (length v) b.0 in
    let each = good-bytes w small i lt (take (size_of w i) v) (bytes_take (size_of w i) v vb) (passes_true _ b.1) in
    record {
      good = record {
        size = omega arith;
        inside = le;
        each = λ j l. sym (byte-local (take (size_of w i) v) v j (λ k m. get_or-take (size_of w i) v k 0 (omega arith)) i) ∙ each j l;
      };
      ends = λ l. absurd (omega arith);
    }

-- ---- a queue's bytes that have a rule for a range

module _ (v : List ℕ) (j : ℕ) where
  pub queue-reserved : 5 ≤ j → j < 8 → eqb (get_or v j 0) 0 ≡ queue_byte v j
  unfolding queue_byte pick ◌and◌
  queue-reserved l h =
      rw (ne_eqb j 0 (λ e. omega arith), ne_eqb j 1 (λ e. omega arith), ne_eqb j 4 (λ e. omega arith), le-leb 5 j l, le-leb j 7 (omega arith))

  pub queue-free : (j ≡ 0 → ⊥) → (j ≡ 1 → ⊥) → (j ≡ 4 → ⊥) → (j ≡ 8 → ⊥) → (j ≡ 16 → ⊥) → (j ≡ 24 → ⊥) → (5 ≤ j → j ≤ 7 → ⊥) → true ≡ queue_byte v j
  unfolding queue_byte pick
  queue-free n₀ n₁ n₄ n₈ n₁₆ n₂₄ out =
      let outside : (leb 5 j and leb j 7) ≡ false = is_false _ (λ t. let b = and_true _ _ t in out (leb-true 5 j b.0) (leb-true j 7 b.1)) in
      rw (ne_eqb j 0 n₀, ne_eqb j 1 n₁, ne_eqb j 4 n₄, outside, ne_eqb j 8 n₈, ne_eqb j 16 n₁₆, ne_eqb j 24 n₂₄)

-- ---- what is found of a row

module _ (w i : ℕ) (h : List ℕ) where
  pub found-absent : (n : ℕ) → Common (header w i) h n → n < header_size → Finds w i h (Absent n)
  unfolding Finds
  found-absent n head short = record { short = short; head = head }

  whole-header : (n : ℕ) → Common (header w i) h n → header_size ≤ n → Common (header w i) h header_size
  whole-header n head le = let e : n ≡ header_size = omega (arith, head.first, header-long w i) in rw e at head

  module _ (n m : ℕ) (head : Common (header w i) h n) (le : header_size ≤ n) (value : MostGood w i (drop header_size h) m) where
    pub found_broken : m < size_of w i → Finds w i h (Broken (header_size + m))
    unfolding Finds
    found_broken lt = record { value = m; long = refl; head = whole-header n head le; short = lt; good = value }

    pub found-whole : size_of w i ≤ m → Finds w i h (Whole (header_size + m))
    unfolding Finds
    found-whole ge =
        let e : m ≡ size_of w i = omega (arith, value.good.size) in
        record { long = ap (λ (k : ℕ). header_size + k) e; head = whole-header n head le; value = rw e at value.good }

  -- the answer, by its case, lies in the stream
  pub is_whole : (r : Part) (n : ℕ) → Finds w i h r → r ≡ Whole n → IsWhole w i h n
  unfolding Finds
  is_whole r n found e = rw e at found

  pub is_broken : (r : Part) (n : ℕ) → Finds w i h r → r ≡ Broken n → IsBroken w i h n
  unfolding Finds
  is_broken r n found e = rw e at found

  pub is-absent : (r : Part) (n : ℕ) → Finds w i h r → r ≡ Absent n → IsAbsent w i h n
  unfolding Finds
  is-absent r n found e = rw e at found

  pub whole-inside : (n : ℕ) → IsWhole w i h n → n ≤ length h
  whole-inside n whole = omega (arith, length-drop header_size h, whole.long, whole.value.inside, whole.head.second)

  pub broken_inside : (n : ℕ) → IsBroken w i h n → n ≤ length h
  broken_inside n broken = omega (arith, length-drop header_size h, broken.long, broken.good.good.inside, broken.head.second)
