-- What register states save from a row on, and a row's part at the start of a stream.
use Prim.Native.Nat.{ℕ, zero, suc, ◌+◌, ◌-◌, ◌%◌, ◌≤◌, ◌<◌}
use native.Mathlib.Omega.{arith}
use mathlib.Core.Path.{◌≡◌, refl, sym, ◌∙◌, ap}
use mathlib.Core.Bool.{Bool, true, false, not, false≢true, true≢false}
use mathlib.Core.List.{List, [], ◌++◌}
use mathlib.Core.Option.{Option, none, some}
use lib.ListN.{length, get_or, set, take, drop, get_elem?, length-set}
use lib.Seq.{get_or-set_same, get_or-set_other, length-take-le, take_all, take-add, take_at, drop_at, take-append-le}
use lib.Dec.{eqb}
use borrow.Author.Tests.{eqb-true, eqb-false, not-true}
use Rattle.answer.specs.Tests.{◌and◌, ◌or◌, is_some}
use Rattle.answer.specs.Checks.{Pass, passes}
use Rattle.answer.proofs.Tests.{and_true, and_made, or_left, or_false, below, below_at}
use Rattle.wire.specs.Field.{bytes_of}
use Rattle.registers.specs.Cards.{word_room}
use Rattle.registers.specs.Rows.{row_count, status_row, kind_of, selector_of, size_of}
use Rattle.registers.specs.Values.{content_checks}
use Rattle.registers.specs.File.{File, kept_count, current, sound_value, sound_values_from, sound_file}
use Rattle.registers.specs.Access.{or_empty}
use Rattle.registers.proofs.File.{current-sound, none≢some, some_same}
use Rattle.registers.proofs.Soundness.{sound-put}
use Rattle.registers.proofs.Values.{value-size, value-content}
use Rattle.parts.specs.Step.{header_size}
use Rattle.parts.specs.Save.{encoded, part_of, saved_from}
use Rattle.parts.proofs.Saving.{rest, rest-cons, length-encoded}
use Rattle.conformance.specs.Saves.{Bytes, State}
use Rattle.conformance.specs.Bytes.{header, required}
use Rattle.conformance.specs.Scan.{Common}
use Rattle.conformance.proofs.Lists.{Alike, Apart, elem_append, alike-take, apart-append, apart-behind}
use Rattle.conformance.proofs.Digits.{bytes-offered}
use Rattle.conformance.proofs.Values.{offered_only}

-- ---- a row put into a register state

module _ (w : ℕ) (file : File) (state : State w file) (k : ℕ) (lt : k < kept_count) (x : Option (List ℕ)) where
  shown-same : current w (set file k x) (suc k) ≡ x
  unfolding current
  shown-same = get_or-set_same file k x none (omega (arith, state.whole))

  shown-other : (i : ℕ) → (i ≡ suc k → ⊥) → current w (set file k x) i ≡ current w file i
  unfolding current
  shown-other zero n = refl
  shown-other (suc i) n = get_or-set_other file k i x none (λ e. n (ap suc e))

  put-bytes : Bytes (or_empty x) → (i j : ℕ) → get_or (or_empty (get_or (set file k x) i none)) j 0 < 256
  put-bytes b i j = go (eqb i k) refl
    where
      go : (t : Bool) → eqb i k ≡ t → get_or (or_empty (get_or (set file k x) i none)) j 0 < 256
      go true e = rw (eqb-true i k e, get_or-set_same file k x none (omega (arith, state.whole))) (b j)
      go false e = rw (get_or-set_other file k i x none (eqb-false i k e)) (state.bytes i j)

  put_status : (suc k ≡ status_row → is_some x ≡ true) → is_some (current w (set file k x) status_row) ≡ true
  unfolding sound_file
  put_status h = go (eqb (suc k) status_row) refl
    where
      go : (t : Bool) → eqb (suc k) status_row ≡ t → is_some (current w (set file k x) status_row) ≡ true
      go true e =
          let p = eqb-true (suc k) status_row e in
          ap (λ (i : ℕ). is_some (current w (set file k x) i)) (sym p) ∙ ap is_some shown-same ∙ h p
      go false e = ap is_some (shown-other status_row (λ p. eqb-false (suc k) status_row e (sym p))) ∙ (and_true _ _ state.sound).0

  -- it stays one, where the value is accepted and status is set
  put-state : sound_value w (1 + k) x ≡ true → Bytes (or_empty x) → (suc k ≡ status_row → is_some x ≡ true) → State w (set file k x)
  unfolding sound_file
  put-state good bytes status = record {
    whole = length-set file k x ∙ state.whole;
    bytes = put-bytes bytes;
    sound = and_made _ _ (put_status status) (sound-put w 1 file k x (and_true _ _ state.sound).1 good);
  }

-- files that show the same from a row on save the same from there
saved-same : (w : ℕ) (f g : File) (n i : ℕ) → ((j : ℕ) → i ≤ j → current w f j ≡ current w g j) → saved_from w f i n ≡ saved_from w g i n
unfolding saved_from
saved-same w f g zero i h = refl
saved-same w f g (suc n) i h = rw (h i (omega arith), saved-same w f g n (suc i) (λ j l. h j (omega arith)))

-- ---- what is saved from a row on

-- some register state saves `t` from row `i` on
pub record Tail (w i : ℕ) (t : List ℕ) : Type 0 where
  pub file : File
  pub state : State w file
  pub is : rest w file i ≡ t

module _ (w : ℕ) (small : w ≤ word_room) (file : File) (state : State w file) where
  put_rest : (k : ℕ) → k < kept_count → (x : Option (List ℕ)) → rest w (set file k x) (suc k) ≡ part_of w (suc k) x ++ rest w file (suc k + 1)
  put_rest k lt x =
      rest-cons w small (set file k x) (suc k) (omega arith)
      ∙ rw (shown-same w file state k lt x, saved-same w (set file k x) file (row_count - (suc k + 1)) (suc k + 1) (λ j l. shown-other w file state k lt x j (λ e. omega arith)))

  -- any good value may stand before what is saved behind a row
  pub tail-part : (i : ℕ) → i < row_count → (v : List ℕ) → length v ≡ size_of w i → Bytes v → content_checks w (kind_of i) v ≡ Pass
      → Tail w i (encoded w i v ++ rest w file (i + 1))
  unfolding part_of sound_value passes is_some current or_empty
  tail-part zero lt v long vb good = record {
    file = file;
    state = state;
    is = rest-cons w small file 0 lt ∙ ap (λ (l : List ℕ). encoded w 0 l ++ rest w file 1) (sym (offered_only w small v vb long good));
  }
  tail-part (suc k) lt v long vb good =
      let same : 1 + k ≡ suc k = omega arith in
      record {
        file = set file k (some v);
        state = put-state w file state k (omega arith) (some v) (rw (same, value-content w (suc k) v long, good)) vb (λ e. refl);
        is = put_rest k (omega arith) (some v);
      }

  -- a row that a save may lack may be left out
  pub tail_none : (i : ℕ) → i < row_count → required i ≡ false → Tail w i (rest w file (i + 1))
  unfolding part_of sound_value is_some required or_empty
  tail_none zero lt free = absurd (true≢false (sym (or_left _ _ refl) ∙ free))
  tail_none (suc k) lt free = record {
    file = set file k none;
    state = put-state w file state k (omega arith) none refl (λ j. omega arith) (λ e. absurd (eqb-false (suc k) status_row (or_false _ _ free).1 e));
    is = put_rest k (omega arith) none;
  }

-- what a register state saves of row `i`, and behind it
pub data Shown (w : ℕ) (file : File) (i : ℕ) : Type 0 where
  left_out : required i ≡ false → rest w file i ≡ rest w file (i + 1) → Shown w file i
  part : (v : List ℕ) → length v ≡ size_of w i → Bytes v → content_checks w (kind_of i) v ≡ Pass → rest w file i ≡ encoded w i v ++ rest w file (i + 1) → Shown w file i

module _ (w : ℕ) (small : w ≤ word_room) (file : File) (state : State w file) where
  all_sound : sound_values_from w 1 file ≡ true
  unfolding sound_file
  all_sound = (and_true _ _ state.sound).1

  status_set : is_some (current w file status_row) ≡ true
  unfolding sound_file
  status_set = (and_true _ _ state.sound).0

  shown-bytes : (i : ℕ) (v : List ℕ) → current w file i ≡ some v → Bytes v
  unfolding current or_empty
  shown-bytes zero v e j = rw (ap or_empty e) at (bytes-offered w j)
  shown-bytes (suc i) v e j = rw e at (state.bytes i j)

  unset-free : (i : ℕ) → current w file i ≡ none → required i ≡ false
  unfolding required ◌or◌ current is_some
  unset-free i e = go (eqb i 0) (eqb i status_row) refl refl
    where
      go : (s t : Bool) → eqb i 0 ≡ s → eqb i status_row ≡ t → (s or t) ≡ false
      go true t p q = absurd (none≢some (sym (rw (eqb-true i 0 p) at e)))
      go false true p q = absurd (false≢true (ap is_some (sym (rw (eqb-true i status_row q) at e)) ∙ status_set))
      go false false p q = refl

  pub shows : (i : ℕ) → i < row_count → Shown w file i
  unfolding part_of
  shows i lt = go (current w file i) refl
    where
      go : (x : Option (List ℕ)) → current w file i ≡ x → Shown w file i
      go none e = left_out (unset-free i e) (rest-cons w small file i lt ∙ rw e)
      go (some v) e =
          let good = current-sound w file i v all_sound e in
          let long = value-size w i false v good in
          part v long (shown-bytes i v e) (sym (value-content w i v long) ∙ good) (rest-cons w small file i lt ∙ rw e)

-- ---- a row's part at the start of a stream

module _ (w i : ℕ) where
  pub header-long : length (header w i) ≡ header_size
  unfolding header encoded bytes_of
  header-long = refl

  encoded-is : (v r : List ℕ) → encoded w i v ++ r ≡ header w i ++ (v ++ r)
  unfolding header encoded bytes_of
  encoded-is v r = refl

  first_byte : (v r : List ℕ) → get_elem? (encoded w i v ++ r) 0 ≡ some (kind_of i % 256)
  unfolding encoded bytes_of
  first_byte v r = refl

  fifth_byte : (v r : List ℕ) → get_elem? (encoded w i v ++ r) 4 ≡ some (selector_of i % 256)
  unfolding encoded bytes_of
  fifth_byte v r = refl

  module _ (v r h : List ℕ) where
    -- a header that ceases to agree
    pub absent-apart : (n : ℕ) → n < header_size → Common (header w i) h n → Apart (encoded w i v ++ r) h (suc n)
    absent-apart n lt c =
        let inside : n < length (header w i) = omega (arith, header-long) in
        record {
          at = n;
          near = omega arith;
          other = λ e. c.ends inside (sym (elem_append (header w i) (v ++ r) n inside) ∙ ap (λ (l : List ℕ). get_elem? l n) (sym (encoded-is v r)) ∙ e);
        }

    pub absent-alike : (n : ℕ) → Common (header w i) h n → take n (encoded w i v ++ r) ≡ take n h
    absent-alike n c = rw (encoded-is v r) (take-append-le n (header w i) (v ++ r) c.first ∙ alike-take (header w i) h n c.alike)

    module _ (c : Common (header w i) h header_size) where
      pub header-start : header w i ≡ take header_size h
      header-start = sym (take_all header_size (header w i) (omega (arith, header-long))) ∙ alike-take (header w i) h header_size c.alike

      behind-header : encoded w i v ++ r ≡ take header_size h ++ (v ++ r)
      behind-header = encoded-is v r ∙ ap (λ (l : List ℕ). l ++ (v ++ r)) header-start

      -- a value that ceases to agree
      pub value-apart : (n : ℕ) → n ≤ length v → Apart v (drop header_size h) n → Apart (encoded w i v ++ r) h (header_size + n)
      value-apart n le d = apart-behind h (encoded w i v ++ r) (v ++ r) header_size n c.second behind-header (apart-append v r (drop header_size h) n le d)

      pub value-alike : (m : ℕ) → m ≤ length v → Alike v (drop header_size h) m → take (header_size + m) (encoded w i v ++ r) ≡ take (header_size + m) h
      value-alike m le a =
          rw behind-header
          (take-add header_size m (take header_size h ++ (v ++ r))
          ∙ rw (take_at (take header_size h) (v ++ r) header_size (length-take-le header_size h c.second), drop_at (take header_size h) (v ++ r) header_size (length-take-le header_size h c.second), take-append-le m v r le, alike-take v (drop header_size h) m a)
          (sym (take-add header_size m h)))

-- ---- other rows

-- no two rows have the same type and selector in their low bytes, which is computed
unfoldable twins : ℕ → ℕ → Bool
twins i j = eqb (kind_of i % 256) (kind_of j % 256) and eqb (selector_of i % 256) (selector_of j % 256)

no_twins : (i j : ℕ) → i < j → j < row_count → twins i j ≡ false
unfolding twins below ◌and◌ kind_of selector_of
no_twins i j l h = not-true _ (below_at (λ i. not (twins i j)) j (below_at (λ j. below (λ i. not (twins i j)) j) row_count refl j h) i l)

module _ (w i : ℕ) (h : List ℕ) (c : Common (header w i) h header_size) where
  starts : (j : ℕ) → j < header_size → get_elem? h j ≡ get_elem? (encoded w i [] ++ []) j
  unfolding header
  starts j l = sym (c.alike j l) ∙ sym (elem_append (encoded w i []) [] j (omega (arith, length-encoded w i [])))

  other-apart : (j : ℕ) → i < j → j < row_count → (v r : List ℕ) → Apart (encoded w j v ++ r) h header_size
  unfolding twins ◌and◌
  other-apart j l u v r = go (eqb (kind_of i % 256) (kind_of j % 256)) refl (no_twins i j l u)
    where
      go : (t : Bool) → eqb (kind_of i % 256) (kind_of j % 256) ≡ t → (t and eqb (selector_of i % 256) (selector_of j % 256)) ≡ false → Apart (encoded w j v ++ r) h header_size
      go false e n = record {
        at = 0;
        near = omega arith;
        other = λ p. eqb-false _ _ e (some_same (sym (first_byte w i [] []) ∙ sym (starts 0 (omega arith)) ∙ sym p ∙ first_byte w j v r));
      }
      go true e n = record {
        at = 4;
        near = omega arith;
        other = λ p. eqb-false _ _ n (some_same (sym (fifth_byte w i [] []) ∙ sym (starts 4 (omega arith)) ∙ sym p ∙ fifth_byte w j v r));
      }

  saved-apart : (file : File) (n j : ℕ) → i < j → j + n ≡ row_count → Apart (saved_from w file j n) h header_size
  unfolding saved_from part_of
  saved-apart file zero j l e = record {
    at = 0;
    near = omega arith;
    other = λ p. none≢some (p ∙ starts 0 (omega arith) ∙ first_byte w i [] []);
  }
  saved-apart file (suc n) j l e = go (current w file j) (saved-apart file n (suc j) (omega arith) (omega arith))
    where
      go : (x : Option (List ℕ)) → Apart (saved_from w file (suc j) n) h header_size → Apart (part_of w j x ++ saved_from w file (suc j) n) h header_size
      go none rest = rest
      go (some v) rest = other-apart j l (omega arith) v (saved_from w file (suc j) n)

  -- What is saved behind a row is apart from that row's header.
  pub rest-apart : (file : File) → i < row_count → Apart (rest w file (i + 1)) h header_size
  rest-apart file lt = saved-apart file (row_count - (i + 1)) (i + 1) (omega arith) (omega arith)
