-- What is saved is stepped over part by part, has a length within bounds, and loads again.
use Prim.Native.Nat.{ℕ, zero, suc, ◌+◌, ◌-◌, ◌*◌, ◌^◌, ◌≤◌, ◌<◌}
use native.Mathlib.Omega.{arith}
use mathlib.Core.Path.{◌≡◌, refl, sym, ◌∙◌, ap}
use mathlib.Core.Bool.{Bool, true, false, false≢true}
use mathlib.Core.List.{List, [], ◌∷◌, ◌++◌, append_assoc, append-nil}
use mathlib.Core.Option.{Option, none, some}
use lib.ListN.{length, get_or, set, take, drop, replicate, length-append}
use lib.Seq.{take_at, take_all, take-suc, append_snoc, set_at as set-seam, get_or_at, length-take-le, drop-append_seam, drop-append-add}
use lib.Dec.{eqb, ltb, leb}
use borrow.Author.Tests.{ltb-true, leb-true, eqb-true, eq-eqb, lt-ltb, le-ltb, lt-leb}
use Rattle.answer.specs.Tests.{◌and◌, ◌or◌, pick, is_some}
use Rattle.answer.specs.Codes.{Running}
use Rattle.answer.specs.Checks.{Pass, ◌then◌, ◌when◌, ◌unless◌, ◌at◌}
use Rattle.answer.specs.Limits.{transfer_limit, length_check}
use Rattle.answer.specs.Answer.{done, settle, ◌onward◌}
use Rattle.answer.proofs.Tests.{and_true, below, below_at}
use Rattle.wire.specs.Field.{field, bytes_of}
use Rattle.wire.proofs.Laws.{field-bytes}
use Rattle.registers.specs.Cards.{word_room}
use Rattle.registers.specs.Rows.{row_count, status_row, kind_of, selector_of, width_of, size_in, size_of, selects, listed, selector_width}
use Rattle.registers.specs.Values.{offered, value_checks}
use Rattle.registers.specs.File.{File, kept_count, current, sound_values_from, sound_file, sized_from}
use Rattle.registers.proofs.Cards.{card-small}
use Rattle.registers.proofs.Rows.{size-most, kind_fits, selector-fits, row_of-row}
use Rattle.registers.proofs.Values.{value-size}
use Rattle.registers.proofs.File.{current-sound, current-sized, sound-sized}
use Rattle.parts.specs.Step.{Part, header_size, value_size, part_at, part_step, step_at, value_to}
use Rattle.parts.specs.Load.{Seen, flags_of, listed_checks, part_checks, named, taken, finish, on_step, load_from, load}
use Rattle.parts.specs.Save.{encoded, part_of, saved_from, saved}
use Rattle.parts.specs.RoundTrip.{RoundTrip}
use Rattle.parts.proofs.Steps.{part-whole, step_end, step_part}
use Rattle.parts.proofs.Saving.{length-encoded}
use Rattle.parts.proofs.Loading.{load_passed}

-- ---- one part, written and read

flags-fit : (i : ℕ) → i < row_count → flags_of (kind_of i) ≤ 1
unfolding flags_of kind_of below ◌and◌ pick
flags-fit i h = leb-true _ _ (below_at (λ i. leb (flags_of (kind_of i)) 1) row_count refl i h)

module _ (w : ℕ) (small : w ≤ word_room) (i : ℕ) (v post : List ℕ) (lt : i < row_count) (size : length v ≡ size_of w i) where
  long : length (encoded w i v ++ post) ≡ header_size + size_of w i + length post
  long = omega (arith, length-append (encoded w i v) post, length-encoded w i v)

  is-kind : field (encoded w i v ++ post) 0 2 ≡ kind_of i
  unfolding encoded bytes_of field
  is-kind = field-bytes 2 (kind_of i) [] (kind_fits i lt)

  is-flags : field (encoded w i v ++ post) 2 1 ≡ flags_of (kind_of i)
  unfolding encoded bytes_of field
  is-flags = field-bytes 1 (flags_of (kind_of i)) [] (omega (arith, flags-fit i lt))

  is-reserved : field (encoded w i v ++ post) 3 1 ≡ 0
  unfolding encoded bytes_of field
  is-reserved = refl

  is-selector : field (encoded w i v ++ post) 4 8 ≡ selector_of i
  unfolding encoded bytes_of field
  is-selector = field-bytes 8 (selector_of i) [] (selector-fits i lt)

  is-size : value_size (encoded w i v ++ post) ≡ size_of w i
  unfolding encoded bytes_of field value_size
  is-size = field-bytes 4 (size_of w i) [] (omega (arith, size-most w i small lt))

  read-part : (p : ℕ) → Part (kind_of i) (flags_of (kind_of i)) (selector_of i) (p + header_size + size_of w i) ≡ part_step (encoded w i v ++ post) p
  unfolding part_at
  read-part p =
      simp (is-kind, is-flags, is-selector, is-size) at
      (part-whole (encoded w i v ++ post) p (omega (arith, long)) (omega (arith, is-flags, flags-fit i lt)) is-reserved (omega (arith, is-size, long)))

  -- A step over what saving writes for a row, wherever it stands, hands back the row's type, flags, selector and value.
  pub step-saved : (pre : List ℕ)
      → Part (kind_of i) (flags_of (kind_of i)) (selector_of i) (length pre + header_size + size_of w i) ≡ step_at (pre ++ (encoded w i v ++ post)) (length pre)
  step-saved pre =
      read-part (length pre)
      ∙ ap (λ (h : List ℕ). part_step h (length pre)) (sym (drop-append_seam pre (encoded w i v ++ post)))
      ∙ step_part _ (length pre) (omega (arith, length-append pre (encoded w i v ++ post), long))

  body : drop header_size (encoded w i v ++ post) ≡ v ++ post
  unfolding encoded bytes_of
  body = refl

  pub value-saved : (pre : List ℕ) → value_to (pre ++ (encoded w i v ++ post)) (length pre) (length pre + header_size + size_of w i) ≡ v
  unfolding value_to
  value-saved pre =
      let e : length pre + header_size + size_of w i - (length pre + header_size) ≡ size_of w i = omega arith in
      rw (e, drop-append-add pre (encoded w i v ++ post) header_size, body) (take_at v post (size_of w i) size)

-- ---- how long

-- the most that the `n` rows from `i` on take, and the least: offered features and status are always saved
unfoldable most : ℕ → ℕ → ℕ → ℕ
most w i zero = 0
most w i (suc n) = header_size + size_of w i + most w (suc i) n

unfoldable always : ℕ → Bool
always i = eqb i 0 or eqb i status_row

unfoldable least : ℕ → ℕ → ℕ → ℕ
least w i zero = 0
least w i (suc n) = pick (always i) (header_size + size_of w i) 0 + least w (suc i) n

module _ (w : ℕ) (file : File) (sized : sized_from w 1 file ≡ true) (status : is_some (current w file status_row) ≡ true) where
  always-set : (i : ℕ) → always i ≡ true → is_some (current w file i) ≡ true
  unfolding always current is_some ◌or◌
  always-set i h = go (eqb i 0) refl h
    where
      go : (t : Bool) → eqb i 0 ≡ t → (t or eqb i status_row) ≡ true → is_some (current w file i) ≡ true
      go true e h = ap (λ (j : ℕ). is_some (current w file j)) (eqb-true i 0 e)
      go false e h = ap (λ (j : ℕ). is_some (current w file j)) (eqb-true i status_row h) ∙ status

  part_length : (i : ℕ) (v : List ℕ) → current w file i ≡ some v → length (encoded w i v) ≡ header_size + size_of w i
  part_length i v e = length-encoded w i v ∙ ap (λ (n : ℕ). header_size + n) (current-sized w file i v sized e)

  part-most : (i : ℕ) (x : Option (List ℕ)) → current w file i ≡ x → length (part_of w i x) ≤ header_size + size_of w i
  unfolding part_of
  part-most i none e = omega arith
  part-most i (some v) e = omega (arith, part_length i v e)

  part-least : (i : ℕ) (t : Bool) (x : Option (List ℕ)) → always i ≡ t → current w file i ≡ x → pick t (header_size + size_of w i) 0 ≤ length (part_of w i x)
  unfolding part_of pick is_some
  part-least i true none a e = absurd (false≢true (sym (ap is_some e) ∙ always-set i a))
  part-least i false none a e = omega arith
  part-least i true (some v) a e = omega (arith, part_length i v e)
  part-least i false (some v) a e = omega arith

  saved-most : (n i : ℕ) → length (saved_from w file i n) ≤ most w i n
  unfolding saved_from most
  saved-most zero i = omega arith
  saved-most (suc n) i =
      omega (arith, length-append (part_of w i (current w file i)) (saved_from w file (suc i) n), part-most i (current w file i) refl, saved-most n (suc i))

  saved-least : (n i : ℕ) → least w i n ≤ length (saved_from w file i n)
  unfolding saved_from least
  saved-least zero i = omega arith
  saved-least (suc n) i =
      omega (arith, length-append (part_of w i (current w file i)) (saved_from w file (suc i) n), part-least i (always i) (current w file i) refl refl, saved-least n (suc i))

  -- rule 5.14: 41 to 429 bytes are saved of a card with one word of features, and 49 to 445 of one with two
  pub saved_bounds : (33 + 8 * w ≤ length (saved w file)) × (length (saved w file) ≤ 413 + 16 * w)
  unfolding saved most least always size_of size_in width_of pick ◌or◌
  saved_bounds = let least = saved-least row_count 0 in let most = saved-most row_count 0 in (omega arith, omega arith)

-- ---- a part of a saved stream, loaded

unfoldable rule : ℕ → Bool
rule i = ltb (kind_of i) 0x600 and listed (kind_of i) and ltb (selector_of i) (256 ^ selector_width (kind_of i))

rule-holds : (i : ℕ) → i < row_count → rule i ≡ true
unfolding rule kind_of selector_of listed selector_width below ◌and◌ pick
rule-holds i h = below_at rule row_count refl i h

-- each row's part has a listed type and a selector inside its field
row-rule : (i : ℕ) → i < row_count
    → (leb 0x600 (kind_of i) ≡ false) × (listed (kind_of i) ≡ true) × (ltb (selector_of i) (256 ^ selector_width (kind_of i)) ≡ true)
unfolding rule
row-rule i h =
    let b = and_true _ _ (rule-holds i h) in
    let d = and_true _ _ b.0 in
    (lt-leb 0x600 (kind_of i) (ltb-true _ _ d.0), d.1, b.1)

module _ (w : ℕ) (small : w ≤ word_room) (seen : Seen) (i : ℕ) (v : List ℕ) (lt : i < row_count) where
  part-passes : get_or seen i none ≡ none → value_checks w i false v ≡ Pass
      → part_checks w (named seen (kind_of i) (selector_of i)) (kind_of i) (flags_of (kind_of i)) (selector_of i) v ≡ Pass
  unfolding part_checks listed_checks named selects is_some ◌then◌ ◌when◌ ◌unless◌ pick
  part-passes e h =
      let r = row-rule i lt in
      rw (r.0, r.1, eq-eqb (flags_of (kind_of i)) _ refl, r.2, row_of-row i lt, lt-ltb _ _ lt, e) h

  part-taken : taken seen (kind_of i) (selector_of i) v ≡ set seen i (some v)
  unfolding taken pick
  part-taken = rw ((row-rule i lt).1, row_of-row i lt)

  turn : (k : ℕ) (pre post : List ℕ) → get_or seen i none ≡ none → value_checks w i false v ≡ Pass
      → load_from w (suc k) (pre ++ (encoded w i v ++ post)) (length pre) seen
      ≡ load_from w k (pre ++ (encoded w i v ++ post)) (length pre + header_size + size_of w i) (set seen i (some v))
  unfolding load_from on_step settle ◌onward◌ ◌at◌
  turn k pre post e h =
      let size = value-size w i false v h in
      rw (← step-saved w small i v post lt size pre, value-saved w small i v post lt size pre, part-passes e h, part-taken)

-- ---- what is seen of a saved stream

-- what every row shows
abbrev shown : ℕ → File → Seen
shown w file = some (offered w) ∷ file

current-shown : (w : ℕ) (file : File) (i : ℕ) → current w file i ≡ get_or (shown w file) i none
unfolding current
current-shown w file zero = refl
current-shown w file (suc i) = refl

-- the first `i` rows seen
unfoldable seen_to : Seen → ℕ → Seen
seen_to all i = take i all ++ replicate (row_count - i) none

module _ (all : Seen) (long : length all ≡ row_count) where
  module _ (i : ℕ) (lt : i < row_count) where
    before : seen_to all i ≡ take i all ++ (none ∷ replicate (row_count - suc i) none)
    unfolding seen_to
    before = let e : row_count - i ≡ suc (row_count - suc i) = omega arith in rw e

    behind : seen_to all (suc i) ≡ take i all ++ (get_or all i none ∷ replicate (row_count - suc i) none)
    unfolding seen_to
    behind = rw (take-suc all i none (omega arith)) (append_snoc (take i all) (get_or all i none) _)

    there : length (take i all) ≡ i
    there = length-take-le i all (omega arith)

    unseen : get_or (seen_to all i) i none ≡ none
    unseen = ap (λ (l : Seen). get_or l i none) before ∙ get_or_at (take i all) none _ none i there

    seen_none : get_or all i none ≡ none → seen_to all i ≡ seen_to all (suc i)
    seen_none e = before ∙ ap (λ (x : Option (List ℕ)). take i all ++ (x ∷ replicate (row_count - suc i) none)) (sym e) ∙ sym behind

    seen_more : (v : List ℕ) → get_or all i none ≡ some v → set (seen_to all i) i (some v) ≡ seen_to all (suc i)
    seen_more v e =
        ap (λ (l : Seen). set l i (some v)) before ∙ set-seam (take i all) none _ (some v) i there
        ∙ ap (λ (x : Option (List ℕ)). take i all ++ (x ∷ replicate (row_count - suc i) none)) (sym e) ∙ sym behind

  seen_all : seen_to all row_count ≡ all
  unfolding seen_to
  seen_all = append-nil _ ∙ take_all row_count all (omega arith)

-- ---- the round trip

module _ (w : ℕ) (small : w ≤ word_room) (file : File) (long : length file ≡ kept_count) (sound : sound_file w file ≡ true) where
  rows : length (shown w file) ≡ row_count
  rows = omega arith

  status_set : is_some (current w file status_row) ≡ true
  unfolding sound_file
  status_set = (and_true _ _ sound).0

  all_sound : sound_values_from w 1 file ≡ true
  unfolding sound_file
  all_sound = (and_true _ _ sound).1

  ended : (p : ℕ) → finish (seen_to (shown w file) row_count) p ≡ done file
  unfolding finish settle ◌unless◌ ◌at◌
  ended p = rw (seen_all (shown w file) rows, ← current-shown w file status_row, status_set)

  -- row `i`, where the rows behind it load whatever stands before them
  row : (i : ℕ) → i < row_count → (n k : ℕ) (pre : List ℕ) (x : Option (List ℕ)) → current w file i ≡ x
      → ((k' : ℕ) (pre' : List ℕ) → n < k' → load_from w k' (pre' ++ saved_from w file (suc i) n) (length pre') (seen_to (shown w file) (suc i)) ≡ done file)
      → n < k → load_from w (suc k) (pre ++ (part_of w i x ++ saved_from w file (suc i) n)) (length pre) (seen_to (shown w file) i) ≡ done file
  unfolding part_of
  row i lt n k pre none e rest l = rw (seen_none (shown w file) rows i lt (sym (current-shown w file i) ∙ e)) (rest (suc k) pre (omega arith))
  row i lt n k pre (some v) e rest l =
      let good = current-sound w file i v all_sound e in
      let post = saved_from w file (suc i) n in
      let next : length (pre ++ encoded w i v) ≡ length pre + header_size + size_of w i = omega (arith, length-append pre (encoded w i v), length-encoded w i v, value-size w i false v good) in
      turn w small (seen_to (shown w file) i) i v lt k pre post (unseen (shown w file) rows i lt) good
      ∙ rw (seen_more (shown w file) rows i lt v (sym (current-shown w file i) ∙ e)) (rw (append_assoc pre (encoded w i v) post, next) at (rest k (pre ++ encoded w i v) l))

  -- the `n` rows from `i` on, behind the parts of the rows before
  trip : (n i k : ℕ) (pre : List ℕ) → i + n ≡ row_count → n < k → load_from w k (pre ++ saved_from w file i n) (length pre) (seen_to (shown w file) i) ≡ done file
  unfolding load_from on_step saved_from
  trip zero i k pre e lt =
      let one : k ≡ suc (k - 1) = omega arith in
      let last : i ≡ row_count = omega arith in
      rw (one, append-nil pre, last, ← step_end pre (length pre) refl) (ended (length pre))
  trip (suc n) i k pre e lt =
      let one : k ≡ suc (k - 1) = omega arith in
      rw one (row i (omega arith) n (k - 1) pre (current w file i) refl (λ k' pre' l. trip n (suc i) k' pre' (omega arith) l) (omega arith))

  -- a stream that is not too long
  whole_stream : (s : List ℕ) → length s ≤ transfer_limit → Pass ≡ (Running when false then length_check (length s))
  unfolding length_check ◌then◌ ◌when◌
  whole_stream s h = rw (le-ltb _ _ h)

  -- What is saved loads again.
  round_trip_lem : load w false (saved w file) ≡ done file
  unfolding saved seen_to
  round_trip_lem =
      let bounds = saved_bounds w file (sound-sized w 1 file all_sound) status_set in
      load_passed w false (saved w file) (whole_stream (saved w file) (omega (arith, bounds.1))) ∙ trip row_count 0 (suc (length (saved w file))) [] refl (omega (arith, bounds.0))

pub round_trips : RoundTrip
unfolding RoundTrip
round_trips w card file long sound = round_trip_lem w (card-small w card) file long sound
