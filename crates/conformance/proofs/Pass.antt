-- The pass over a stream, row by row: what holds at the head of its loop, and each way on and out.
use Prim.Native.Nat.{ℕ, zero, suc, ◌+◌, ◌-◌, ◌≤◌, ◌<◌}
use native.Mathlib.Omega.{arith}
use mathlib.Core.Path.{◌≡◌, refl, sym, ◌∙◌, ap, subst}
use mathlib.Core.Bool.{Bool, true, false, true≢false}
use mathlib.Core.List.{List, [], ◌∷◌, ◌++◌, append_assoc, append-nil}
use mathlib.Core.Option.{Option, none, some}
use mathlib.Core.Logic.{◌⊎◌, inl, inr, ⊎_elim}
use lib.ListN.{length, get_or, set, take, drop, replicate, get_elem?, length-drop}
use lib.Seq.{length-take-le, take_all, take-add, take_at, drop_at, get_or-set_other}
use lib.Dec.{eqb, ltb}
use borrow.Author.Tests.{eqb-true, eqb-false, ltb-true, ltb-false}
use Rattle.registers.specs.Cards.{word_room}
use Rattle.registers.specs.Rows.{row_count, size_of}
use Rattle.registers.specs.File.{File, with_value, reset, blank}
use Rattle.registers.specs.Access.{or_empty}
use Rattle.registers.proofs.Soundness.{reset-sound}
use Rattle.parts.specs.Step.{header_size}
use Rattle.parts.specs.Save.{encoded, saved}
use Rattle.parts.proofs.Saving.{rest, rest_end, length-encoded}
use Rattle.registers.proofs.File.{none≢some}
use Rattle.conformance.specs.Saves.{Bytes, State, IsSave, Begins, Longest}
use Rattle.conformance.specs.Bytes.{required}
use Rattle.conformance.specs.Scan.{IsWhole, IsBroken, IsAbsent}
use Rattle.conformance.proofs.Lists.{Apart, elem_in, elem_out, apart_more, apart-behind, alike-take, take-alike, same_or_apart}
use Rattle.conformance.proofs.Values.{Filled, filled, unrepaired}
use Rattle.conformance.proofs.Tails.{Tail, tail-part, tail_none, Shown, left_out, part, shows, absent-apart, absent-alike, value-apart, value-alike, rest-apart}

-- ---- a register state

-- the one that reset leaves
pub fresh : (w : ℕ) → State w reset
unfolding reset with_value or_empty
fresh w = record { whole = refl; bytes = bytes; sound = reset-sound w }
  where
    unset : (n i : ℕ) → get_or {A = Option (List ℕ)} (replicate n none) i none ≡ none
    unset zero i = refl
    unset (suc n) zero = refl
    unset (suc n) (suc i) = unset n i

    one : (j : ℕ) → get_or (0 ∷ []) j 0 < 256
    one zero = omega arith
    one (suc j) = omega arith

    bytes : (i j : ℕ) → get_or (or_empty (get_or (set blank 5 (some (0 ∷ []))) i none)) j 0 < 256
    bytes i j = go (eqb i 5) refl
      where
        go : (t : Bool) → eqb i 5 ≡ t → get_or (or_empty (get_or (set blank 5 (some (0 ∷ []))) i none)) j 0 < 256
        go true e = rw (eqb-true i 5 e) (one j)
        go false e = rw (get_or-set_other blank 5 i (some (0 ∷ [])) none (eqb-false i 5 e), unset 14 i) (omega arith)

-- a value of any row
any_value : (w : ℕ) → w ≤ word_room → (i : ℕ) → i < row_count → Filled w i [] 0
any_value w small i lt = filled w small i lt [] (λ j. omega arith) 0 (omega arith) (omega arith) (λ j l. absurd (omega arith))

-- ---- the answer no

-- `k` bytes are reached, and every register state's save is apart from the stream by then
pub judged : (w : ℕ) (s : List ℕ) (k : ℕ) → Begins w k s → ((file : File) → State w file → Apart (saved w file) s (suc k)) → Longest w k s
judged w s k reached apart = record {
  no_save = λ is. let d = apart is.file is.state in d.other (ap (λ (l : List ℕ). get_elem? l d.at) is.same);
  reached = reached;
  most = λ n b. within n b (ltb k n) refl;
}
  where
    within : (n : ℕ) → Begins w n s → (t : Bool) → ltb k n ≡ t → n ≤ k
    within n b true e =
        let d = apart b.file b.state in
        absurd (d.other (sym (take-alike s (saved w b.file) n b.agrees d.at (omega (arith, d.near, ltb-true k n e)))))
    within n b false e = ltb-false k n e

-- ---- the loop

-- At its head: the rows before `row` are decided, and their parts end at `at`. `best` bytes are reached. What is saved from `row` on may
-- stand behind the first `at` bytes, and every save has that form, or is apart from the stream by `best`.
pub record Scanned (w : ℕ) (s : List ℕ) (at best row : ℕ) : Type 0 where
  pub most : row ≤ row_count
  pub before : at ≤ best
  pub near : best < at + header_size
  pub reached : Begins w best s
  pub joins : (t : List ℕ) → Tail w row t → Tail w 0 (take at s ++ t)
  pub ruled : (file : File) → State w file → Apart (saved w file) s (suc best) ⊎ (saved w file ≡ take at s ++ rest w file row)

pub scan-start : (w : ℕ) (s : List ℕ) → Scanned w s 0 0 0
unfolding saved
scan-start w s = record {
  most = omega arith;
  before = omega arith;
  near = omega arith;
  reached = record { file = reset; state = fresh w; inside = omega arith; agrees = refl };
  joins = λ t tail. tail;
  ruled = λ file state. inr refl;
}

module _ (w : ℕ) (small : w ≤ word_room) (s : List ℕ) (at best row : ℕ) (here : Scanned w s at best row) where
  pub inside : at ≤ length s
  inside = omega (arith, here.before, here.reached.inside)

  -- what is left of the stream
  abbrev left : List ℕ
  left = drop at s

  left-long : length left ≡ length s - at
  left-long = length-drop at s

  -- what a tail reaches behind the first `at` bytes
  reach : (n : ℕ) (t : List ℕ) → Tail w row t → n ≤ length left → take n t ≡ take n left → Begins w (at + n) s
  unfolding saved
  reach n t tail le e =
      let whole = here.joins t tail in
      let there = length-take-le at s inside in
      record {
        file = whole.file;
        state = whole.state;
        inside = omega (arith, left-long, inside);
        agrees =
            take-add at n s ∙ ap (λ (l : List ℕ). take at s ++ l) (sym e)
            ∙ sym (ap (take (at + n)) whole.is ∙ take-add at n (take at s ++ t) ∙ rw (take_at (take at s) t at there, drop_at (take at s) t at there));
      }

  -- a save that is apart from what is left is apart from the stream
  apart-whole : (file : File) (t : List ℕ) (n b : ℕ) → saved w file ≡ take at s ++ rest w file row → rest w file row ≡ t → Apart t left n → at + n ≤ suc b
      → Apart (saved w file) s (suc b)
  apart-whole file t n b e f d le = apart_more le (apart-behind s (saved w file) t at n inside (e ∙ ap (λ (l : List ℕ). take at s ++ l) f) d)

  module _ (lt : row < row_count) where
    -- ---- no more than `n` bytes of the row's header

    module _ (n b : ℕ) (absent : IsAbsent w row left n) (le : best ≤ b) (here-le : at + n ≤ b) (is : (b ≡ best) ⊎ (b ≡ at + n)) where
      absent-reached : Begins w b s
      absent-reached =
          let v = any_value w small row lt in
          ⊎_elim (λ e. rw e here.reached)
          (λ e. rw e (reach n (encoded w row v.value ++ rest w reset (row + 1)) (tail-part w small reset (fresh w) row lt v.value v.long v.bytes v.good) absent.head.second (absent-alike w row v.value (rest w reset (row + 1)) left n absent.head)))
          is

      absent-ruled : (file : File) → State w file → Apart (saved w file) s (suc b) ⊎ ((required row ≡ false) × (saved w file ≡ take at s ++ rest w file (row + 1)))
      absent-ruled file state = ⊎_elim (λ d. inl (apart_more (omega arith) d)) (λ e. go e (shows w small file state row lt)) (here.ruled file state)
        where
          go : saved w file ≡ take at s ++ rest w file row → Shown w file row → Apart (saved w file) s (suc b) ⊎ ((required row ≡ false) × (saved w file ≡ take at s ++ rest w file (row + 1)))
          go e (left_out free f) = inr (free, e ∙ ap (λ (l : List ℕ). take at s ++ l) f)
          go e (part v long vb good f) =
              inl (apart-whole file _ (suc n) b e f (absent-apart w row v (rest w file (row + 1)) left n absent.short absent.head) (omega arith))

      -- the row is left out
      pub scan-left_out : required row ≡ false → Scanned w s at b (row + 1)
      scan-left_out free = record {
        most = omega arith;
        before = omega (arith, here.before);
        near = ⊎_elim (λ e. omega (arith, here.near)) (λ e. omega (arith, absent.short)) is;
        reached = absent-reached;
        joins = λ t tail. rw tail.is at (here.joins _ (tail_none w small tail.file tail.state row lt free));
        ruled = λ file state. ⊎_elim inl (λ e. inr e.1) (absent-ruled file state);
      }

      -- no save lacks the row
      pub scan-required : required row ≡ true → Longest w b s
      scan-required must =
          judged w s b absent-reached (λ file state. ⊎_elim (λ d. d) (λ e. absurd (true≢false (sym must ∙ e.0))) (absent-ruled file state))

    -- ---- the row's header, and some bytes of its value

    module _ (hb : Bytes (drop header_size left)) where
      pub scan_broken : (n : ℕ) → IsBroken w row left n → Longest w (at + n) s
      scan_broken n broken = judged w s (at + n) reached apart
        where
          reached : Begins w (at + n) s
          reached =
              let good = broken.good.good in
              let f = filled w small row lt (drop header_size left) hb broken.value good.size good.inside good.each in
              let long = length-drop header_size left in
              rw broken.long
              (reach (header_size + broken.value) (encoded w row f.value ++ rest w reset (row + 1)) (tail-part w small reset (fresh w) row lt f.value f.long f.bytes f.good)
              (omega (arith, good.inside, broken.head.second))
              (value-alike w row f.value (rest w reset (row + 1)) left broken.head broken.value (omega (arith, f.long, broken.short)) f.alike))

          apart : (file : File) → State w file → Apart (saved w file) s (suc (at + n))
          apart file state = ⊎_elim (apart_more (omega (arith, here.near, broken.long))) (λ e. go e (shows w small file state row lt)) (here.ruled file state)
            where
              go : saved w file ≡ take at s ++ rest w file row → Shown w file row → Apart (saved w file) s (suc (at + n))
              go e (left_out free f) =
                  apart-whole file _ header_size (at + n) e f (rest-apart w row left broken.head file lt) (omega (arith, broken.long))
              go e (part v long vb good f) =
                  apart-whole file _ (header_size + suc broken.value) (at + n) e f
                  (value-apart w row v (rest w file (row + 1)) left broken.head (suc broken.value) (omega (arith, broken.short))
                  (unrepaired w small row lt v (drop header_size left) vb long good broken.value broken.short (broken.good.ends broken.short)))
                  (omega (arith, broken.long))

      -- ---- the row's part

      module _ (n : ℕ) (whole : IsWhole w row left n) where
        value : Filled w row (drop header_size left) (size_of w row)
        value = filled w small row lt (drop header_size left) hb (size_of w row) whole.value.size whole.value.inside whole.value.each

        value-is : value.value ≡ take (size_of w row) (drop header_size left)
        value-is = sym (take_all (size_of w row) value.value (omega (arith, value.long))) ∙ alike-take value.value (drop header_size left) (size_of w row) value.alike

        reaches : (r : List ℕ) → take n (encoded w row value.value ++ r) ≡ take n left
        reaches r =
            subst (λ (x : ℕ). take x (encoded w row value.value ++ r) ≡ take x left) (sym whole.long)
            (value-alike w row value.value r left whole.head (size_of w row) (omega (arith, value.long)) value.alike)

        fits : n ≤ length left
        fits = let long = length-drop header_size left in omega (arith, whole.long, whole.value.inside, whole.head.second)

        -- the first bytes are those before and the part
        more : take (at + n) s ≡ take at s ++ encoded w row value.value
        more =
            take-add at n s
            ∙ ap (λ (l : List ℕ). take at s ++ l) (sym (reaches []) ∙ rw (append-nil (encoded w row value.value)) (take_all n (encoded w row value.value) (omega (arith, length-encoded w row value.value, value.long, whole.long))))

        behind : (t : List ℕ) → take at s ++ (encoded w row value.value ++ t) ≡ take (at + n) s ++ t
        behind t = sym (append_assoc (take at s) (encoded w row value.value) t) ∙ ap (λ (l : List ℕ). l ++ t) (sym more)

        pub scan-whole : Scanned w s (at + n) (at + n) (row + 1)
        scan-whole = record {
          most = omega arith;
          before = omega arith;
          near = omega arith;
          reached =
              reach n (encoded w row value.value ++ rest w reset (row + 1)) (tail-part w small reset (fresh w) row lt value.value value.long value.bytes value.good) fits (reaches (rest w reset (row + 1)));
          joins = λ t tail.
              rw (behind t) at (here.joins _ (rw tail.is at (tail-part w small tail.file tail.state row lt value.value value.long value.bytes value.good)));
          ruled = λ file state. ⊎_elim (λ d. inl (apart_more (omega (arith, here.near, whole.long)) d)) (λ e. go file e (shows w small file state row lt)) (here.ruled file state);
        }
          where
            go : (file : File) → saved w file ≡ take at s ++ rest w file row → Shown w file row
                → Apart (saved w file) s (suc (at + n)) ⊎ (saved w file ≡ take (at + n) s ++ rest w file (row + 1))
            go file e (left_out free f) = inl (apart-whole file _ header_size (at + n) e f (rest-apart w row left whole.head file lt) (omega (arith, whole.long)))
            go file e (part v long vb good f) =
                ⊎_elim
                (λ same. inr (e ∙ ap (λ (l : List ℕ). take at s ++ l) f ∙ ap (λ (x : List ℕ). take at s ++ (encoded w row x ++ rest w file (row + 1))) (same ∙ sym value-is) ∙ behind (rest w file (row + 1))))
                (λ d. inl (apart-whole file _ (header_size + size_of w row) (at + n) e f (value-apart w row v (rest w file (row + 1)) left whole.head (size_of w row) (omega arith) d) (omega (arith, whole.long))))
                (same_or_apart v (drop header_size left) (size_of w row) long whole.value.inside)

  -- ---- no row is left

  module _ (last : row_count ≤ row) where
    pub scan-save : at ≡ length s → IsSave w s
    unfolding saved
    scan-save e =
        let whole = here.joins [] record { file = reset; state = fresh w; is = rest_end w reset row last } in
        record { file = whole.file; state = whole.state; same = whole.is ∙ append-nil (take at s) ∙ take_all at s (omega arith) }

    pub scan-more : (at ≡ length s → ⊥) → Longest w best s
    scan-more more = judged w s best here.reached (λ file state. ⊎_elim (λ d. d) (ended file) (here.ruled file state))
      where
        ended : (file : File) → saved w file ≡ take at s ++ rest w file row → Apart (saved w file) s (suc best)
        ended file e =
            let same : saved w file ≡ take at s = e ∙ ap (λ (l : List ℕ). take at s ++ l) (rest_end w file row last) ∙ append-nil (take at s) in
            record {
              at = at;
              near = omega (arith, here.before);
              other = λ p. none≢some (sym (elem_out (take at s) at (omega (arith, length-take-le at s inside))) ∙ ap (λ (l : List ℕ). get_elem? l at) (sym same) ∙ p ∙ elem_in s at (omega (arith, inside)));
            }
