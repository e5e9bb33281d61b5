-- Laws of the table of registers: its rules, each computed once over all rows, and the search for a row.
use Prim.Native.Nat.{ℕ, zero, suc, ◌+◌, ◌*◌, ◌^◌, ◌≤◌, ◌<◌}
use native.Mathlib.Omega.{arith}
use mathlib.Core.Path.{◌≡◌, refl, sym, ◌∙◌, ap}
use mathlib.Core.Bool.{Bool, true, false, not}
use mathlib.Core.List.{map}
use mathlib.Core.Logic.{◌⊎◌, inl, inr, ⊎_elim}
use lib.ListN.{get_or, get_or-map}
use lib.Dec.{eqb, ltb, leb}
use borrow.Author.Tests.{eq-eqb, eqb-true, leb-true, le-leb, ltb-true, ltb-false, le-ltb}
use Rattle.answer.specs.Tests.{◌and◌, ◌or◌, pick}
use Rattle.answer.proofs.Tests.{and_true, and_made, below, below_at}
use Rattle.registers.specs.Cards.{word_room}
use Rattle.registers.specs.Rows.{Width, fixed, features, Row, rows, no_row, row_count, OfferedFeatures, NotifyConfig, kind_of, selector_of, width_of, size_in, size_of, row_from, row_of, selects, listed}

-- A column of the table: a list that computes to it has at each place what the row there has.
pub column : (f : Row → ℕ) (i : ℕ) → get_or (map f rows) i (f no_row) ≡ f (get_or rows i no_row)
column f i = get_or-map f rows i no_row

-- A column that has one value over a range of rows, which is computed.
pub in_range_lem : (f : ℕ → ℕ) (x low high : ℕ) → below (λ i. ltb i low or eqb (f i) x) high ≡ true → (i : ℕ) → low ≤ i → i < high → x ≡ f i
unfolding ◌or◌
in_range_lem f x low high all i l h = sym (eqb-true _ _ (rw (le-ltb i low l) at (below_at (λ k. ltb k low or eqb (f k) x) high all i h)))

-- ---- rules of the rows

unfoldable narrow : Width → Bool
narrow (fixed n) = leb n 32
narrow features = true

pub size-most : (w i : ℕ) → w ≤ word_room → i < row_count → size_of w i ≤ 32
unfolding size_of size_in width_of below narrow ◌and◌
size-most w i small h = go (width_of i) (below_at (λ i. narrow (width_of i)) row_count refl i h)
  where
    go : (x : Width) → narrow x ≡ true → size_in w x ≤ 32
    go (fixed n) e = leb-true n 32 e
    go features e = omega arith

-- the values of the first two rows are the card's features
pub features-size : (w i : ℕ) → i < 2 → 8 * w ≡ size_of w i
unfolding size_of size_in width_of
features-size w zero h = refl
features-size w (suc zero) h = refl
features-size w (suc (suc i)) h = absurd (omega arith)

pub kind_fits : (i : ℕ) → i < row_count → kind_of i < 256 ^ 2
unfolding kind_of below ◌and◌
kind_fits i h = ltb-true _ _ (below_at (λ i. ltb (kind_of i) (256 ^ 2)) row_count refl i h)

pub kind-listed : (i : ℕ) → i < row_count → (OfferedFeatures ≤ kind_of i) × (kind_of i ≤ NotifyConfig)
unfolding kind_of below ◌and◌
kind-listed i h =
    let b = and_true _ _ (below_at (λ i. leb OfferedFeatures (kind_of i) and leb (kind_of i) NotifyConfig) row_count refl i h) in
    (leb-true _ _ b.0, leb-true _ _ b.1)

pub selector-fits : (i : ℕ) → i < row_count → selector_of i < 256 ^ 8
unfolding selector_of below ◌and◌
selector-fits i h = ltb-true _ _ (below_at (λ i. ltb (selector_of i) (256 ^ 8)) row_count refl i h)

-- only the first row is of offered features
pub kept_row : (i : ℕ) → i < row_count → (kind_of i ≡ OfferedFeatures → ⊥) → 0 < i
unfolding kind_of
kept_row zero h other = absurd (other refl)
kept_row (suc i) h other = omega arith

-- ---- the search

record Found (kind selector end i : ℕ) : Type 0 where
  inside : i < end
  same_kind : kind_of i ≡ kind
  same-selector : selector_of i ≡ selector

-- it ends behind the rows, or at one of the type and the selector number asked for
search-ends : (kind selector i n : ℕ) → (i + n ≡ row_from kind selector i n) ⊎ Found kind selector (i + n) (row_from kind selector i n)
unfolding row_from pick
search-ends kind selector i zero = inl (omega arith)
search-ends kind selector i (suc n) = go (eqb (kind_of i) kind and eqb (selector_of i) selector) refl (search-ends kind selector (suc i) n)
  where
    go : (t : Bool) → (eqb (kind_of i) kind and eqb (selector_of i) selector) ≡ t
        → (suc i + n ≡ row_from kind selector (suc i) n) ⊎ Found kind selector (suc i + n) (row_from kind selector (suc i) n)
        → (i + suc n ≡ pick t i (row_from kind selector (suc i) n)) ⊎ Found kind selector (i + suc n) (pick t i (row_from kind selector (suc i) n))
    go true e rest =
        let b = and_true _ _ e in
        inr record { inside = omega arith; same_kind = eqb-true _ _ b.0; same-selector = eqb-true _ _ b.1 }
    go false e rest = let n' : i + suc n ≡ suc i + n = omega arith in rw n' rest

pub row-kind : (kind selector : ℕ) → row_of kind selector < row_count → kind_of (row_of kind selector) ≡ kind
unfolding row_of
row-kind kind selector h = ⊎_elim (λ e. absurd (omega arith)) (λ f. f.same_kind) (search-ends kind selector 0 row_count)

-- where no row is of the type and the selector number
pub no_row_lem : (kind selector : ℕ) → ((i : ℕ) → i < row_count → kind_of i ≡ kind → selector_of i ≡ selector → ⊥) → row_count ≡ row_of kind selector
unfolding row_of
no_row_lem kind selector other =
    ⊎_elim (λ e. e) (λ f. absurd (other _ f.inside f.same_kind f.same-selector)) (search-ends kind selector 0 row_count)

-- The rows of a type whose selector numbers are those below `count`, in their order from row `first` on: computed for the rows that there are,
-- and for those that there are not.
pub among : (kind first count : ℕ) → below (λ k. eqb (row_of kind k) (first + k)) count ≡ true
    → below (λ i. not (eqb (kind_of i) kind) or ltb (selector_of i) count) row_count ≡ true
    → (selector : ℕ) → pick (ltb selector count) (first + selector) row_count ≡ row_of kind selector
unfolding pick ◌or◌
among kind first count here there selector = go (ltb selector count) refl
  where
    go : (t : Bool) → ltb selector count ≡ t → pick t (first + selector) row_count ≡ row_of kind selector
    go true e = sym (eqb-true _ _ (below_at (λ k. eqb (row_of kind k) (first + k)) count here selector (ltb-true _ _ e)))
    go false e = no_row_lem kind selector (λ i lt p q. omega (arith, ltb-false selector count e, ltb-true (selector_of i) count (rw (eq-eqb _ _ p) at (below_at (λ i. not (eqb (kind_of i) kind) or ltb (selector_of i) count) row_count there i lt))))

-- and that type is listed
pub row_listed : (kind selector : ℕ) → row_of kind selector < row_count → listed kind ≡ true
unfolding listed
row_listed kind selector h =
    let b = kind-listed (row_of kind selector) h in
    ap listed (sym (row-kind kind selector h)) ∙ and_made _ _ (le-leb _ _ b.0) (le-leb _ _ b.1)

pub selected : (kind selector : ℕ) → selects kind selector ≡ true → row_of kind selector < row_count
unfolding selects
selected kind selector h = ltb-true _ _ h

-- each row is the one of its type and selector number
pub row_of-row : (i : ℕ) → i < row_count → row_of (kind_of i) (selector_of i) ≡ i
unfolding row_of row_from kind_of selector_of below ◌and◌ pick
row_of-row i h = eqb-true _ _ (below_at (λ i. eqb (row_of (kind_of i) (selector_of i)) i) row_count refl i h)
