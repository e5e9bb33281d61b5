-- Laws of lists by their elements, where an element past the end is none.
use Prim.Native.Nat.{ℕ, zero, suc, ◌+◌, ◌≤◌, ◌<◌}
use native.Mathlib.Nat.{not-suc-le-zero, zero-add, suc-add}
use native.Mathlib.Omega.{arith}
use mathlib.Core.Path.{◌≡◌, refl, sym, ◌∙◌, ap}
use mathlib.Core.Bool.{Bool, true, false}
use mathlib.Core.List.{List, [], ◌∷◌, ◌++◌}
use mathlib.Core.Option.{Option, none, some}
use mathlib.Core.Logic.{◌⊎◌, inl, inr, ⊎_elim}
use lib.ListN.{length, get_or, take, drop, get_elem?}
use lib.Seq.{length-take-le, take_all}
use lib.Dec.{eqb}
use Rattle.registers.proofs.File.{none≢some, some_same}
use borrow.Author.Tests.{eqb-true, eqb-false}

-- ---- one element

pub elem_in : (l : List ℕ) (j : ℕ) → j < length l → get_elem? l j ≡ some (get_or l j 0)
elem_in [] j h = absurd (not-suc-le-zero h)
elem_in (x ∷ l) zero h = refl
elem_in (x ∷ l) (suc j) h = elem_in l j (omega arith)

pub elem_out : (l : List ℕ) (j : ℕ) → length l ≤ j → get_elem? l j ≡ none
elem_out [] j h = refl
elem_out (x ∷ l) zero h = absurd (omega arith)
elem_out (x ∷ l) (suc j) h = elem_out l j (omega arith)

pub elem_append : (a b : List ℕ) (j : ℕ) → j < length a → get_elem? (a ++ b) j ≡ get_elem? a j
elem_append [] b j h = absurd (not-suc-le-zero h)
elem_append (x ∷ a) b zero h = refl
elem_append (x ∷ a) b (suc j) h = elem_append a b j (omega arith)

pub elem_behind : (a b : List ℕ) (j : ℕ) → get_elem? (a ++ b) (length a + j) ≡ get_elem? b j
elem_behind [] b j = rw zero-add
elem_behind (x ∷ a) b j = rw suc-add (elem_behind a b j)

pub elem_drop : (n : ℕ) (l : List ℕ) (j : ℕ) → get_elem? (drop n l) j ≡ get_elem? l (n + j)
elem_drop zero l j = rw zero-add
elem_drop (suc n) [] j = refl
elem_drop (suc n) (x ∷ l) j = rw suc-add (elem_drop n l j)

pub elem_take : (n : ℕ) (l : List ℕ) (j : ℕ) → j < n → get_elem? (take n l) j ≡ get_elem? l j
elem_take zero l j h = absurd (not-suc-le-zero h)
elem_take (suc n) [] j h = refl
elem_take (suc n) (x ∷ l) zero h = refl
elem_take (suc n) (x ∷ l) (suc j) h = elem_take n l j (omega arith)

-- an element's value, as `get_or` gives it
abbrev or_zero : Option ℕ → ℕ
or_zero none = 0
or_zero (some x) = x

value_of : (l : List ℕ) (j : ℕ) → get_or l j 0 ≡ or_zero (get_elem? l j)
value_of [] j = refl
value_of (x ∷ l) zero = refl
value_of (x ∷ l) (suc j) = value_of l j

pub same-value : (a b : List ℕ) (j : ℕ) → get_elem? a j ≡ get_elem? b j → get_or a j 0 ≡ get_or b j 0
same-value a b j e = value_of a j ∙ ap or_zero e ∙ sym (value_of b j)

-- ---- two lists

-- the same elements below `n`
abbrev pub Alike : List ℕ → List ℕ → ℕ → Type 0
Alike a b n = (j : ℕ) → j < n → get_elem? a j ≡ get_elem? b j

-- another element at a place below `n`
pub record Apart (a b : List ℕ) (n : ℕ) : Type 0 where
  pub at : ℕ
  pub near : at < n
  pub other : get_elem? a at ≡ get_elem? b at → ⊥

pub apart_more : {a b : List ℕ} {n m : ℕ} → n ≤ m → Apart a b n → Apart a b m
apart_more h d = record { at = d.at; near = omega (arith, d.near); other = d.other }

pub alike-take : (a b : List ℕ) (n : ℕ) → Alike a b n → take n a ≡ take n b
alike-take a b zero h = refl
alike-take [] [] (suc n) h = refl
alike-take [] (y ∷ b) (suc n) h = absurd (none≢some (h 0 (omega arith)))
alike-take (x ∷ a) [] (suc n) h = absurd (none≢some (sym (h 0 (omega arith))))
alike-take (x ∷ a) (y ∷ b) (suc n) h = rw (some_same (h 0 (omega arith)), alike-take a b n (λ j l. h (suc j) (omega arith)))

pub take-alike : (a b : List ℕ) (n : ℕ) → take n a ≡ take n b → Alike a b n
take-alike a b n e j h = sym (elem_take n a j h) ∙ ap (λ (l : List ℕ). get_elem? l j) e ∙ elem_take n b j h

same_elem : (x y : Option ℕ) → (x ≡ y) ⊎ (x ≡ y → ⊥)
same_elem none none = inl refl
same_elem none (some y) = inr none≢some
same_elem (some x) none = inr (λ e. none≢some (sym e))
same_elem (some x) (some y) = go (eqb x y) refl
  where
    go : (t : Bool) → eqb x y ≡ t → (some x ≡ some y) ⊎ (some x ≡ some y → ⊥)
    go true e = inl (ap some (eqb-true x y e))
    go false e = inr (λ p. eqb-false x y e (some_same p))

pub alike-last : (a b : List ℕ) (n : ℕ) → Alike a b n → get_elem? a n ≡ get_elem? b n → Alike a b (suc n)
alike-last a b n all e j h = go (eqb j n) refl
  where
    go : (t : Bool) → eqb j n ≡ t → get_elem? a j ≡ get_elem? b j
    go true p = rw (eqb-true j n p) e
    go false p = all j (omega (arith, eqb-false j n p))

-- they are one or the other
pub alike_or_apart : (a b : List ℕ) (n : ℕ) → Alike a b n ⊎ Apart a b n
alike_or_apart a b zero = inl (λ j h. absurd (not-suc-le-zero h))
alike_or_apart a b (suc n) = go (alike_or_apart a b n) (same_elem (get_elem? a n) (get_elem? b n))
  where
    go : Alike a b n ⊎ Apart a b n → (get_elem? a n ≡ get_elem? b n) ⊎ (get_elem? a n ≡ get_elem? b n → ⊥) → Alike a b (suc n) ⊎ Apart a b (suc n)
    go (inr d) e = inr (apart_more (omega arith) d)
    go (inl all) (inr ne) = inr record { at = n; near = omega arith; other = ne }
    go (inl all) (inl e) = inl (alike-last a b n all e)

-- a list that is nowhere apart from the beginning of another is that beginning
pub same_or_apart : (a b : List ℕ) (n : ℕ) → length a ≡ n → n ≤ length b → (a ≡ take n b) ⊎ Apart a b n
same_or_apart a b n la lb = ⊎_elim (λ h. inl (sym (take_all n a (omega arith)) ∙ alike-take a b n h)) inr (alike_or_apart a b n)

-- behind the same beginning, what is apart stays apart
pub apart-behind : (s t r : List ℕ) (p n : ℕ) → p ≤ length s → t ≡ take p s ++ r → Apart r (drop p s) n → Apart t s (p + n)
apart-behind s t r p n h e d = record {
  at = p + d.at;
  near = omega (arith, d.near);
  other = λ q. d.other (sym (elem_behind (take p s) r d.at) ∙ rw (length-take-le p s h) (rw e at q) ∙ sym (elem_drop p s d.at));
}

-- what stands behind a list that is apart does not matter
pub apart-append : (a r b : List ℕ) (n : ℕ) → n ≤ length a → Apart a b n → Apart (a ++ r) b n
apart-append a r b n h d = record { at = d.at; near = d.near; other = λ e. d.other (sym (elem_append a r d.at (omega (arith, d.near))) ∙ e) }
