-- Which mapping holds a device address, in a table and in one that was changed.
use Prim.Native.Nat.{ℕ, ◌+◌, ◌-◌, ◌≤◌, ◌<◌}
use native.Mathlib.Omega.{arith}
use mathlib.Core.Path.{◌≡◌, refl, sym, ◌∙◌, ap}
use mathlib.Core.Bool.{Bool, true, false}
use mathlib.Core.List.{List, [], ◌∷◌}
use mathlib.Core.Option.{Option, none, some}
use lib.Dec.{ltb}
use borrow.Author.Tests.{leb-true, ltb-true, le-leb}
use Rattle.answer.specs.Tests.{◌and◌, ◌or◌, pick}
use Rattle.answer.proofs.Tests.{and_true, and_made}
use Rattle.address.specs.declared.DeviceAddress.{DeviceAddress}
use Rattle.address.specs.declared.MemoryAddress.{MemoryAddress}
use Rattle.iommu.specs.declared.Mapping.{Mapping}
use Rattle.iommu.specs.Table.{Translation, At, Nowhere, end, holds, address_in, left_in, shown, translate, valid_rights, sound_mappings_from, sound_table, touches, sticks_out, any_of, overlaps, blocked, removed, insert, without}
use Rattle.iommu.proofs.Soundness.{Facts, mapping-facts, sound_split}
use Rattle.iommu.proofs.Changes.{apart-facts, overlaps_split}

pub holds-facts : (m : Mapping) (d : DeviceAddress) → holds m d ≡ true → (m.device.0 ≤ d.0) × (d.0 < end m)
unfolding holds
holds-facts m d e = let p = and_true _ _ e in (leb-true _ _ p.0, ltb-true _ _ p.1)

-- ---- the mapping that holds an address

unfoldable pub find : List Mapping → DeviceAddress → Option Mapping
find [] d = none
find (m ∷ ms) d = pick (holds m d) (some m) (find ms d)

-- where a mapping that was found puts the address
unfoldable pub located : DeviceAddress → Option Mapping → Translation
located d none = Nowhere
located d (some m) = shown m d

pub translate-find : (ms : List Mapping) (d : DeviceAddress) → translate ms d ≡ located d (find ms d)
unfolding translate find located
translate-find [] d = refl
translate-find (m ∷ ms) d = go (holds m d) (translate-find ms d)
  where
    go : (s : Bool) → translate ms d ≡ located d (find ms d) → pick s (shown m d) (translate ms d) ≡ located d (pick s (some m) (find ms d))
    go true ih = unfold pick in refl
    go false ih = unfold pick in ih

found_none : (d : DeviceAddress) (o : Option Mapping) → located d o ≡ Nowhere → o ≡ none
unfolding located
found_none d none e = refl
found_none d (some m) e = absurd (let z : ◌≡◌ {A = ℕ} 0 1 = cc in omega arith)

-- ---- lists in which no two mappings share an address

unfoldable pub Apart : List Mapping → Type 0
Apart [] = Unit
Apart (m ∷ ms) = ((d : DeviceAddress) → holds m d ≡ true → find ms d ≡ none) × Apart ms

-- a sound list holds no address below the one that it begins at
pub find-below : (size low : ℕ) (ms : List Mapping) → sound_mappings_from size low ms ≡ true → (d : DeviceAddress) → d.0 < low → find ms d ≡ none
unfolding find
find-below size low [] e d h = refl
find-below size low (m ∷ ms) e d h =
    let p = sound_split size low m ms e in
    go p.0 (holds m d) refl (find-below size (end m) ms p.2 d (omega arith))
  where
    go : low ≤ m.device.0 → (s : Bool) → holds m d ≡ s → find ms d ≡ none → pick s (some m) (find ms d) ≡ none
    go l true t ih = absurd (let f = holds-facts m d t in omega arith)
    go l false t ih = unfold pick in ih

pub translate-below : (size low : ℕ) (ms : List Mapping) → sound_mappings_from size low ms ≡ true → (d : DeviceAddress) → d.0 < low → translate ms d ≡ Nowhere
unfolding located
translate-below size low ms e d h = translate-find ms d ∙ ap (located d) (find-below size low ms e d h)

sound_apart_from : (size low : ℕ) (ms : List Mapping) → sound_mappings_from size low ms ≡ true → Apart ms
unfolding Apart
sound_apart_from size low [] e = tt
sound_apart_from size low (m ∷ ms) e =
    let p = sound_split size low m ms e in
    ((λ d h. find-below size (end m) ms p.2 d (holds-facts m d h).1), sound_apart_from size (end m) ms p.2)

pub sound-apart : (size : ℕ) (ms : List Mapping) → sound_table size ms ≡ true → Apart ms
unfolding sound_table
sound-apart size ms e = sound_apart_from size 0 ms e

-- ---- a mapping is added

-- no address is held by two mappings that are apart
not-both : (m x : Mapping) → touches m.device m.size x ≡ false → (d : DeviceAddress) → holds x d ≡ true → holds m d ≡ true → ⊥
not-both m x o d p q =
    let f = holds-facts x d p in
    let g = holds-facts m d q in
    omega (arith, apart-facts m.device m.size x o (omega arith))

-- a mapping that is apart from a list holds none of the addresses that the list holds
pub free-find : (m : Mapping) (ms : List Mapping) → overlaps m.device m.size ms ≡ false → (d : DeviceAddress) → holds m d ≡ true → find ms d ≡ none
unfolding find
free-find m [] o d h = refl
free-find m (x ∷ xs) o d h =
    let p = overlaps_split m.device m.size x xs o in
    go p.0 (holds x d) refl (free-find m xs p.1 d h)
  where
    go : touches m.device m.size x ≡ false → (s : Bool) → holds x d ≡ s → find xs d ≡ none → pick s (some x) (find xs d) ≡ none
    go o true e ih = absurd (not-both m x o d e h)
    go o false e ih = unfold pick in ih

swap : {A : Type 0} (s t : Bool) (a b c : A) → (s ≡ true → t ≡ true → ⊥) → pick s a (pick t b c) ≡ pick t b (pick s a c)
unfolding pick
swap true true a b c n = absurd (n refl refl)
swap true false a b c n = refl
swap false t a b c n = refl

-- the place in the table does not show
pub find-insert : (m : Mapping) (ms : List Mapping) → overlaps m.device m.size ms ≡ false → (d : DeviceAddress) → find (insert m ms) d ≡ find (m ∷ ms) d
unfolding find insert
find-insert m [] o d = refl
find-insert m (x ∷ xs) o d =
    let p = overlaps_split m.device m.size x xs o in
    go (ltb m.device.0 x.device.0) p.0 (find-insert m xs p.1 d)
  where
    go : (s : Bool) → touches m.device m.size x ≡ false → find (insert m xs) d ≡ pick (holds m d) (some m) (find xs d)
        → find (pick s (m ∷ x ∷ xs) (x ∷ insert m xs)) d ≡ pick (holds m d) (some m) (pick (holds x d) (some x) (find xs d))
    go true o ih = unfold pick in refl
    go false o ih = unfold pick in rw ih (swap (holds x d) (holds m d) (some x) (some m) (find xs d) (not-both m x o d))

pub translate-insert : (m : Mapping) (ms : List Mapping) → overlaps m.device m.size ms ≡ false → (d : DeviceAddress)
    → translate (insert m ms) d ≡ pick (holds m d) (shown m d) (translate ms d)
unfolding translate
translate-insert m ms o d = translate-find (insert m ms) d ∙ ap (located d) (find-insert m ms o d) ∙ sym (translate-find (m ∷ ms) d)

-- ---- mappings are removed

-- what was found, unless the test holds of it
unfoldable pub unless : (Mapping → Bool) → Option Mapping → Option Mapping
unless test none = none
unless test (some m) = pick (test m) none (some m)

pub find-without : (test : Mapping → Bool) (ms : List Mapping) → Apart ms → (d : DeviceAddress) → find (without test ms) d ≡ unless test (find ms d)
unfolding Apart find without unless
find-without test [] a d = refl
find-without test (m ∷ ms) a d = go (test m) refl (holds m d) refl (find-without test ms a.1 d)
  where
    go : (s : Bool) → test m ≡ s → (h : Bool) → holds m d ≡ h → find (without test ms) d ≡ unless test (find ms d)
        → find (pick s (without test ms) (m ∷ without test ms)) d ≡ unless test (pick h (some m) (find ms d))
    go true e true h ih = unfold pick in ih ∙ rw (a.0 d h, e)
    go true e false h ih = unfold pick in ih
    go false e true h ih = unfold pick in rw (h, e)
    go false e false h ih = unfold pick in rw h ih

pub without-apart : (test : Mapping → Bool) (ms : List Mapping) → Apart ms → Apart (without test ms)
unfolding Apart without unless
without-apart test [] a = tt
without-apart test (m ∷ ms) a = go (test m) (without-apart test ms a.1)
  where
    go : (s : Bool) → Apart (without test ms) → Apart (pick s (without test ms) (m ∷ without test ms))
    go true r = unfold pick in r
    go false r = unfold pick in ((λ d h. find-without test ms a.1 d ∙ ap (unless test) (a.0 d h)), r)

-- an address lies where it did, unless the mapping that holds it was removed
pub translate-without : (test : Mapping → Bool) (ms : List Mapping) → Apart ms → (d : DeviceAddress) → translate (without test ms) d ≡ located d (unless test (find ms d))
translate-without test ms a d = translate-find (without test ms) d ∙ ap (located d) (find-without test ms a d)

module _ (test : Mapping → Bool) (ms : List Mapping) (a : Apart ms) (d : DeviceAddress) where
  pub translate-removed : (m : Mapping) → find ms d ≡ some m → test m ≡ true → translate (without test ms) d ≡ Nowhere
  unfolding located unless pick
  translate-removed m f t = translate-without test ms a d ∙ rw (f, t)

  pub translate-kept : (m : Mapping) → find ms d ≡ some m → test m ≡ false → translate (without test ms) d ≡ translate ms d
  unfolding located unless pick
  translate-kept m f t = translate-without test ms a d ∙ rw (f, t) (sym (translate-find ms d ∙ ap (located d) f))

  pub translate-nowhere : translate ms d ≡ Nowhere → translate (without test ms) d ≡ Nowhere
  unfolding located unless
  translate-nowhere e = translate-without test ms a d ∙ rw (found_none d (find ms d) (sym (translate-find ms d) ∙ e))

-- ---- the mapping that blocks an unmap under Type1

-- what was found begins before the address
unfoldable pub begins_before : DeviceAddress → Option Mapping → Bool
begins_before d none = false
begins_before d (some m) = ltb m.device.0 d.0

-- in a list in which no two mappings share an address it is the one that holds the range's start
pub blocked-find : (d : DeviceAddress) (ms : List Mapping) → Apart ms → blocked d ms ≡ begins_before d (find ms d)
unfolding blocked any_of sticks_out Apart find begins_before
blocked-find d [] a = refl
blocked-find d (m ∷ ms) a = go (holds m d) refl (blocked-find d ms a.1)
  where
    last : (s : Bool) → ((s and true) or false) ≡ s
    last true = unfold ◌and◌ ◌or◌ in refl
    last false = unfold ◌and◌ ◌or◌ in refl

    other : (s t : Bool) → ((s and false) or t) ≡ t
    other true t = unfold ◌and◌ ◌or◌ in refl
    other false t = unfold ◌and◌ ◌or◌ in refl

    go : (h : Bool) → holds m d ≡ h → blocked d ms ≡ begins_before d (find ms d)
        → ((ltb m.device.0 d.0 and h) or blocked d ms) ≡ begins_before d (pick h (some m) (find ms d))
    go true e ih = unfold pick in ap (λ (t : Bool). (ltb m.device.0 d.0 and true) or t) (ih ∙ ap (begins_before d) (a.0 d e)) ∙ last _
    go false e ih = unfold pick in other _ _ ∙ ih

-- so lists that find the same mappings have the same ones removed
pub removed-same : (kind : ℕ) (ms ns : List Mapping) → Apart ms → Apart ns → ((d : DeviceAddress) → find ms d ≡ find ns d) → (d : DeviceAddress) (n : ℕ) → removed kind ms d n ≡ removed kind ns d n
unfolding removed
removed-same kind ms ns a b same d n =
    let e : blocked d ms ≡ blocked d ns = blocked-find d ms a ∙ ap (begins_before d) (same d) ∙ sym (blocked-find d ns b) in
    rw e

-- ---- what a translation tells

-- the mapping by which a device address lies at a memory address
pub record Found (size : ℕ) (ms : List Mapping) (d : DeviceAddress) (a : MemoryAddress) (rights left : ℕ) : Type 0 where
  pub mapping : Mapping
  pub is : find ms d ≡ some mapping
  pub holding : holds mapping d ≡ true
  pub facts : Facts size mapping
  pub address : a ≡ address_in mapping d
  pub allowed : rights ≡ mapping.rights
  pub runs : left ≡ left_in mapping d

find-facts : (size low : ℕ) (ms : List Mapping) (d : DeviceAddress) (m : Mapping) → sound_mappings_from size low ms ≡ true → find ms d ≡ some m → (holds m d ≡ true) × Facts size m
unfolding find
find-facts size low [] d m e f = absurd (let z : ◌≡◌ {A = ℕ} 0 1 = cc in omega arith)
find-facts size low (x ∷ xs) d m e f =
    let p = sound_split size low x xs e in
    go (holds x d) refl f (mapping-facts size x p.1) (find-facts size (end x) xs d m p.2)
  where
    go : (s : Bool) → holds x d ≡ s → pick s (some x) (find xs d) ≡ some m → Facts size x → (find xs d ≡ some m → (holds m d ≡ true) × Facts size m)
        → (holds m d ≡ true) × Facts size m
    go true h f k ih = let e : x ≡ m = unfold pick in cc in rw (← e) (h, k)
    go false h f k ih = ih (unfold pick in f)

pub translate-found : (size : ℕ) (ms : List Mapping) (d : DeviceAddress) (a : MemoryAddress) (rights left : ℕ) → sound_table size ms ≡ true → translate ms d ≡ At a rights left
    → Found size ms d a rights left
unfolding sound_table
translate-found size ms d a rights left s e = go (find ms d) refl (sym (translate-find ms d) ∙ e)
  where
    go : (o : Option Mapping) → find ms d ≡ o → located d o ≡ At a rights left → Found size ms d a rights left
    go none f l = absurd (let z : ◌≡◌ {A = ℕ} 0 1 = unfold located in cc in omega arith)
    go (some m) f l =
        let p = find-facts size 0 ms d m s f in
        record { mapping = m; is = f; holding = p.0; facts = p.1; address = unfold located in cc; allowed = unfold located in cc; runs = unfold located in cc }

pub translate_bounds : (size : ℕ) (ms : List Mapping) (d : DeviceAddress) (a : MemoryAddress) (rights left : ℕ) → sound_table size ms ≡ true → translate ms d ≡ At a rights left
    → (a.0 < size) × (valid_rights rights ≡ true)
unfolding address_in valid_rights
translate_bounds size ms d a rights left s e =
    let f = translate-found size ms d a rights left s e in
    let h = holds-facts f.mapping d f.holding in
    let k = f.facts in
    let r = f.allowed in
    let at : a.0 ≡ f.mapping.memory.0 + (d.0 - f.mapping.device.0) = ap (λ (x : MemoryAddress). x.0) f.address in
    (omega arith, and_made _ _ (le-leb 1 rights (omega arith)) (le-leb rights 3 (omega arith)))
