-- Laws of a file that reads well: its records one by one, and where each lies.
use Prim.Native.Nat.{ℕ, zero, suc, ◌+◌, ◌-◌, ◌≤◌, ◌<◌}
use native.Mathlib.Omega.{arith}
use mathlib.Core.Path.{◌≡◌, refl, sym, ◌∙◌, ap}
use mathlib.Core.Bool.{Bool, true, false}
use mathlib.Core.List.{List, [], ◌∷◌}
use mathlib.Core.Option.{Option, none, some}
use mathlib.Core.Logic.{◌⊎◌, inl, inr, ⊎_elim}
use lib.ListN.{length}
use lib.Dec.{eqb}
use borrow.Author.Tests.{eqb-true}
use Rattle.answer.specs.Tests.{pick}
use Rattle.answer.specs.Answer.{Answer, done, refused, settle, ◌onward◌}
use Rattle.answer.specs.Checks.{Verdict, Pass, Fail}
use Rattle.device_file.specs.Layout.{header_size, Region, is_sub, prefix_size, region_size}
use Rattle.device_file.specs.Read.{Record, File, type_at, length_at, record_fault, own_length, record_at, region_end, at_end, records_from, header_checks, file_of, read_file, nth}
use Rattle.device_file.specs.Write.{last_region}
use Rattle.device_file.proofs.Records.{Good, good, passes, room-inside, own-region, own, own-inside, region-inside}
use Rattle.device_file.proofs.Scanning.{header-whole}

-- ---- answers

pub refused≢done : {A : Type 0} (code place : ℕ) (x : A) {X : Type 0} → refused code place ≡ done x → X
refused≢done code place x h = absurd (let z : ◌≡◌ {A = ℕ} 0 1 = cc in omega arith)

pub same-done : {A : Type 0} (x y : A) → ◌≡◌ {A = Answer A} (done x) (done y) → x ≡ y
same-done x y h = cc

-- what a result behind another tells
pub onward-done : {A B : Type 0} (a : Answer A) (f : A → Answer B) (y : B) → (a onward f) ≡ done y → (x : A) × (a ≡ done x) × (f x ≡ done y)
unfolding ◌onward◌
onward-done (done x) f y h = (x, refl, h)
onward-done (refused code place) f y h = refused≢done code place y h

pub settle-done : {A : Type 0} (v : Verdict) (x y : A) → settle v x ≡ done y → (v ≡ Pass) × (x ≡ y)
unfolding settle
settle-done Pass x y h = (refl, same-done x y h)
settle-done (Fail code place) x y h = refused≢done code place y h

-- ---- the records from a place on

-- the record there
pub record Next (s : List ℕ) (p e : ℕ) (r : Record) : Type 0 where
  pub ahead : at_end s p e ≡ false
  pub good : Good s p e
  pub is : r ≡ record_at s p

abbrev pub Reads : List ℕ → ℕ → ℕ → List Record → Type 0
Reads s p e [] = at_end s p e ≡ true
Reads s p e (r ∷ rs) = Next s p e r × Reads s (p + own_length s p) (region_end s p e) rs

nil≢cons : (r : Record) (rs : List Record) {X : Type 0} → [] ≡ r ∷ rs → X
nil≢cons r rs h = absurd (omega (arith, ap length h))

module _ (s : List ℕ) where
  reads-step : (p e fuel : ℕ) (rs : List Record)
      → (Good s p e → (rs : List Record) → records_from s fuel (p + own_length s p) (region_end s p e) ≡ done rs → Reads s (p + own_length s p) (region_end s p e) rs)
      → (b : Bool) → at_end s p e ≡ b
      → pick b (done []) (settle (record_fault s p e) (record_at s p) onward λ r. records_from s fuel (p + own_length s p) (region_end s p e) onward λ rs. done (r ∷ rs)) ≡ done rs
      → Reads s p e rs
  unfolding pick
  reads-step p e fuel [] rest true end h = end
  reads-step p e fuel (r ∷ rs) rest true end h = nil≢cons r rs (same-done [] (r ∷ rs) h)
  reads-step p e fuel [] rest false end h =
      let a = onward-done _ _ [] h in
      let b = onward-done _ _ [] a.2 in
      nil≢cons _ b.0 (sym (same-done (a.0 ∷ b.0) [] b.2))
  reads-step p e fuel (r ∷ rs) rest false end h =
      let a = onward-done _ _ (r ∷ rs) h in
      let b = onward-done _ _ (r ∷ rs) a.2 in
      let c = settle-done _ _ _ a.1 in
      let is = same-done (a.0 ∷ b.0) (r ∷ rs) b.2 in
      let one : a.0 ≡ r = cc in
      let others : b.0 ≡ rs = cc in
      let g = good s p e c.0 in
      (record { ahead = end; good = g; is = sym (c.1 ∙ one) }, rest g rs (b.1 ∙ ap done others))

  pub reads : (fuel p e : ℕ) (rs : List Record) → p ≤ length s → e ≤ length s → length s < p + fuel → records_from s fuel p e ≡ done rs → Reads s p e rs
  unfolding records_from
  reads zero p e rs a b enough h = absurd (omega arith)
  reads (suc fuel) p e rs a b enough h =
      reads-step p e fuel rs
      (λ g rs h. reads fuel _ _ rs (own-inside s p e g b) (region-inside s p e g b) (omega (arith, own s p e g)) h)
      (at_end s p e) refl h

  pub read-from : (rs : List Record) (fuel p e : ℕ) → p ≤ length s → e ≤ length s → length s < p + fuel → Reads s p e rs → records_from s fuel p e ≡ done rs
  unfolding records_from pick settle ◌onward◌
  read-from [] fuel p e a b enough h = let one : fuel ≡ suc (fuel - 1) = omega arith in rw (one, h)
  read-from (r ∷ rs) fuel p e a b enough h =
      let one : fuel ≡ suc (fuel - 1) = omega arith in
      let g = h.0.good in
      rw (one, h.0.ahead, passes s p e g, read-from rs (fuel - 1) (p + own_length s p) (region_end s p e) (own-inside s p e g b) (region-inside s p e g b) (omega (arith, own s p e g)) h.1, h.0.is)

-- ---- the whole file

pub record IsFile (s : List ℕ) (file : File) : Type 0 where
  pub header : header_checks s ≡ Pass
  pub is : file ≡ file_of s file.records
  pub all : Reads s header_size header_size file.records

by-header : (s : List ℕ) → header_checks s ≡ Pass → read_file s ≡ (records_from s (length s) header_size header_size onward λ rs. done (file_of s rs))
unfolding read_file settle ◌onward◌
by-header s h = rw h

header-passes : (s : List ℕ) (file : File) → read_file s ≡ done file → header_checks s ≡ Pass
unfolding read_file
header-passes s file h = (settle-done _ _ _ (onward-done _ _ file h).1).0

pub file-read : (s : List ℕ) (file : File) → read_file s ≡ done file → IsFile s file
unfolding file_of
file-read s file h =
    let pass = header-passes s file h in
    let b = onward-done _ _ file (sym (by-header s pass) ∙ h) in
    let long = header-whole s pass in
    let made : IsFile s (file_of s b.0) = record { header = pass; is = refl; all = reads s (length s) header_size header_size b.0 long long (omega arith) b.1 } in
    rw (same-done (file_of s b.0) file b.2) at made

pub read-file : (s : List ℕ) (rs : List Record) → header_checks s ≡ Pass → Reads s header_size header_size rs → read_file s ≡ done (file_of s rs)
unfolding ◌onward◌
read-file s rs h r =
    let long = header-whole s h in
    by-header s h ∙ rw (read-from s rs (length s) header_size header_size long long (omega arith) r)

-- ---- where records lie

-- a record of the file, from `p` on
pub record Lies (s : List ℕ) (p : ℕ) (r : Record) : Type 0 where
  pub is : r ≡ record_at s r.start
  pub from : p ≤ r.start
  pub least : prefix_size ≤ own_length s r.start
  pub inside : r.start + own_length s r.start ≤ length s

-- a REGION of the file, from `p` on
pub record Holds (s : List ℕ) (p g : ℕ) : Type 0 where
  pub is : type_at s g ≡ Region
  pub from : p ≤ g
  pub fixed : g + region_size ≤ length s
  pub inside : g + length_at s g ≤ length s

pub none≢some : {A : Type 0} (x : A) {X : Type 0} → none ≡ some x → X
none≢some x h = absurd (let z : ◌≡◌ {A = ℕ} 0 1 = cc in omega arith)

pub same_some : {A : Type 0} (x y : A) → ◌≡◌ {A = Option A} (some x) (some y) → x ≡ y
same_some x y h = cc

module _ (s : List ℕ) where
  holds-here : (p e g : ℕ) → e ≤ length s → Good s p e → type_at s p ≡ Region → p ≡ g → Holds s p g
  holds-here p e g b good is at =
      let long = own-region s p is in
      record {
        is = rw (← at) is;
        from = omega arith;
        fixed = omega (arith, own-inside s p e good b);
        inside = rw (← at) (omega (arith, good.within, room-inside s p e b));
      }

  pub nth-lies : (rs : List Record) (n p e : ℕ) (r : Record) → e ≤ length s → Reads s p e rs → nth rs n ≡ some r → Lies s p r
  unfolding nth record_at
  nth-lies [] n p e r b h is = none≢some r is
  nth-lies (x ∷ rs) zero p e r b h is =
      let g = h.0.good in
      let made : Lies s p (record_at s p) = record { is = refl; from = omega arith; least = (own s p e g).0; inside = own-inside s p e g b } in
      rw (sym h.0.is ∙ same_some x r is) at made
  nth-lies (x ∷ rs) (suc n) p e r b h is =
      let g = h.0.good in
      let l = nth-lies rs n (p + own_length s p) (region_end s p e) r (region-inside s p e g b) h.1 is in
      record { is = l.is; from = omega (arith, l.from); least = l.least; inside = l.inside }

  -- the last record outside, if it is a REGION, is among these records or stood before them
  pub region-holds : (rs : List Record) (p e : ℕ) (region : Option ℕ) (g : ℕ) → e ≤ length s → Reads s p e rs → last_region rs region ≡ some g
      → (region ≡ some g) ⊎ Holds s p g
  unfolding last_region pick record_at
  region-holds [] p e region g b h is = inl is
  region-holds (x ∷ rs) p e region g b h is =
      ⊎_elim
      (here (is_sub x.type) (eqb x.type Region) refl)
      (λ l. inr record { is = l.is; from = omega (arith, l.from); fixed = l.fixed; inside = l.inside })
      (region-holds rs (p + own_length s p) (region_end s p e) _ g (region-inside s p e h.0.good b) h.1 is)
    where
      here : (sub is : Bool) → eqb x.type Region ≡ is → pick sub region (pick is (some x.start) none) ≡ some g → (region ≡ some g) ⊎ Holds s p g
      here true is t e = inl e
      here false true t f =
          inr
          (holds-here p e g b h.0.good (sym (ap (λ (r : Record). r.type) h.0.is) ∙ eqb-true x.type Region t)
          (sym (ap (λ (r : Record). r.start) h.0.is) ∙ same_some x.start g f))
      here false false t f = none≢some g f

-- where the last REGION of a file lies, if no other record stands outside behind it
pub last-holds : (s : List ℕ) (file : File) (g : ℕ) → IsFile s file → last_region file.records none ≡ some g → Holds s header_size g
last-holds s file g f e =
    ⊎_elim (λ h. none≢some g h) (λ h. h) (region-holds s file.records header_size header_size none g (header-whole s f.header) f.all e)
