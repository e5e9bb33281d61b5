-- Laws of the pass over a file: what it notes, and the loop over the records.
use Prim.Native.Nat.{ℕ, zero, suc, ◌+◌, ◌-◌, ◌≤◌, ◌<◌}
use native.Mathlib.Nat.{add-zero, zero-add}
use native.Mathlib.Omega.{arith}
use mathlib.Core.Path.{◌≡◌, refl, sym, ◌∙◌, ap}
use mathlib.Core.Bool.{Bool, true, false}
use mathlib.Core.List.{List, [], ◌∷◌}
use mathlib.Core.Option.{Option, none, some}
use lib.ListN.{length}
use lib.Dec.{eqb}
use borrow.Author.Tests.{eq-eqb, ne_eqb, leb-true, le-leb, le-ltb}
use Rattle.std.proofs.Common.{Option as CodeOption, Some, None}
use Rattle.answer.specs.Tests.{pick}
use Rattle.answer.specs.Checks.{Pass, Fail, ◌then◌, ◌when◌, ◌unless◌}
use Rattle.answer.specs.Limits.{transfer_limit, length_check}
use Rattle.answer.specs.Answer.{Answer, done, refused, settle, ◌onward◌}
use Rattle.answer.proofs.Checks.{then_pass, unless_pass}
use Rattle.wire.specs.Field.{field}
use Rattle.wire.proofs.Laws.{length_part}
use Rattle.device_file.specs.Layout.{header_size, is_magic, Region, is_sub, prefix_size}
use Rattle.device_file.specs.Read.{Record, record_fault, record_at, own_length, region_end, at_end, records_from, header_checks, file_of, read_file, nth}
use Rattle.device_file.specs.Write.{last_region}
use Rattle.device_file.specs.Types.{own_length_of}
use Rattle.device_file.specs.Scan.{option_of, IsEntry, Inside, behind, found_of, with_entry, handed, notes_of, scan_of}
use Rattle.device_file.specs.declared.Cursor.{Cursor}
use Rattle.device_file.specs.declared.Notes.{Notes}
use Rattle.device_file.specs.declared.Record.{Record as FoundRecord}
use Rattle.device_file.proofs.Records.{good, own, own-inside, region-inside}

-- ---- what is noted of the records

-- with a record more; record `n` is the one that is asked for
unfoldable pub with_record : ℕ → Record → Notes → Notes
with_record n r notes =
    record {
      records = notes.records + 1;
      found = pick (eqb notes.records n) (Some (handed r)) notes.found;
      region = pick (is_sub r.type) notes.region (pick (eqb r.type Region) (Some r.start) None);
    }

-- what the pass has noted behind these records
unfoldable pub noted : ℕ → List Record → Notes → Notes
noted n [] notes = notes
noted n (r ∷ rs) notes = noted n rs (with_record n r notes)

unfoldable option_or : CodeOption FoundRecord → Option Record → CodeOption FoundRecord
option_or other none = other
option_or other (some r) = Some (handed r)

-- record `n`, `k` being the number of the first
unfoldable found_from : ℕ → List Record → ℕ → CodeOption FoundRecord → CodeOption FoundRecord
found_from n [] k found = found
found_from n (r ∷ rs) k found = found_from n rs (k + 1) (pick (eqb k n) (Some (handed r)) found)

found-past : (n : ℕ) (rs : List Record) (k : ℕ) (found : CodeOption FoundRecord) → n < k → found_from n rs k found ≡ found
unfolding found_from pick
found-past n [] k found lt = refl
found-past n (r ∷ rs) k found lt = rw (ne_eqb k n (λ e. omega arith)) (found-past n rs (k + 1) found (omega arith))

found-nth : (n : ℕ) (rs : List Record) (k j : ℕ) (found : CodeOption FoundRecord) → n ≡ k + j → found_from n rs k found ≡ option_or found (nth rs j)
unfolding found_from nth option_or pick
found-nth n [] k j found e = refl
found-nth n (r ∷ rs) k zero found e = rw (eq-eqb k n (omega arith)) (found-past n rs (k + 1) (Some (handed r)) (omega arith))
found-nth n (r ∷ rs) k (suc j) found e = rw (ne_eqb k n (λ h. omega arith)) (found-nth n rs (k + 1) j found (omega arith))

none-found : (x : Option Record) → option_or None x ≡ option_of handed x
unfolding option_or option_of
none-found none = refl
none-found (some r) = refl

-- where a REGION begins, as the code gives it
abbrev pub placed : Option ℕ → CodeOption ℕ
placed region = option_of (λ (p : ℕ). p) region

region-noted : (t p : ℕ) (region : Option ℕ) → pick (is_sub t) (placed region) (pick (eqb t Region) (Some p) None) ≡ placed (pick (is_sub t) region (pick (eqb t Region) (some p) none))
unfolding option_of pick
region-noted t p region = go (is_sub t) (eqb t Region)
  where
    go : (sub is : Bool) → pick sub (placed region) (pick is (Some p) None) ≡ placed (pick sub region (pick is (some p) none))
    go true is = refl
    go false true = refl
    go false false = refl

noted-is : (n : ℕ) (rs : List Record) (k : ℕ) (found : CodeOption FoundRecord) (region : Option ℕ)
    → noted n rs record { records = k; found = found; region = placed region }
    ≡ record { records = k + length rs; found = found_from n rs k found; region = placed (last_region rs region) }
unfolding noted with_record found_from last_region
noted-is n [] k found region = rw (add-zero k)
noted-is n (r ∷ rs) k found region =
    let e : k + 1 + length rs ≡ k + suc (length rs) = omega arith in
    rw (region-noted r.type r.start region, ← e) (noted-is n rs (k + 1) _ _)

-- ---- the loop

unfoldable pub resumed : ℕ → Notes → Answer (List Record) → Answer Notes
resumed n notes a = a onward λ rs. done (noted n rs notes)

-- at the head of the loop: the records from the cursor on decide, over what is noted
pub record Loop (s : List ℕ) (n : ℕ) (c : Cursor) (notes : Notes) : Type 0 where
  pub fuel : ℕ
  pub enough : length s < c.at + fuel
  pub inside : Inside s c
  pub few : notes.records ≤ c.at
  pub rest : scan_of n (read_file s) ≡ resumed n notes (records_from s fuel c.at c.region_end)

-- the header is refused, or long enough
pub header-fault : (s : List ℕ) (n code place : ℕ) → Fail code place ≡ header_checks s → refused code place ≡ scan_of n (read_file s)
unfolding read_file scan_of settle ◌onward◌
header-fault s n code place h = rw (← h)

pub header-whole : (s : List ℕ) → header_checks s ≡ Pass → header_size ≤ length s
unfolding header_checks
header-whole s h = leb-true _ _ (unless_pass _ _ (then_pass _ _ (then_pass _ _ h).1).0)

pub header-magic : (s : List ℕ) → header_checks s ≡ Pass → is_magic (field s 0 4) ≡ true
unfolding header_checks
header-magic s h = unless_pass _ _ (then_pass _ _ (then_pass _ _ h).1).1

pub header_made : (s : List ℕ) → length s ≤ transfer_limit → header_size ≤ length s → is_magic (field s 0 4) ≡ true → header_checks s ≡ Pass
unfolding header_checks length_check ◌then◌ ◌when◌ ◌unless◌
header_made s most least magic = rw (le-ltb _ _ most, le-leb _ _ least, magic)

abbrev pub first : Cursor
first = record { at = header_size; region_end = header_size }

abbrev pub no_notes : Notes
no_notes = record { records = 0; found = None; region = None }

all_noted : (s : List ℕ) (n : ℕ) (a : Answer (List Record)) → scan_of n (a onward λ rs. done (file_of s rs)) ≡ resumed n no_notes a
unfolding scan_of notes_of resumed file_of option_of ◌onward◌
all_noted s n (done rs) = ap done (sym (noted-is n rs 0 None none ∙ rw (found-nth n rs 0 n None (omega arith), none-found (nth rs n), zero-add (length rs))))
all_noted s n (refused code place) = refl

pub loop_start : (s : List ℕ) (n : ℕ) → header_checks s ≡ Pass → Loop s n first no_notes
unfolding read_file settle ◌onward◌
loop_start s n h =
    let long = header-whole s h in
    record {
      fuel = length s;
      enough = omega arith;
      inside = record { here = long; region = long };
      few = omega arith;
      rest = rw h (all_noted s n (records_from s (length s) header_size header_size));
    }

module _ (s : List ℕ) (n : ℕ) (c : Cursor) (notes : Notes) (l : Loop s n c notes) where
  -- there is fuel for one record more
  opened : records_from s l.fuel c.at c.region_end ≡ records_from s (suc (l.fuel - 1)) c.at c.region_end
  opened =
      let one : l.fuel ≡ suc (l.fuel - 1) = omega (arith, l.enough, l.inside.here) in
      ap (λ (fuel : ℕ). records_from s fuel c.at c.region_end) one

  pub loop_end : at_end s c.at c.region_end ≡ true → done notes ≡ scan_of n (read_file s)
  unfolding records_from resumed noted pick ◌onward◌
  loop_end h = sym (l.rest ∙ rw (opened, h))

  module _ (h : at_end s c.at c.region_end ≡ false) where
    pub loop_fault : (code place : ℕ) → Fail code place ≡ record_fault s c.at c.region_end → refused code place ≡ scan_of n (read_file s)
    unfolding records_from resumed pick settle ◌onward◌
    loop_fault code place f = sym (l.rest ∙ rw (opened, h, ← f))

    module _ (f : record_fault s c.at c.region_end ≡ Pass) where
      -- one record more is noted
      more : (a : Answer (List Record)) → resumed n notes (a onward λ rs. done (record_at s c.at ∷ rs)) ≡ resumed n (with_record n (record_at s c.at) notes) a
      unfolding resumed noted ◌onward◌
      more (done rs) = refl
      more (refused code place) = refl

      -- what is found of it
      module _ (t p k : ℕ) (e : IsEntry s c.at t p k) where
        own_is : own_length_of t k ≡ own_length s c.at
        unfolding own_length_of own_length
        own_is = rw (e.kind, e.long)

        pub nearer : length s - (p + own_length_of t k) < length s - c.at
        nearer =
            let g = good _ _ _ f in
            let long = own _ _ _ g in
            let room = own-inside _ _ _ g l.inside.region in
            omega (arith, own_is, e.here)

        behind_is : behind t p k c ≡ record { at = c.at + own_length s c.at; region_end = region_end s c.at c.region_end }
        unfolding behind region_end
        behind_is = rw (own_is, e.here, e.kind, e.long)

        found_is : found_of t p k ≡ handed (record_at s c.at)
        unfolding record_at
        found_is =
            let g = good _ _ _ f in
            let long = own _ _ _ g in
            let room = own-inside _ _ _ g l.inside.region in
            let part = length_part s (c.at + prefix_size) (own_length s c.at - prefix_size) (omega arith) in
            rw (own_is, e.here, e.kind, part)

        with_is : with_entry n t p k notes ≡ with_record n (record_at s c.at) notes
        unfolding with_entry with_record record_at
        with_is = rw (found_is, e.here, e.kind)

        pub loop_more : Loop s n (behind t p k c) (with_entry n t p k notes)
        unfolding records_from with_record pick settle ◌onward◌
        loop_more =
            let g = good _ _ _ f in
            let long = own _ _ _ g in
            rw (behind_is, with_is) (record {
              fuel = l.fuel - 1;
              enough = omega (arith, l.enough);
              inside = record { here = own-inside _ _ _ g l.inside.region; region = region-inside _ _ _ g l.inside.region };
              few = omega (arith, l.few);
              rest = l.rest ∙ rw (opened, h, f) (more (records_from s (l.fuel - 1) (c.at + own_length s c.at) (region_end s c.at c.region_end)));
            })
