-- Laws of request 110: what its checks tell where they pass, that they and the lines after it go by the bytes that it takes in alone, and
-- that soundness is kept.
use Rattle.std.proofs.Common.{◌≡◌, ℕ, zero, suc, ◌+◌, ◌*◌, ◌/◌, ◌%◌, ◌<◌, ◌≤◌, Bool, true, false, not, eqb, ltb, List, length, take, drop, replicate, length-take-le, length-drop, get_or, sym, refl, ap, ◌∙◌, arith, ltb-false, lt-ltb, eq-eqb, eqb-true, le-leb}
use mathlib.Core.Bool.{false≢true}
use borrow.Author.Tests.{eqb-false}
use borrow.Rule.Slice.PartMut.{put_mid}
use Rattle.std.specs.List.{list_any, range_with_len}
use Rattle.std.specs.Prelude.{◌||◌}
use Rattle.answer.specs.Tests.{◌and◌, ◌or◌, pick}
use Rattle.answer.specs.Codes.{ArgSize, Flags, Index, Empty, Range, Value}
use Rattle.answer.specs.Checks.{Pass, ◌then◌, ◌when◌, ◌unless◌}
use Rattle.answer.proofs.Tests.{and_made, pick_false, is_false}
use Rattle.answer.proofs.Checks.{then_pass, when_pass, then_assoc}
use Rattle.wire.specs.Field.{field}
use Rattle.wire.proofs.Laws.{field_cong}
use Rattle.interrupts.specs.declared.Line.{Line}
use Rattle.interrupts.specs.declared.Request.{Request}
use Rattle.interrupts.specs.Lines.{index_at, maskable, automasked, first_line, line_count, lower, sound_lines, stored, off}
use Rattle.interrupts.specs.Requests.{data_number, action_number, AskedBy, argsz_of, flags_of, index_of, start_of, count_of, kind_of, action_of, data_none, data_bool, data_event, act_trigger, data_start, one_of_three, width, event_at, byte_at, disables, field_checks, any_lower, data_checks, set_checks, acted, selected, changed_line, changed_run, range_start, range_count, changed_lines, reads_data, show_checks}
use Rattle.interrupts.proofs.Indices.{index-within}
use Rattle.interrupts.proofs.Runs.{run_length_lem, run_cong, run-part, run-filled}
use Rattle.interrupts.proofs.Soundness.{off-sound, acted-number, run_sound}

-- ---- one of many event numbers

pub any_found : (buf : List ℕ) (n i : ℕ) → i < n → lower (event_at buf i) ≡ true → any_lower buf n ≡ true
unfolding any_lower ◌or◌
any_found buf zero i lt h = absurd (omega arith)
any_found buf (suc n) i lt h = go (any_lower buf n) refl (eqb i n) refl (λ l. any_found buf n i l h)
  where
    go : (t : Bool) → any_lower buf n ≡ t → (u : Bool) → eqb i n ≡ u → (i < n → any_lower buf n ≡ true) → (t or lower (event_at buf n)) ≡ true
    go true e u g rest = refl
    go false e true g rest = rw (← eqb-true i n g) h
    go false e false g rest = absurd (false≢true (sym e ∙ rest (omega (arith, eqb-false i n g))))

pub any_none : (buf : List ℕ) (n i : ℕ) → i < n → any_lower buf n ≡ false → lower (event_at buf i) ≡ false
any_none buf n i lt h = is_false _ (λ e. false≢true (sym h ∙ any_found buf n i lt e))

pub any_cong : (a b : List ℕ) (n : ℕ) → ((i : ℕ) → i < n → event_at a i ≡ event_at b i) → any_lower a n ≡ any_lower b n
unfolding any_lower
any_cong a b zero h = refl
any_cong a b (suc n) h = rw (any_cong a b n (λ i lt. h i (omega arith)), h n (omega arith))

-- one of a range of numbers: the last, or one before it
either : (a b c : Bool) → (a || (b or c)) ≡ ((a || b) or c)
unfolding ◌or◌
either true b c = refl
either false b c = refl

any-last : (p : ℕ → Bool) (a n : ℕ) → list_any p (range_with_len a (suc n)) ≡ (list_any p (range_with_len a n) or p (a + n))
unfolding ◌or◌
any-last p a zero = go (p a) (p (a + 0)) (ap p (omega arith))
  where
    go : (s t : Bool) → s ≡ t → (s || false) ≡ t
    go true t e = e
    go false t e = e
any-last p a (suc n) =
    ap (λ (b : Bool). p a || b) (any-last p (a + 1) n)
    ∙ either (p a) (list_any p (range_with_len (a + 1) n)) (p (a + 1 + n))
    ∙ ap (λ (k : ℕ). list_any p (range_with_len a (suc n)) or p k) (omega arith)

pub any-ranged : (buf : List ℕ) (n : ℕ) → list_any (λ (j : ℕ). lower (event_at buf j)) (range_with_len 0 n) ≡ any_lower buf n
unfolding any_lower
any-ranged buf zero = refl
any-ranged buf (suc n) =
    any-last (λ (j : ℕ). lower (event_at buf j)) 0 n
    ∙ rw (any-ranged buf n) (ap (λ (k : ℕ). any_lower buf n or lower (event_at buf k)) (omega arith))

-- ---- widths

pub width_bool : {kind : ℕ} → kind ≡ data_bool → width kind ≡ 1
unfolding width pick
width_bool e = rw e

pub width-event : {kind : ℕ} → kind ≡ data_event → width kind ≡ 4
unfolding width pick
width-event e = rw e

-- a line has four bytes of data at most
pub size-most : (kind count : ℕ) → count * width kind ≤ 4 * count
unfolding width pick
size-most kind count = go (eqb kind data_bool) (eqb kind data_event)
  where
    go : (s t : Bool) → count * pick s 1 (pick t 4 0) ≤ 4 * count
    go true t = omega arith
    go false true = omega arith
    go false false = omega arith

-- ---- checks that the code makes one after the other

unless_and : (code : ℕ) (a b : Bool) → (code unless a and b) ≡ (code unless a then code unless b)
unfolding ◌and◌ ◌unless◌ ◌then◌
unless_and code true b = refl
unless_and code false b = refl

pub fields-listed : (flags index start count : ℕ) → field_checks flags index start count
    ≡ (Flags unless one_of_three (kind_of flags)
    then Flags unless one_of_three (action_of flags)
    then Flags when eqb (kind_of flags) data_event and not (eqb (action_of flags) act_trigger)
    then Index unless ltb index 4
    then Flags unless eqb (action_of flags) act_trigger or maskable index
    then Range when ltb (index_at index).count (start + count)
    then Empty when eqb count 0 and not (disables flags count))
unfolding field_checks
fields-listed flags index start count =
    rw (unless_and Flags (one_of_three (kind_of flags)) (one_of_three (action_of flags)))
    (then_assoc (Flags unless one_of_three (kind_of flags)) (Flags unless one_of_three (action_of flags)) _)

pub show-listed : (index line : ℕ) → show_checks index line ≡ (Index unless ltb index 4 then Index unless ltb line (index_at index).count)
unfolding show_checks
show-listed index line = unless_and Index (ltb index 4) (ltb line (index_at index).count)

-- ---- what the code has of a request, and what its definitions are then

pub data-checked : (buf : List ℕ) (kind count : ℕ) → kind ≡ kind_of (flags_of buf) → count ≡ count_of buf
    → data_checks buf ≡ (ArgSize when ltb (argsz_of buf) (data_start + count * width kind) then Value when eqb kind data_event and any_lower buf count)
unfolding data_checks
data-checked buf kind count e f = rw (e, f)

pub disabled-line : (buf : List ℕ) (j : ℕ) (l : Line) → disables (flags_of buf) (count_of buf) ≡ true → changed_line buf j l ≡ off
unfolding changed_line pick
disabled-line buf j l h = rw h

pub changed-by : (buf : List ℕ) (request : Request) (j : ℕ) (l : Line) → AskedBy buf request → disables (flags_of buf) (count_of buf) ≡ false
    → let kind = data_number request.«data» in
    changed_line buf j l
    ≡ pick (eqb kind data_event) (stored (event_at buf j))
    (pick (not (eqb kind data_bool) or not (eqb (byte_at buf j) 0)) (acted (action_number request.action) (eqb (request.interrupt.flags / 4 % 2) 1) l) l)
unfolding changed_line selected automasked pick
changed-by buf request j l asked h = rw (h, ← asked.data_is, ← asked.action_is, ← asked.interrupt_is)

-- ---- what passed checks tell

pub record Passed (buf : List ℕ) : Type 0 where
  -- the range lies in the index
  pub within : start_of buf + count_of buf ≤ (index_at (index_of buf)).count
  -- the data lie in argsz
  pub room : data_start + count_of buf * width (kind_of (flags_of buf)) ≤ argsz_of buf
  -- no event number is below −1
  pub numbers : kind_of (flags_of buf) ≡ data_event → any_lower buf (count_of buf) ≡ false

pub set-passed : (buf : List ℕ) → set_checks buf ≡ Pass → Passed buf
unfolding set_checks field_checks data_checks ◌and◌
set-passed buf h =
    let fields = (then_pass _ _ (then_pass _ _ (then_pass _ _ (then_pass _ _ (then_pass _ _ h).0).1).1).1).1 in
    let behind = (then_pass _ _ h).1 in
    record {
      within = ltb-false _ _ (when_pass _ _ (then_pass _ _ fields).0);
      room = ltb-false _ _ (when_pass _ _ (then_pass _ _ behind).0);
      numbers = λ e. rw (eq-eqb _ data_event e) at (when_pass _ _ (then_pass _ _ behind).1);
    }

-- the range of an accepted request lies among the lines
pub range-within : (buf : List ℕ) → Passed buf → range_start buf + range_count buf ≤ line_count
unfolding range_start range_count pick
range-within buf p = go (disables (flags_of buf) (count_of buf))
  where
    go : (t : Bool) → first_line (index_of buf) + pick t 0 (start_of buf) + pick t (index_at (index_of buf)).count (count_of buf) ≤ line_count
    go true = omega (arith, index-within (index_of buf))
    go false = omega (arith, index-within (index_of buf), p.within)

-- an offset of the range is below the count, where the index is not disabled
pub offset-below : (buf : List ℕ) (j : ℕ) → disables (flags_of buf) (count_of buf) ≡ false → j < range_count buf → j < count_of buf
unfolding range_count
offset-below buf j e lt = rw (pick_false _ (index_at (index_of buf)).count (count_of buf) e) at lt

-- ---- the range of a request, by its fields

pub disables-by : (buf : List ℕ) (r : Request) → AskedBy buf r
    → (eqb (data_number r.«data») data_none and eqb (action_number r.action) act_trigger and eqb r.count 0) ≡ disables (flags_of buf) (count_of buf)
unfolding disables
disables-by buf r asked = rw (asked.data_is, asked.action_is, asked.count_is)

module _ (buf : List ℕ) (r : Request) (asked : AskedBy buf r) where
  pub range-whole : disables (flags_of buf) (count_of buf) ≡ true → (range_start buf ≡ first_line r.index) × (range_count buf ≡ r.interrupt.count)
  unfolding range_start range_count pick
  range-whole h = (rw (h, asked.index_is) (omega arith), rw (h, asked.interrupt_is))

  pub range-part : disables (flags_of buf) (count_of buf) ≡ false → (range_start buf ≡ first_line r.index + r.start) × (range_count buf ≡ r.count)
  unfolding range_start range_count pick
  range-part h = (rw (h, asked.index_is, asked.start_is), rw (h, asked.count_is))

  module _ (ls : List Line) (room : range_start buf + range_count buf ≤ length ls) where
    -- the lines of an index that is disabled are filled
    pub change-whole : disables (flags_of buf) (count_of buf) ≡ true
        → put_mid (first_line r.index) r.interrupt.count ls (replicate r.interrupt.count off) ≡ changed_lines buf ls
    unfolding changed_lines
    change-whole h =
        let e = range-whole h in
        let at = first_line r.index in
        let n = r.interrupt.count in
        let part = take n (drop at ls) in
        let all : changed_run (changed_line buf) 0 0 n part ≡ replicate n off =
        run-filled (changed_line buf) off (λ k l. disabled-line buf k l h) 0 n part (length-take-le n (drop at ls) (omega (arith, e.0, e.1, length-drop at ls))) in
        rw (← all, e.0, e.1) (run-part (changed_line buf) at n ls (omega (arith, e.0, e.1)))

    -- those of a range are changed one by one
    pub change-part : disables (flags_of buf) (count_of buf) ≡ false → let at = first_line r.index + r.start in
        put_mid at r.count ls (changed_run (changed_line buf) 0 0 r.count (take r.count (drop at ls))) ≡ changed_lines buf ls
    unfolding changed_lines
    change-part h =
        let e = range-part h in
        rw (e.0, e.1) (run-part (changed_line buf) (first_line r.index + r.start) r.count ls (omega (arith, e.0, e.1)))

-- ---- soundness is kept

changed-sound : (buf : List ℕ) (j : ℕ) (l : Line) → Passed buf → j < range_count buf → lower l.number ≡ false → lower (changed_line buf j l).number ≡ false
unfolding changed_line pick stored
changed-sound buf j l p lt h = go (disables (flags_of buf) (count_of buf)) refl (eqb (kind_of (flags_of buf)) data_event) refl (selected buf j)
  where
    go : (s : Bool) → disables (flags_of buf) (count_of buf) ≡ s → (t : Bool) → eqb (kind_of (flags_of buf)) data_event ≡ t → (u : Bool)
        → lower (pick s off (pick t (stored (event_at buf j)) (pick u (acted (action_of (flags_of buf)) (automasked (index_of buf)) l) l))).number ≡ false
    go true e t f u = off-sound
    go false e true f u = any_none buf (count_of buf) j (offset-below buf j e lt) (p.numbers (eqb-true _ _ f))
    go false e false f true = rw (acted-number (action_of (flags_of buf)) (automasked (index_of buf)) l) h
    go false e false f false = h

-- rule 1.20: what a request that passes leaves is sound where its lines were
pub lines-sound : (buf : List ℕ) (ls : List Line) → set_checks buf ≡ Pass → sound_lines ls ≡ true → sound_lines (changed_lines buf ls) ≡ true
unfolding changed_lines
lines-sound buf ls h s =
    run_sound (changed_line buf) 0 (range_start buf) (range_count buf) ls (λ k l lt. changed-sound buf k l (set-passed buf h) (omega arith)) s

pub lines-length : (buf : List ℕ) (ls : List Line) → length (changed_lines buf ls) ≡ length ls
unfolding changed_lines
lines-length buf ls = run_length_lem (changed_line buf) 0 (range_start buf) (range_count buf) ls

-- ---- bytes that a request does not take in

-- two buffers that agree where it does
pub record Agrees (a b : List ℕ) : Type 0 where
  pub fields : (i : ℕ) → i < data_start → get_or a i 0 ≡ get_or b i 0
  pub bytes : (i : ℕ) → reads_data a i ≡ true → get_or a i 0 ≡ get_or b i 0

field-agrees : (a b : List ℕ) → Agrees a b → (o w : ℕ) → o + w ≤ data_start → field a o w ≡ field b o w
field-agrees a b g o w h = field_cong a b o w (λ i lt. g.fields (o + i) (omega arith))

-- a byte of data
data_agrees : (a b : List ℕ) → Agrees a b → (k : ℕ) → k < count_of a * width (kind_of (flags_of a)) → get_or a (data_start + k) 0 ≡ get_or b (data_start + k) 0
unfolding reads_data
data_agrees a b g k lt = g.bytes (data_start + k) (and_made _ _ (le-leb data_start (data_start + k) (omega arith)) (lt-ltb (data_start + k) (data_start + count_of a * width (kind_of (flags_of a))) (omega arith)))

event-agrees : (a b : List ℕ) → Agrees a b → kind_of (flags_of a) ≡ data_event → (j : ℕ) → j < count_of a → event_at a j ≡ event_at b j
unfolding event_at
event-agrees a b g e j lt =
    field_cong a b (data_start + 4 * j) 4
    (λ i l. let is : data_start + (4 * j + i) ≡ data_start + 4 * j + i = omega arith in
    rw is at (data_agrees a b g (4 * j + i) (rw (width-event e) (omega arith))))

byte-agrees : (a b : List ℕ) → Agrees a b → kind_of (flags_of a) ≡ data_bool → (j : ℕ) → j < count_of a → byte_at a j ≡ byte_at b j
unfolding byte_at
byte-agrees a b g e j lt = data_agrees a b g j (rw (width_bool e) (omega arith))

checks_data : (a b : List ℕ) → Agrees a b → data_checks a ≡ data_checks b
unfolding data_checks ◌and◌
checks_data a b g =
    rw (← field-agrees a b g 0 4 (omega arith), ← field-agrees a b g 4 4 (omega arith), ← field-agrees a b g 16 4 (omega arith))
    (go (eqb (kind_of (flags_of a)) data_event) refl)
  where
    go : (t : Bool) → eqb (kind_of (flags_of a)) data_event ≡ t
        → (ArgSize when ltb (argsz_of a) (data_start + count_of a * width (kind_of (flags_of a))) then Value when t and any_lower a (count_of a))
        ≡ (ArgSize when ltb (argsz_of a) (data_start + count_of a * width (kind_of (flags_of a))) then Value when t and any_lower b (count_of a))
    go true e = rw (any_cong a b (count_of a) (event-agrees a b g (eqb-true _ _ e)))
    go false e = refl

-- rule 3.27: the answer goes by the fields and by the data that are taken in
pub checks-agree : (a b : List ℕ) → Agrees a b → set_checks a ≡ set_checks b
unfolding set_checks
checks-agree a b g =
    rw (field-agrees a b g 4 4 (omega arith), field-agrees a b g 8 4 (omega arith), field-agrees a b g 12 4 (omega arith), field-agrees a b g 16 4 (omega arith), checks_data a b g)

changed-agrees : (a b : List ℕ) → Agrees a b → (j : ℕ) (l : Line) → j < range_count a → changed_line a j l ≡ changed_line b j l
unfolding changed_line selected pick ◌or◌
changed-agrees a b g j l lt =
    rw (← field-agrees a b g 4 4 (omega arith), ← field-agrees a b g 8 4 (omega arith), ← field-agrees a b g 16 4 (omega arith))
    (go (disables (flags_of a) (count_of a)) refl (eqb (kind_of (flags_of a)) data_event) refl (eqb (kind_of (flags_of a)) data_bool) refl)
  where
    go : (s : Bool) → disables (flags_of a) (count_of a) ≡ s → (t : Bool) → eqb (kind_of (flags_of a)) data_event ≡ t → (u : Bool) → eqb (kind_of (flags_of a)) data_bool ≡ u
        → pick s off (pick t (stored (event_at a j)) (pick (not u or not (eqb (byte_at a j) 0)) (acted (action_of (flags_of a)) (automasked (index_of a)) l) l))
        ≡ pick s off (pick t (stored (event_at b j)) (pick (not u or not (eqb (byte_at b j) 0)) (acted (action_of (flags_of a)) (automasked (index_of a)) l) l))
    go true d t e u f = refl
    go false d true e u f = ap stored (event-agrees a b g (eqb-true _ _ e) j (offset-below a j d lt))
    go false d false e true f = rw (byte-agrees a b g (eqb-true _ _ f) j (offset-below a j d lt))
    go false d false e false f = refl

-- and so do the lines after it
pub lines-agree : (a b : List ℕ) (ls : List Line) → Agrees a b → changed_lines a ls ≡ changed_lines b ls
unfolding changed_lines range_start range_count
lines-agree a b ls g =
    run_cong (changed_line a) (changed_line b) 0 (range_start a) (range_count a) ls (λ k l lt. changed-agrees a b g k l (omega arith))
    ∙ same-range
  where
    same-range : changed_run (changed_line b) 0 (range_start a) (range_count a) ls ≡ changed_run (changed_line b) 0 (range_start b) (range_count b) ls
    same-range =
        rw (field-agrees a b g 4 4 (omega arith), field-agrees a b g 8 4 (omega arith), field-agrees a b g 12 4 (omega arith), field-agrees a b g 16 4 (omega arith))
