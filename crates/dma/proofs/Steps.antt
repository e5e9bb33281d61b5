-- What the three walks keep and how each of their steps keeps it: judging a transfer, reading and writing.
use Prim.Native.Nat.{ℕ, ◌+◌, ◌-◌, ◌≤◌, ◌<◌}
use native.Mathlib.Nat.{add-zero, sub-zero}
use native.Mathlib.Omega.{arith}
use mathlib.Core.Path.{◌≡◌, refl, sym, ◌∙◌, ap, subst}
use mathlib.Core.Bool.{Bool, true, false, false≢true, true≢false}
use mathlib.Core.List.{List}
use lib.Dec.{ltb}
use lib.ListN.{length, get_or, take, drop, length-drop, drop_of_length-le}
use Rattle.std.proofs.lemmas.List.{take_all, get_or-drop}
use lib.Seq.{sets, length-sets}
use borrow.Author.Tests.{ltb-true, ltb-false, leb-true}
use Rattle.std.specs.Prelude.{Option, None, Some, IsSome, Result, Ok, Err, is_ok, IsErrAnd, MatchResult}
use Rattle.answer.specs.Codes.{Range, Unmapped}
use Rattle.answer.specs.Checks.{Verdict, Pass, Fail, ◌when◌, ◌unless◌, ◌at◌, first_fault}
use Rattle.answer.specs.Limits.{transfer_limit, length_check}
use Rattle.answer.specs.Answer.{verdict_of}
use Rattle.answer.specs.declared.Refusal.{Refusal}
use Rattle.answer.proofs.Checks.{when_pass, unless_pass, first_fault-all, first_fault_pass, first_fault-at, first_fault_cong, passes-run, first_fault-run}
use Rattle.wire.specs.Field.{slice}
use Rattle.wire.proofs.Laws.{sets-all}
use Rattle.address.specs.Address.{device_limit, memory_address, device_offset, in_device_range}
use Rattle.address.specs.declared.DeviceAddress.{DeviceAddress}
use Rattle.iommu.specs.Table.{blank, Nowhere, shown_by, translate, mapped, first_past}
use Rattle.iommu.specs.declared.Mapping.{Mapping}
use Rattle.memory.specs.Memory.{Memory, memory_of, edited, stores}
use Rattle.memory.specs.Shadow.{Shadow, mark_bytes}
use Rattle.memory.proofs.Edits.{edited_bytes_length, edited-shadow_length}
use Rattle.dma.specs.Transfers.{transfer_checks, gather, scatter}
use Rattle.dma.specs.Walk.{Ready, Accepted, Contiguous, RunBounds, run_shown, fault_of}
use Rattle.dma.specs.declared.Run.{Run}
use Rattle.dma.proofs.Table.{RunOf, run_means, run_none}
use Rattle.dma.proofs.Ahead.{entry, Come, walk_start, next-shown, end-nowhere, run_room, run-translate, run-shown, walk-run, walk_bounds}
use Rattle.dma.proofs.Gather.{gather-length}
use Rattle.dma.proofs.Transfers.{fault-nowhere, run_fault, checks_offsets, gather-more, scatter-more}

-- what the mapping at an index shows of a transfer of n bytes from offset k on
abbrev pub next_run : List Mapping → DeviceAddress → ℕ → ℕ → ℕ → Option Run
next_run ms d n k i = run_shown (n - k) (shown_by (entry ms i) (device_offset d k))

module _ {ms : List Mapping} {size : ℕ} {d : DeviceAddress} {n k i : ℕ} (w : Come ms size d n k i) (more : i < length ms) (b : k < n) {run : Run} (is : Some run ≡ next_run ms d n k i) where
  abbrev found : RunOf (n - k) (shown_by (entry ms i) (device_offset d k)) run
  found = run_means _ _ _ is

  next_room : (run.at + run.len ≤ size) × (k + run.len ≤ n) × (0 < run.len)
  next_room = rw found.long (run_room w more found.is b)

  next_contiguous : Contiguous ms (device_offset d k) run.at run.len
  next_contiguous = rw found.long (run-shown w more found.is b)

  next_walk : Come ms size d n (k + run.len) (i + 1)
  next_walk = rw found.long (walk-run w more found.is b)

-- ---- a turn of a walk, which goes over the mappings from the first on

abbrev pub items : List Mapping → ℕ → List Mapping
items ms first = take (length ms - first) (drop first ms)

items-all : (ms : List Mapping) (first : ℕ) → items ms first ≡ drop first ms
items-all ms first = take_all (length ms - first) (drop first ms) (rw length-drop (omega arith))

pub items-end : (ms : List Mapping) (first x : ℕ) → length (items ms first) ≤ x → length ms ≤ first + x
items-end ms first x h = let e = rw length-drop at (ap (λ (l : List Mapping). length l) (items-all ms first)) in omega arith

pub record Turn (ms : List Mapping) (size : ℕ) (d : DeviceAddress) (n k first x : ℕ) : Type 0 where
  pub more : first + x < length ms
  pub left : k < n
  pub asks : d.0 + n ≤ device_limit → RunBounds (get_or (items ms first) x blank) d n k
  pub next : {o p : Option Run} → o ≡ run_shown (n - k) (shown_by (get_or (items ms first) x blank) (device_offset d k)) → o ≡ p → p ≡ next_run ms d n k (first + x)
  pub room : {run : Run} → Some run ≡ next_run ms d n k (first + x) → (run.at + run.len ≤ size) × (k + run.len ≤ n) × (0 < run.len)

pub turn : {ms : List Mapping} {size : ℕ} {d : DeviceAddress} {n k : ℕ} (first x : ℕ) → Come ms size d n k (first + x) → x < length (items ms first) → (k ≡ n → ⊥) → Turn ms size d n k first x
turn {ms} {size} {d} {n} {k} first x w in_items not_all =
    let long = rw length-drop at (ap (λ (l : List Mapping). length l) (items-all ms first)) in
    let more : first + x < length ms = omega arith in
    let left : k < n = omega (arith, w.within) in
    let item : get_or (items ms first) x blank ≡ entry ms (first + x) = rw (items-all ms first) (get_or-drop first ms x blank) in
    record {
      more = more;
      left = left;
      asks = λ below. rw item (walk_bounds w more left below);
      next = λ shown is. sym is ∙ rw item at shown;
      room = λ is. next_room w more left is;
    }

-- ---- judging

-- the fault at an offset
abbrev pub fault_at : Bool → Shadow → List Mapping → DeviceAddress → ℕ → Verdict
fault_at write shadow ms d j = fault_of write shadow (translate ms (device_offset d j))

-- the checks that look at no mapping are passed, and the offsets below k have no fault
pub record Judged (write : Bool) (shadow : Shadow) (size : ℕ) (ms : List Mapping) (d : DeviceAddress) (n k i : ℕ) : Type 0 where
  pub walk : Come ms size d n k i
  pub clean : (j : ℕ) → j < k → fault_at write shadow ms d j ≡ Pass
  pub short : n ≤ transfer_limit
  pub below : d.0 + n ≤ device_limit

pub judged-start : (write : Bool) (shadow : Shadow) {size : ℕ} {ms : List Mapping} (d : DeviceAddress) (n first : ℕ) → Ready ms size → first ≡ first_past d ms
    → Pass ≡ length_check n → Pass ≡ (Range unless in_device_range d n) → Judged write shadow size ms d n 0 first
unfolding length_check in_device_range
judged-start write shadow d n first ready is short below = record {
  walk = rw is (walk_start d n ready);
  clean = λ j h. absurd (omega arith);
  short = ltb-false _ _ (when_pass _ _ (sym short));
  below = leb-true _ _ (unless_pass _ _ (sym below));
}

module _ {write : Bool} {shadow : Shadow} {size : ℕ} {ms : List Mapping} {d : DeviceAddress} {n k i : ℕ} (s : Judged write shadow size ms d n k i) where
  abbrev all : Verdict
  all = transfer_checks (fault_of write shadow) ms d n

  offsets : all ≡ first_fault (fault_at write shadow ms d) n
  offsets = checks_offsets (fault_of write shadow) ms d n s.short s.below

  -- no offset is left
  judged_pass : n ≤ k → Pass ≡ all
  judged_pass h = sym (offsets ∙ first_fault_pass (fault_at write shadow ms d) n (λ j l. s.clean j (omega arith)))

  unmapped : k < n → translate ms (device_offset d k) ≡ Nowhere → Fail Unmapped k ≡ all
  unmapped b e = sym (offsets ∙ first_fault-at (fault_at write shadow ms d) n k Unmapped 0 b s.clean (ap (fault_of write shadow) e ∙ fault-nowhere write shadow))

  -- no mapping is left
  judged-end : length ms ≤ i → k < n → Fail Unmapped k ≡ all
  judged-end h b = unmapped b (end-nowhere s.walk h b)

  -- the last check, where no mapping or no offset is left
  pub judged-last : (k < n → length ms ≤ i) → (Unmapped when ltb k n at k) ≡ all
  judged-last out = go (ltb k n) refl
    where
      go : (b : Bool) → ltb k n ≡ b → (Unmapped when b at k) ≡ all
      go true e = let more = ltb-true k n e in unfold ◌when◌ ◌at◌ in judged-end (out more) more
      go false e = unfold ◌when◌ ◌at◌ in judged_pass (ltb-false k n e)

  -- the mapping at index i does not show the address at offset k
  pub judged-nowhere : None ≡ next_run ms d n k i → k < n → Fail Unmapped k ≡ all
  judged-nowhere is b = unmapped b (next-shown s.walk b ∙ sym (run_none _ _ is))

  -- a run, and the verdict v on it
  module _ (more : i < length ms) {run : Run} (is : Some run ≡ next_run ms d n k i) (b : k < n)
      {v : Verdict} (judged : (left : ℕ) → v ≡ first_fault (run_fault write shadow run.at run.rights left) run.len) where
    on_run : first_fault (λ j. fault_at write shadow ms d (k + j)) run.len ≡ v
    on_run =
        first_fault_cong _ _ run.len (λ j h.
        let same : d.0 + (k + j) ≡ d.0 + k + j = omega arith in
        let r = found s.walk more b is in
        rw same (ap (fault_of write shadow) (run-translate s.walk more r.is b j (rw r.long at h))))
        ∙ sym (judged (found s.walk more b is).left)

    pub judged-fault : (code place : ℕ) → Fail code place ≡ v → Fail code (k + place) ≡ all
    judged-fault code place h =
        sym (offsets ∙ first_fault-run (fault_at write shadow ms d) n k run.len code place (next_room s.walk more b is).1 s.clean (on_run ∙ sym h))

    pub judged-run : Pass ≡ v → Judged write shadow size ms d n (k + run.len) (i + 1)
    judged-run h = record {
      walk = next_walk s.walk more b is;
      clean = passes-run (fault_at write shadow ms d) k run.len s.clean (first_fault-all (λ j. fault_at write shadow ms d (k + j)) run.len (on_run ∙ sym h));
      short = s.short;
      below = s.below;
    }

-- ---- results

pub ok_passes : {R : Type 0} (r : Result R Refusal) → true ≡ is_ok r → Pass ≡ verdict_of r
ok_passes (Ok x) h = refl
ok_passes (Err e) h = absurd (true≢false h)

-- an error that `map_err` has changed
pub err-mapped : {U V E F : Type 0} (P : U → Type 0) (Q : E → F → Type 0) (r : Result U E) (s : Result V F) (f : F) → s ≡ Err f → false ≡ is_ok r → MatchResult r P (λ e. IsErrAnd s (Q e)) → (e : E) × (r ≡ Err e) × Q e f
err-mapped P Q (Ok x) s f is h m = absurd (false≢true h)
err-mapped P Q (Err e) s f is h m = (e, refl, subst (λ x. IsErrAnd x (Q e)) is m)

-- ---- moving bytes

-- a walk of an accepted transfer meets no gap, and is over where the table is
module _ {ms : List Mapping} {size : ℕ} {d : DeviceAddress} {n k i : ℕ} (accepted : Accepted ms d n) (w : Come ms size d n k i) where
  nowhere : {X : Type 0} → k < n → translate ms (device_offset d k) ≡ Nowhere → X
  unfolding mapped
  nowhere b e = absurd (false≢true (rw e at (accepted.held k b)))

  pub no_gap : (o : Option Run) → o ≡ next_run ms d n k i → k < n → IsSome o
  no_gap None is b = nowhere b (next-shown w b ∙ sym (run_none _ _ is))
  no_gap (Some run) is b = refl

  pub walk-over : length ms ≤ i → n ≤ k
  walk-over h = go (ltb k n) refl
    where
      go : (b : Bool) → ltb k n ≡ b → n ≤ k
      go true e = nowhere (ltb-true k n e) (end-nowhere w h (ltb-true k n e))
      go false e = ltb-false k n e

-- ---- reading

-- what is still to be read makes of the buffer what the whole makes of the one given
pub record Reading (ms : List Mapping) (bytes : List ℕ) (d : DeviceAddress) (old buf : List ℕ) (k i : ℕ) : Type 0 where
  pub accepted : Accepted ms d (length old)
  pub walk : Come ms (length bytes) d (length old) k i
  pub long : length buf ≡ length old
  pub rest : (shadow : List ℕ) → sets buf k (gather ms (memory_of bytes shadow) (device_offset d k) (length old - k)) ≡ gather ms (memory_of bytes shadow) d (length old)

pub reading-start : {ms : List Mapping} (bytes : List ℕ) (d : DeviceAddress) (buf : List ℕ) → Ready ms (length bytes) → Accepted ms d (length buf) → (first : ℕ) → first ≡ first_past d ms
    → Reading ms bytes d buf buf 0 first
reading-start {ms} bytes d buf ready accepted first is = record {
  accepted = accepted;
  walk = rw is (walk_start d (length buf) ready);
  long = refl;
  rest = λ shadow. rw (add-zero d.0, sub-zero (length buf)) (sets-all buf _ (gather-length ms (memory_of bytes shadow) d (length buf)));
}

module _ {ms : List Mapping} {bytes : List ℕ} {d : DeviceAddress} {old buf : List ℕ} {k i : ℕ} (s : Reading ms bytes d old buf k i) where
  pub reading-done : length old ≤ k → (shadow : List ℕ) → buf ≡ gather ms (memory_of bytes shadow) d (length old)
  unfolding gather
  reading-done h shadow =
      let e : length old - k ≡ 0 = omega arith in
      rw e at (s.rest shadow)

  pub reading-end : length ms ≤ i → (shadow : List ℕ) → buf ≡ gather ms (memory_of bytes shadow) d (length old)
  reading-end h = reading-done (walk-over s.accepted s.walk h)

  module _ (more : i < length ms) (b : k < length old) {run : Run} (is : Some run ≡ next_run ms d (length old) k i) where
    pub reading-run : (new : List ℕ) → new ≡ sets buf k (slice bytes run.at run.len) → Reading ms bytes d old new (k + run.len) (i + 1)
    reading-run new stored =
        let room = next_room s.walk more b is in
        record {
          accepted = s.accepted;
          walk = next_walk s.walk more b is;
          long = rw stored (length-sets buf k (slice bytes run.at run.len) ∙ s.long);
          rest = λ shadow.
              rw stored
              (gather-more ms d k run.at run.len (next_contiguous s.walk more b is) (memory_of bytes shadow) (length old) buf room.1 room.0
              ∙ s.rest shadow);
        }

-- ---- writing

-- what is still to be stored makes of memory what the whole makes of the one given
pub record Writing (ms : List Mapping) (d : DeviceAddress) (buf : List ℕ) (old new : Memory) (k i : ℕ) : Type 0 where
  pub accepted : Accepted ms d (length buf)
  pub walk : Come ms (length old.bytes) d (length buf) k i
  pub bytes-long : length new.bytes ≡ length old.bytes
  pub shadow-long : mark_bytes new.shadow ≡ mark_bytes old.shadow
  pub rest : edited (scatter ms (device_offset d k) (drop k buf)) new ≡ edited (scatter ms d buf) old

module _ {ms : List Mapping} {d : DeviceAddress} {buf : List ℕ} {old new : Memory} {k i : ℕ} (s : Writing ms d buf old new k i) where
  pub writing-done : length buf ≤ k → new ≡ edited (scatter ms d buf) old
  unfolding scatter edited
  writing-done h = rw (drop_of_length-le buf h) at s.rest

  pub writing-end : length ms ≤ i → new ≡ edited (scatter ms d buf) old
  writing-end h = writing-done (walk-over s.accepted s.walk h)

  module _ (more : i < length ms) (b : k < length buf) {run : Run} (is : Some run ≡ next_run ms d (length buf) k i) where
    pub writing-run : (next : Memory) → next ≡ edited (stores (memory_address run.at) (slice buf k run.len)) new → Writing ms d buf old next (k + run.len) (i + 1)
    writing-run next stored = record {
      accepted = s.accepted;
      walk = next_walk s.walk more b is;
      bytes-long = ap (λ (m : Memory). length m.bytes) stored ∙ edited_bytes_length _ new ∙ s.bytes-long;
      shadow-long = ap (λ (m : Memory). mark_bytes m.shadow) stored ∙ edited-shadow_length _ new ∙ s.shadow-long;
      rest =
          rw stored
          (scatter-more ms d k run.at run.len (next_contiguous s.walk more b is) new buf (next_room s.walk more b is).1
          ∙ s.rest);
    }
