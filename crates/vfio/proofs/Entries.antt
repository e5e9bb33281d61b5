-- Laws of the table of requests: its search, and checks 2, 3 and 4 of the row that is found.
use Rattle.std.proofs.Common.{◌≡◌, refl, sym, ◌∙◌, ℕ, ◌≤◌, Bool, true, false, ◌==◌, ◌&&◌, List, [], ◌∷◌, length, map, find, ltb, leb, MatchOption, Result, Ok, Err, IsErr, IsErrAnd, Option as CodeOption, None, Some, ok_or, leb-true, ltb-false, arith, lit≤}
use Rattle.std.proofs.Math.Option.{Option, none, some}
use Rattle.answer.specs.Tests.{◌and◌, pick}
use Rattle.answer.specs.Codes.{Short, ArgSize}
use Rattle.answer.specs.Answer.{number_of}
use Rattle.answer.specs.declared.Reason.TheVariants.{NoSuchRequest as NoSuchRequestReason}
use Rattle.answer.specs.declared.Refusal.{Refusal}
use Rattle.answer.specs.Checks.{Verdict, Pass, Fail, ◌then◌, ◌when◌, ◌unless◌}
use Rattle.answer.proofs.Tests.{and_true}
use Rattle.answer.proofs.Checks.{then_pass, when_pass, unless_pass}
use Rattle.wire.specs.Field.{field}
use Rattle.emulator.specs.Requests.{Entry, entry_in, identify, argsz_checks, size_checks}
use Rattle.vfio.specs.Entries.{entry_of, Knows}
use Rattle.vfio.specs.Handlers.{Admits}
use Rattle.vfio.specs.declared.requests.Entry.{Entry as Row}
use Rattle.vfio.specs.declared.requests.Request.{Request}
use Rattle.vfio.specs.declared.requests.Request.TheVariants.{GetApiVersion, CheckExtension, SetIommu, GetIommuInfo, MapDma, UnmapDma, GetInfo, GetRegionInfo, GetIrqInfo, SetIrqs, ResetDevice}

-- ---- the search

-- the row of each request, and all in their order
abbrev pub row_of : Request → Row
row_of q = record { target = (entry_of q).target; number = (entry_of q).number; request = q; size = (entry_of q).size; has_argsz = (entry_of q).argsz }

abbrev pub all : List Request
all = GetApiVersion ∷ CheckExtension ∷ SetIommu ∷ GetIommuInfo ∷ MapDma ∷ UnmapDma ∷ GetInfo ∷ GetRegionInfo ∷ GetIrqInfo ∷ SetIrqs ∷ ResetDevice ∷ []

abbrev pub tells : ℕ → ℕ → Row → Bool
tells target number row = row.target == target && row.number == number

-- the row that is found is that of the entry that is listed
pub found : (target number : ℕ) (qs : List Request)
    → MatchOption (find (tells target number) (map row_of qs)) (entry_in (map entry_of qs) target number ≡ none) (Knows (entry_in (map entry_of qs) target number))
unfolding entry_in pick ◌and◌
found target number [] = refl
found target number (q ∷ qs) = go ((entry_of q).target == target) ((entry_of q).number == number) refl refl (found target number qs)
  where
    go : (t n : Bool) → ((entry_of q).target == target) ≡ t → ((entry_of q).number == number) ≡ n
        → MatchOption (find (tells target number) (map row_of qs)) (entry_in (map entry_of qs) target number ≡ none) (Knows (entry_in (map entry_of qs) target number))
        → MatchOption (find (tells target number) (map row_of (q ∷ qs))) (entry_in (map entry_of (q ∷ qs)) target number ≡ none) (Knows (entry_in (map entry_of (q ∷ qs)) target number))
    go true true e f rest = rw (e, f) (record { request = refl; size = refl; argsz = refl })
    go true false e f rest = rw (e, f) rest
    go false n e f rest = rw e rest

-- ---- checks 2, 3 and 4, by the row that was found

module _ (o : Option Entry) (found : CodeOption Row) where
  pub unlisted : (e : Refusal) → MatchOption found (o ≡ none) (Knows o) → Err e ≡ ok_or found (record { reason = NoSuchRequestReason; place = 0 })
      → (buf : List ℕ) → Fail (number_of e.reason) e.place ≡ size_checks o buf
  unfolding size_checks
  unlisted e h f buf = go found h f
    where
      go : (found : CodeOption Row) → MatchOption found (o ≡ none) (Knows o) → Err e ≡ ok_or found (record { reason = NoSuchRequestReason; place = 0 }) → Fail (number_of e.reason) e.place ≡ size_checks o buf
      go None h f = let is : e ≡ record { reason = NoSuchRequestReason; place = 0 } = cc in rw (h, is)
      go (Some row) h f = cc

  pub listed : (row : Row) (e : Refusal) → MatchOption found (o ≡ none) (Knows o) → Ok row ≡ ok_or found e → Knows o row
  listed row e h f = go found h f
    where
      go : (found : CodeOption Row) → MatchOption found (o ≡ none) (Knows o) → Ok row ≡ ok_or found e → Knows o row
      go None h f = cc
      go (Some r) h f = let is : row ≡ r = cc in rw is h

-- a request that has an argsz is long enough for it
roomy : (q : Request) → (entry_of q).argsz ≡ true → 4 ≤ (entry_of q).size
roomy GetApiVersion h = cc
roomy CheckExtension h = cc
roomy SetIommu h = cc
roomy GetIommuInfo h = lit≤ tt
roomy MapDma h = lit≤ tt
roomy UnmapDma h = lit≤ tt
roomy GetInfo h = lit≤ tt
roomy GetRegionInfo h = lit≤ tt
roomy GetIrqInfo h = lit≤ tt
roomy SetIrqs h = lit≤ tt
roomy ResetDevice h = cc

module _ (o : Option Entry) (buf : List ℕ) (row : Row) (knows : Knows o row) where
  pub short : {code place : ℕ} → Fail code place ≡ (Short when ltb (length buf) row.size) → Fail code place ≡ size_checks o buf
  unfolding size_checks ◌then◌
  short h = rw (knows.request, ← knows.size, ← h)

  module _ (long : Pass ≡ (Short when ltb (length buf) row.size)) where
    pub plain : row.has_argsz ≡ false → Pass ≡ size_checks o buf
    unfolding size_checks argsz_checks ◌then◌
    plain h = rw (knows.request, ← knows.size, ← long, ← knows.argsz, h)

    module _ (first : row.has_argsz ≡ true) where
      pub judged : (v : Verdict) → v ≡ (ArgSize unless leb row.size (field buf 0 4) and leb (field buf 0 4) (length buf)) → v ≡ size_checks o buf
      unfolding size_checks argsz_checks ◌then◌
      judged v h = rw (knows.request, ← knows.size, ← long, ← knows.argsz, first) h

      pub argsz_room : 4 ≤ length buf
      argsz_room =
          let fits : 4 ≤ (entry_of row.request).size = roomy row.request (sym knows.argsz ∙ first) in
          let le : row.size ≤ length buf = ltb-false _ _ (when_pass _ _ (sym long)) in
          omega (arith, knows.size)

-- ---- what they have shown

-- the buffer has the size that is listed
pub size_room : (r : Entry) (buf : List ℕ) → Pass ≡ size_checks (some r) buf → r.size ≤ length buf
unfolding size_checks
size_room r buf h = ltb-false _ _ (when_pass _ _ (then_pass _ _ (sym h)).0)

-- and the length that argsz says, where that is the first field
pub argsz_fits : (r : Entry) (buf : List ℕ) → r.argsz ≡ true → Pass ≡ size_checks (some r) buf → field buf 0 4 ≤ length buf
unfolding size_checks argsz_checks
argsz_fits r buf is h = leb-true _ _ (and_true _ _ (unless_pass _ _ (rw is at (then_pass _ _ (sym h)).1))).1

-- a refusal that is passed on
pub is_refused : (target number : ℕ) (buf : List ℕ) (r : Result Request Refusal) (e : Refusal) → IsErr r × IsErrAnd r (λ f. f ≡ e) → Fail (number_of e.reason) e.place ≡ size_checks (identify target number) buf
    → Admits target number buf r
is_refused target number buf (Ok q) e h f = absurd h.1
is_refused target number buf (Err x) e h f = record { checks = rw h.1 f; listed = tt }
