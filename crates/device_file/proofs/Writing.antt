-- Laws of the writer: its checks, and the bytes that it writes.
use Prim.Native.Nat.{ℕ, ◌+◌, ◌≤◌}
use native.Mathlib.Omega.{arith}
use mathlib.Core.Path.{◌≡◌, refl}
use mathlib.Core.Bool.{Bool, true, false, not, false≢true, true≢false}
use mathlib.Core.List.{List, ◌++◌}
use mathlib.Core.Option.{Option, none, some}
use lib.ListN.{length}
use lib.Seq.{sets, length-sets, take-length}
use lib.Dec.{eqb}
use borrow.Author.Tests.{eqb-true, ltb-false, le-ltb, le-leb}
use Rattle.answer.specs.Tests.{◌or◌, pick, is_some}
use Rattle.std.proofs.Common.{Option as CodeOption, Some, None, is_some as holds_some}
use Rattle.answer.specs.Checks.{Pass, ◌then◌, ◌when◌, ◌unless◌}
use Rattle.answer.specs.Limits.{transfer_limit, length_check}
use Rattle.answer.specs.Answer.{Answer, done, refused, ◌onward◌}
use Rattle.answer.proofs.Checks.{then_pass, when_pass, unless_pass}
use Rattle.wire.specs.Field.{bytes_of, slice}
use Rattle.wire.proofs.Laws.{sets_then}
use Rattle.device_file.specs.Layout.{header_size, is_magic, Region, is_sub, region_size, least_length, fits}
use Rattle.device_file.specs.Read.{length_at}
use Rattle.device_file.specs.Write.{Written, start_checks, started, record_length, bare_fits, grown, encoded}
use Rattle.device_file.specs.Scan.{option_in, reply_of, left_by, Writes}

-- ---- answers

pub writes-refused : (buf : List ℕ) (a : Answer Written) (code place : ℕ) → refused code place ≡ a → Writes buf a (refused code place) buf
unfolding reply_of left_by ◌onward◌
writes-refused buf a code place e = rw (← e) (record { answer = refl; buffer = refl })

pub writes-done : (buf : List ℕ) (a : Answer Written) (w : Written) (buf' : List ℕ) → done w ≡ a → buf' ≡ w.buffer → Writes buf a (done w.used) buf'
unfolding reply_of left_by ◌onward◌
writes-done buf a w buf' e f = rw (← e) (record { answer = refl; buffer = f })

-- ---- starting a file

pub start-room : (room magic : ℕ) → start_checks room magic ≡ Pass → header_size ≤ room
unfolding start_checks
start-room room magic h = ltb-false _ _ (when_pass _ _ (then_pass _ _ (then_pass _ _ h).1).1)

pub start-magic : (room magic : ℕ) → start_checks room magic ≡ Pass → is_magic magic ≡ true
unfolding start_checks
start-magic room magic h = unless_pass _ _ (then_pass _ _ (then_pass _ _ h).1).0

pub start_made : (room magic : ℕ) → room ≤ transfer_limit → is_magic magic ≡ true → header_size ≤ room → start_checks room magic ≡ Pass
unfolding start_checks length_check ◌then◌ ◌when◌ ◌unless◌
start_made room magic most is h = rw (le-ltb _ _ most, is, le-ltb _ _ h)

pub put-header : (l : List ℕ) (magic version flags : ℕ)
    → sets (sets (sets l 0 (bytes_of 4 magic)) 4 (bytes_of 4 version)) 8 (bytes_of 4 flags) ≡ (started l magic version flags).buffer
unfolding started bytes_of
put-header l magic version flags = refl

-- ---- the checks of a record

-- the code's test of a sub-record that has no REGION
pub no_region : (region : CodeOption ℕ) (none : Bool) → holds_some region ≡ not none → none ≡ not (is_some (option_in region))
unfolding option_in is_some
no_region None true h = refl
no_region None false h = absurd (false≢true h)
no_region (Some g) true h = absurd (true≢false h)
no_region (Some g) false h = refl

-- a bare record's length is one that its type may have
pub bare_fits_lem : (t n : ℕ) → bare_fits t n ≡ true → fits t n ≡ true
unfolding bare_fits fits least_length pick ◌or◌
bare_fits_lem t n = go (eqb t Region) refl
  where
    go : (b : Bool) → eqb t Region ≡ b → pick b (eqb n region_size) (fits t n) ≡ true → fits t n ≡ true
    go true e h = rw (eqb-true t Region e) (le-leb region_size n (omega (arith, eqb-true n region_size h)))
    go false e h = h

-- ---- writing a record

pub grown-some : (buf : List ℕ) (g t n : ℕ) → is_sub t ≡ true → grown buf (some g) t n ≡ sets buf (g + 4) (bytes_of 4 (length_at buf g + n))
unfolding grown pick
grown-some buf g t n e = rw e

pub grown-none : (buf : List ℕ) (region : Option ℕ) (t n : ℕ) → is_sub t ≡ false → buf ≡ grown buf region t n
unfolding grown pick
grown-none buf none t n e = refl
grown-none buf (some g) t n e = rw e

pub length-grown : (buf : List ℕ) (region : Option ℕ) (t n : ℕ) → length (grown buf region t n) ≡ length buf
unfolding grown pick
length-grown buf none t n = refl
length-grown buf (some g) t n = go (is_sub t)
  where
    go : (b : Bool) → length (pick b (sets buf (g + 4) (bytes_of 4 (length_at buf g + n))) buf) ≡ length buf
    go true = length-sets buf (g + 4) (bytes_of 4 (length_at buf g + n))
    go false = refl

pub put-encoded : (l : List ℕ) (p t : ℕ) (v : List ℕ)
    → sets (sets (sets l p (bytes_of 4 t)) (p + 4) (bytes_of 4 (record_length v))) (p + 8) (slice v 0 (length v)) ≡ sets l p (encoded t v)
unfolding encoded bytes_of
put-encoded l p t v =
    rw (take-length v, sets_then l (bytes_of 4 t) (bytes_of 4 (record_length v)) p (p + 4) refl, sets_then l (bytes_of 4 t ++ bytes_of 4 (record_length v)) v p (p + 8) refl)
