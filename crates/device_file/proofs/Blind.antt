-- Bytes behind those in use decide nothing (rule 9.13).
use Prim.Native.Nat.{ℕ, ◌+◌, ◌≤◌}
use native.Mathlib.Omega.{arith}
use mathlib.Core.Path.{◌≡◌, refl, sym, ◌∙◌}
use mathlib.Core.List.{List, ◌++◌}
use mathlib.Core.Option.{Option, none, some}
use lib.ListN.{length, take}
use Rattle.answer.specs.Answer.{Answer, done, refused, settle}
use Rattle.answer.specs.Checks.{Verdict, Pass, Fail}
use Rattle.wire.specs.Field.{bytes_of}
use Rattle.device_file.specs.Layout.{header_size, prefix_size}
use Rattle.device_file.specs.Read.{File}
use Rattle.device_file.specs.Write.{start_checks, started, start_file, last_region, record_length, append_checks, appended, append_to, read_used, append_record}
use Rattle.device_file.specs.RoundTrips.{Alike, Blind}
use Rattle.device_file.proofs.Writing.{start-room}
use Rattle.device_file.proofs.Appending.{used-is, append-refused, append-read, fit, used-length, region-used}
use Rattle.device_file.proofs.Lists.{take-written, drop-written}
use Rattle.device_file.proofs.Growth.{used-after, rest-after}
use Rattle.device_file.proofs.ReadsBack.{header-long}

module _ (buf buf' : List ℕ) (long : length buf ≡ length buf') where
  started-alike : (magic version flags : ℕ) (v : Verdict) → start_checks (length buf) magic ≡ v
      → Alike buf buf' (settle v (started buf magic version flags)) (settle v (started buf' magic version flags))
  unfolding Alike settle started
  started-alike magic version flags (Fail code place) e = refl
  started-alike magic version flags Pass e =
      let room = start-room (length buf) magic e in
      let h = bytes_of 4 magic ++ bytes_of 4 version ++ bytes_of 4 flags in
      let end = header-long magic version flags in
      (refl, take-written buf' 0 h header_size (omega arith) (omega arith) ∙ sym (take-written buf 0 h header_size (omega arith) room), drop-written buf 0 h header_size (omega arith) room, drop-written buf' 0 h header_size (omega arith) (omega arith))

  start-blind : (magic version flags : ℕ) → Alike buf buf' (start_file buf magic version flags) (start_file buf' magic version flags)
  unfolding start_file
  start-blind magic version flags = rw (← long) (started-alike magic version flags (start_checks (length buf) magic) refl)

  module _ (used t : ℕ) (v : List ℕ) (same : take used buf ≡ take used buf') where
    same_read : read_used buf' used ≡ read_used buf used
    unfolding read_used
    same_read = rw (← long, ← same)

    ends : (l : List ℕ) (region : Option ℕ) → (appended l used region t v).used ≡ used + record_length v
    unfolding appended
    ends l region = refl

    module _ (file : File) (e : read_used buf used ≡ done file) where
      appended-alike : (c : Verdict) → append_checks (length buf) used (last_region file.records none) t v ≡ c
          → Alike buf buf' (settle c (appended buf used (last_region file.records none) t v)) (settle c (appended buf' used (last_region file.records none) t v))
      unfolding Alike settle
      appended-alike (Fail code place) c = refl
      appended-alike Pass c =
          let u = used-is buf used file e in
          let end = (fit (length buf) used (last_region file.records none) t v c).ends in
          let there : (g : ℕ) → last_region file.records none ≡ some g → g + prefix_size ≤ used = λ g is. omega (arith, (region-used buf used file u g is).fixed, used-length buf used file u) in (
            ends buf' _ ∙ sym (ends buf _),
            used-after buf' used _ t v (rw (← long) end) there ∙ rw (← same) (sym (used-after buf used _ t v end there)),
            rw (ends buf (last_region file.records none)) (rest-after buf used _ t v end there),
            rw (ends buf (last_region file.records none)) (rest-after buf' used _ t v (rw (← long) end) there),
          )

    append-blind : Alike buf buf' (append_record buf used t v) (append_record buf' used t v)
    unfolding Alike append_to
    append-blind = go (read_used buf used) refl
      where
        go : (a : Answer File) → read_used buf used ≡ a → Alike buf buf' (append_record buf used t v) (append_record buf' used t v)
        go (refused code place) e = rw (append-refused buf used t v code place e, append-refused buf' used t v code place (same_read ∙ e)) refl
        go (done file) e =
            rw (append-read buf used t v file e, append-read buf' used t v file (same_read ∙ e), ← long)
            (appended-alike file e (append_checks (length buf) used (last_region file.records none) t v) refl)

pub blind : Blind
blind = record { start = λ buf buf' magic version flags long. start-blind buf buf' long magic version flags; append = λ buf buf' used t v long same. append-blind buf buf' long used t v same }
