-- A pass on its way: what it has found and what is still to come make the whole.
use Rattle.std.proofs.Common.{◌≡◌, ℕ, ◌+◌, ◌*◌, ◌≤◌, Bool, true, false, ltb, List, [], ◌∷◌, ◌++◌, length, Ok, Err, sym, refl, ap, ◌∙◌, append_assoc, append-nil, arith, length-append, le-ltb}
use lib.Seq.{sets, length-sets}
use Rattle.answer.specs.Tests.{pick}
use Rattle.answer.specs.Answer.{Answer, done, refused, ◌onward◌, number_of, told}
use Rattle.answer.specs.declared.Refusal.{Refusal}
use Rattle.answer.proofs.Tests.{pick_false}
use Rattle.wire.proofs.Laws.{sets_then}
use Rattle.virtqueue.specs.declared.Descriptor.{Descriptor}
use Rattle.virtqueue.specs.Ring.{numbers_of}
use Rattle.virtqueue.specs.Passes.{put_at, Passes}
use Rattle.virtqueue.proofs.Laws.{never_done}
use Rattle.virtqueue.proofs.Numbers.{numbers-length, numbers-append}

-- `rest` is still to come of `whole`, behind what was found
pub record Ahead (whole rest : Answer (List Descriptor)) (before buffers : ℕ) (ns ns' : List ℕ) : Type 0 where
  pub found : List Descriptor
  pub joins : whole ≡ (rest onward λ ys. done (found ++ ys))
  pub counted : buffers ≡ before + length found
  pub long : length ns' ≡ length ns
  pub filled : 3 * buffers ≤ length ns → ns' ≡ sets ns (3 * before) (numbers_of found)

pub starts : (a : Answer (List Descriptor)) (before : ℕ) (ns : List ℕ) → Ahead a a before before ns ns
unfolding ◌onward◌ numbers_of
starts a before ns = record { found = []; joins = whole a; counted = omega arith; long = refl; filled = λ h. refl }
  where
    whole : (a : Answer (List Descriptor)) → a ≡ (a onward λ ys. done ([] ++ ys))
    whole (done xs) = refl
    whole (refused code place) = refl

-- a part of a pass that was refused
pub part-refused : {a : Answer (List Descriptor)} {before : ℕ} {e : Refusal} {ns ns' : List ℕ} → Passes a before (Err e) ns ns' → refused (number_of e.reason) e.place ≡ a
unfolding ◌onward◌
part-refused {a} {before} {e} p = by a p.tells
  where
    by : (a : Answer (List Descriptor)) → told (Err e) ≡ (a onward λ xs. done (before + length xs)) → refused (number_of e.reason) e.place ≡ a
    by (done xs) h = never_done h
    by (refused code place) h = let x : number_of e.reason ≡ code = cc in let y : e.place ≡ place = cc in rw (x, y) refl

-- and one that was not
pub part_done : {a : Answer (List Descriptor)} {before after : ℕ} {ns ns' : List ℕ} → Passes a before (Ok after) ns ns' → (xs : List Descriptor) × (a ≡ done xs) × (after ≡ before + length xs)
unfolding ◌onward◌
part_done {a} {before} {after} p = by a p.tells
  where
    by : (a : Answer (List Descriptor)) → done after ≡ (a onward λ xs. done (before + length xs)) → (xs : List Descriptor) × (a ≡ done xs) × (after ≡ before + length xs)
    by (done xs) h = (xs, refl, cc)
    by (refused code place) h = never_done (sym h)

-- a buffer that is put is such a part
pub put_passes : (ns ns' : List ℕ) (before : ℕ) (x : Descriptor) → ns' ≡ put_at ns before x → Passes (done (x ∷ [])) before (Ok (before + 1)) ns ns'
unfolding ◌onward◌ put_at
put_passes ns ns' before x e = record {
  tells = refl;
  stored = λ xs is room.
      let one : x ∷ [] ≡ xs = cc in
      let fits : 3 * before + 3 ≤ length ns = omega (arith, ap (length {A = Descriptor}) one) in
      e ∙ pick_false _ _ _ (le-ltb _ _ fits) ∙ ap (λ (zs : List Descriptor). sets ns (3 * before) (numbers_of zs)) one;
}

pub put-long : (ns ns' : List ℕ) (before : ℕ) (x : Descriptor) → ns' ≡ put_at ns before x → length ns' ≡ length ns
unfolding put_at pick
put-long ns ns' before x e = ap (length {A = ℕ}) e ∙ go (ltb (length ns) (3 * before + 3))
  where
    go : (t : Bool) → length (pick t ns (sets ns (3 * before) (numbers_of (x ∷ [])))) ≡ length ns
    go true = refl
    go false = length-sets ns (3 * before) (numbers_of (x ∷ []))

module _ {whole rest : Answer (List Descriptor)} {before buffers : ℕ} {ns ns' : List ℕ} (h : Ahead whole rest before buffers ns ns') where
  whole-refused : (code place : ℕ) → refused code place ≡ rest → whole ≡ refused code place
  unfolding ◌onward◌
  whole-refused code place e = h.joins ∙ rw (← e) refl

  -- a refusal of what is to come is one of the whole, and nothing is said of the array
  pub refuses : (e : Refusal) (ms : List ℕ) → refused (number_of e.reason) e.place ≡ rest → Passes whole before (Err e) ns ms
  unfolding ◌onward◌
  refuses e ms is =
      let all = whole-refused _ _ is in
      record { tells = rw all refl; stored = λ xs found. never_done (sym all ∙ found) }

  -- and so is one of its first part
  pub part-refuses : {part : Answer (List Descriptor)} (k : List Descriptor → Answer (List Descriptor)) (e : Refusal) (ms : List ℕ) → Passes part buffers (Err e) ns' ms → rest ≡ (part onward k) → Passes whole before (Err e) ns ms
  unfolding ◌onward◌
  part-refuses {part} k e ms p is =
      let first : part ≡ refused (number_of e.reason) e.place = sym (part-refused p) in
      refuses e ms (sym (is ∙ ap (λ (t : Answer (List Descriptor)). t onward k) first))

  -- where nothing is to come
  pub ends : rest ≡ done [] → Passes whole before (Ok buffers) ns ns'
  unfolding ◌onward◌
  ends e =
      let all : whole ≡ done h.found = h.joins ∙ rw (e, append-nil h.found) refl in
      record {
        tells = rw (all, h.counted) refl;
        stored = λ xs is room. let same : h.found ≡ xs = let z = sym all ∙ is in cc in rw (← same) (h.filled (omega (arith, h.counted, ap (length {A = Descriptor}) same)));
      }

  -- one part further: what was found and what is to come make the whole again
  pub turn : {part rest' : Answer (List Descriptor)} {after : ℕ} {ms : List ℕ} → Passes part buffers (Ok after) ns' ms → length ms ≡ length ns' → rest ≡ (part onward λ xs. rest' onward λ ys. done (xs ++ ys))
      → Ahead whole rest' before after ns ms
  unfolding ◌onward◌
  turn {part} {rest'} {after} {ms} p long is = let d = part_done p in further d.0 d.1 d.2
    where
      behind : (t : Answer (List Descriptor)) (xs : List Descriptor) → ((t onward λ ys. done (xs ++ ys)) onward λ zs. done (h.found ++ zs)) ≡ (t onward λ ys. done ((h.found ++ xs) ++ ys))
      behind (done ys) xs = rw (append_assoc h.found xs ys) refl
      behind (refused code place) xs = refl

      further : (xs : List Descriptor) → part ≡ done xs → after ≡ buffers + length xs → Ahead whole rest' before after ns ms
      further xs part-is count =
          let rest-is : rest ≡ (rest' onward λ ys. done (xs ++ ys)) = is ∙ ap (λ (t : Answer (List Descriptor)). t onward λ zs. rest' onward λ ys. done (zs ++ ys)) part-is in
          record {
            found = h.found ++ xs;
            joins = h.joins ∙ ap (λ (t : Answer (List Descriptor)). t onward λ ys. done (h.found ++ ys)) rest-is ∙ behind rest' xs;
            counted = omega (arith, h.counted, length-append h.found xs);
            long = long ∙ h.long;
            filled = λ room.
                let at : 3 * before + length (numbers_of h.found) ≡ 3 * buffers = omega (arith, numbers-length h.found, h.counted) in
                p.stored xs part-is (omega (arith, h.long))
                ∙ ap (λ (l : List ℕ). sets l (3 * buffers) (numbers_of xs)) (h.filled (omega arith))
                ∙ sets_then ns (numbers_of h.found) (numbers_of xs) (3 * before) (3 * buffers) at
                ∙ ap (sets ns (3 * before)) (sym (numbers-append h.found xs));
          }
