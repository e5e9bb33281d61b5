-- The walk of a queue, by what its index and its heads gave.
use Rattle.std.proofs.Common.{◌≡◌, ℕ, ◌+◌, ◌/◌, ◌<◌, ◌≤◌, List, length, Result, Ok, Err, sym, refl, ap, ◌∙◌, arith, le-ltb, lt-ltb}
use Rattle.answer.specs.Codes.{NoSpace}
use Rattle.answer.specs.Checks.{◌when◌}
use Rattle.answer.specs.Answer.{Answer, done, refused, settle, ◌onward◌, number_of, told}
use Rattle.answer.specs.declared.Refusal.{Refusal}
use Rattle.wire.specs.Field.{field}
use Rattle.virtqueue.specs.declared.Queue.{Queue}
use Rattle.virtqueue.specs.declared.Descriptor.{Descriptor}
use Rattle.virtqueue.specs.declared.Found.{Found}
use Rattle.virtqueue.specs.Ring.{Reader, distance, near, taken, Walked, found, walked, numbers_of, fitting}
use Rattle.virtqueue.specs.Progress.{counted, Walks}
use Rattle.virtqueue.specs.Passes.{Passes, Offers}
use Rattle.virtqueue.proofs.Laws.{never_done}
use Rattle.virtqueue.proofs.Numbers.{numbers-length}
use Rattle.virtqueue.proofs.Results.{onto}
use Rattle.virtqueue.proofs.Passing.{part-refused, part_done}

module _ (read : Reader) (q : Queue) (last : ℕ) where
  -- a walk that is refused
  pub offers-refused : {ns ns' : List ℕ} (e : Refusal) → refused (number_of e.reason) e.place ≡ walked read q last → Offers read q last (Err e) ns ns'
  unfolding ◌onward◌
  offers-refused e is = record { tells = rw (← is) refl; stored = λ w all. never_done (is ∙ all) }

  pub index-refused : {ns ns' : List ℕ} (e : Refusal) → refused (number_of e.reason) e.place ≡ (read (q.driver + 2) 2 onward λ b. done (field b 0 2)) → Offers read q last (Err e) ns ns'
  unfolding walked ◌onward◌
  index-refused e is =
      offers-refused e (onto _ _ _ (λ x. near q last x onward λ index. taken read q (distance index last) 0 last onward λ xs. done (found xs index)) is)

  module _ (index : ℕ) (is : done index ≡ (read (q.driver + 2) 2 onward λ b. done (field b 0 2))) where
    by-index : (near q last index onward λ i. taken read q (distance i last) 0 last onward λ xs. done (found xs i)) ≡ walked read q last
    unfolding walked ◌onward◌
    by-index = onto (done index) _ _ (λ x. near q last x onward λ i. taken read q (distance i last) 0 last onward λ xs. done (found xs i)) is

    pub far-refused : (code place : ℕ) → near q last index ≡ refused code place → refused code place ≡ walked read q last
    unfolding ◌onward◌
    far-refused code place e = rw e at by-index

    module _ (close : near q last index ≡ done index) where
      by-heads : (taken read q (distance index last) 0 last onward λ xs. done (found xs index)) ≡ walked read q last
      unfolding ◌onward◌
      by-heads = rw close at by-index

      pub heads-refused : {ns ns' : List ℕ} (e : Refusal) → Passes (taken read q (distance index last) 0 last) 0 (Err e) ns ns' → Offers read q last (Err e) ns ns'
      unfolding ◌onward◌
      heads-refused e p = offers-refused e (rw (← (part-refused p)) at by-heads)

      pub heads_done : {ns ns' : List ℕ} (buffers : ℕ) → Passes (taken read q (distance index last) 0 last) 0 (Ok buffers) ns ns' → Offers read q last (Ok (record { buffers = buffers; index = index })) ns ns'
      unfolding ◌onward◌
      heads_done {ns} {ns'} buffers p = let d = part_done p in all d.0 d.1 d.2
        where
          all : (xs : List Descriptor) → taken read q (distance index last) 0 last ≡ done xs → buffers ≡ 0 + length xs → Offers read q last (Ok (record { buffers = buffers; index = index })) ns ns'
          all xs is count =
              let whole : done (found xs index) ≡ walked read q last = rw is at by-heads in
              let number : buffers ≡ length xs = omega arith in
              record {
                tells = rw (← whole, number) refl;
                stored = λ w is-done room.
                    let one = whole ∙ is-done in
                    let same : found xs index ≡ w = cc in
                    rw (← same) (p.stored xs is (omega (arith, numbers-length xs, ap (λ (w : Walked). length (numbers_of w.buffers)) same)));
              }

-- ---- both passes, and the room check between them

pass-refused : (a : Answer Walked) (code place : ℕ) → refused code place ≡ (a onward λ w. done (counted w)) → a ≡ refused code place
unfolding ◌onward◌
pass-refused (done w) code place e = never_done e
pass-refused (refused c p) code place e = let x : c ≡ code = cc in let y : p ≡ place = cc in rw (x, y) refl

pass-done : (a : Answer Walked) (w : Found) → done w ≡ (a onward λ w. done (counted w)) → (x : Walked) × (a ≡ done x) × (w ≡ counted x)
unfolding ◌onward◌
pass-done (done x) w e = (x, refl, cc)
pass-done (refused c p) w e = never_done (sym e)

module _ {read : Reader} {q : Queue} {last : ℕ} {ns : List ℕ} where
  -- one that is refused changes nothing
  refused-walks : (e : Refusal) → (walked read q last onward fitting (length ns)) ≡ refused (number_of e.reason) e.place → Walks read q last (Err e) ns ns
  unfolding ◌onward◌
  refused-walks e is = record { tells = rw is refl; stored = λ w all. never_done (sym is ∙ all); kept = λ code place told-is. refl }

  -- the first pass is
  pub judged-refused : (e : Refusal) {ms ms' : List ℕ} → Offers read q last (Err e) ms ms' → Walks read q last (Err e) ns ns
  unfolding ◌onward◌
  judged-refused e o = refused-walks e (rw (pass-refused _ _ _ o.tells) refl)

  module _ (w : Found) {ms ms' : List ℕ} (judged : Offers read q last (Ok w) ms ms') where
    pub short-refused : (e : Refusal) → ◌≡◌ {A = Answer Walked} (refused (number_of e.reason) e.place) (refused NoSpace 0) → length ns / 3 < w.buffers → Walks read q last (Err e) ns ns
    unfolding ◌onward◌ fitting settle ◌when◌
    short-refused e is short = let d = pass-done _ _ judged.tells in refused-walks e (go d.0 d.1 d.2)
      where
        go : (x : Walked) → walked read q last ≡ done x → w ≡ counted x → (walked read q last onward fitting (length ns)) ≡ refused (number_of e.reason) e.place
        go x all same =
            let many : length ns < length (numbers_of x.buffers) = omega (arith, numbers-length x.buffers, ap (λ (f : Found). f.buffers) same) in
            rw (all, lt-ltb _ _ many) (sym is)

    pub stores : (r : Result Found Refusal) (ns' : List ℕ) → w.buffers ≤ length ns / 3 → Offers read q last r ns ns' → Walks read q last r ns ns'
    unfolding ◌onward◌ fitting settle ◌when◌
    stores r ns' room o = let d = pass-done _ _ judged.tells in go d.0 d.1 d.2
      where
        go : (x : Walked) → walked read q last ≡ done x → w ≡ counted x → Walks read q last r ns ns'
        go x all same =
            let few : length (numbers_of x.buffers) ≤ length ns = omega (arith, numbers-length x.buffers, ap (λ (f : Found). f.buffers) same) in
            let fits : (walked read q last onward fitting (length ns)) ≡ done x = rw (all, le-ltb _ _ few) refl in
            let tells : told r ≡ done (counted x) = o.tells ∙ rw all refl in
            record {
              tells = tells ∙ rw fits refl;
              stored = λ y is. let one : done x ≡ done y = sym fits ∙ is in let xy : x ≡ y = cc in rw (← xy) (o.stored x all few);
              kept = λ code place is. never_done (sym is ∙ tells);
            }
