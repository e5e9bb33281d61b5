-- Laws of the rule: what an open queue tells, and what a walk tells of its reads.
use Rattle.std.proofs.Common.{◌≡◌, ℕ, zero, suc, ◌≤◌, Bool, true, false, eqb, ltb, List, [], ◌∷◌, length, refl, ◌∙◌, arith, ltb-false}
use mathlib.Core.Option.{Option, none, some}
use borrow.Author.Tests.{eqb-false}
use Rattle.answer.specs.Tests.{pick}
use Rattle.answer.specs.Codes.{Index, NoSpace, QueueNotReady}
use Rattle.answer.specs.Checks.{◌when◌}
use Rattle.answer.specs.Answer.{Answer, done, refused, settle, ◌onward◌}
use Rattle.wire.specs.Field.{field}
use Rattle.virtqueue.specs.Ring.{Reader, last_queue, queue_of, readied, open_queue, goes_on, in_table, described, chain, head_at, taken, Walked, walked, numbers_of, fitting, walk}
use Rattle.virtqueue.specs.declared.Queue.{Queue}
use Rattle.virtqueue.specs.declared.Descriptor.{Descriptor}

-- ---- answers

pub never_done : {A X : Type 0} {code place : ℕ} {a : A} → refused code place ≡ done a → X
never_done e = absurd (let z : ◌≡◌ {A = ℕ} 0 1 = cc in omega arith)

-- ---- a queue that is open

-- its number and its register's value
pub record Opened (queue : ℕ) (value : Option (List ℕ)) (q : Queue) : Type 0 where
  pub listed : queue ≤ last_queue
  pub held : List ℕ
  pub is : value ≡ some held
  pub enabled : field held 4 2 ≡ 0 → ⊥
  pub tells : q ≡ queue_of held

pub opens : (queue : ℕ) (value : Option (List ℕ)) (q : Queue) → open_queue queue value ≡ done q → Opened queue value q
unfolding open_queue readied settle ◌onward◌ ◌when◌
opens queue value q h = by (ltb last_queue queue) refl value refl h
  where
    ready : (v : List ℕ) → value ≡ some v → queue ≤ last_queue → (t : Bool) → eqb (field v 4 2) 0 ≡ t → settle (QueueNotReady when t) (queue_of v) ≡ done q → Opened queue value q
    ready v is few true e k = never_done k
    ready v is few false e k = record { listed = few; held = v; is = is; enabled = eqb-false _ _ e; tells = cc }

    by : (t : Bool) → ltb last_queue queue ≡ t → (x : Option (List ℕ)) → value ≡ x → (settle (Index when t) x onward readied) ≡ done q → Opened queue value q
    by true e none is k = never_done k
    by true e (some v) is k = never_done k
    by false e none is k = never_done k
    by false e (some v) is k = ready v is (ltb-false _ _ e) (eqb (field v 4 2) 0) refl k

-- ---- the array

-- what fits is what was found
pub fits : (room : ℕ) (w x : Walked) → fitting room w ≡ done x → (w ≡ x) × (length (numbers_of x.buffers) ≤ room)
unfolding fitting settle ◌when◌
fits room w x h = by (ltb room (length (numbers_of w.buffers))) refl h
  where
    by : (t : Bool) → ltb room (length (numbers_of w.buffers)) ≡ t → settle (NoSpace when t) w ≡ done x → (w ≡ x) × (length (numbers_of x.buffers) ≤ room)
    by true e k = never_done k
    by false e k = let same : w ≡ x = cc in (same, rw (← same) (ltb-false _ _ e))

-- ---- a walk goes on by what is read where a read is accepted

-- each step is accepted where the whole is
pub onward-done : {A B : Type 0} (a : Answer A) (f : A → Answer B) (b : B) → (a onward f) ≡ done b → (x : A) × (a ≡ done x) × (f x ≡ done b)
unfolding ◌onward◌
onward-done (done x) f b h = (x, refl, h)
onward-done (refused code place) f b h = never_done h

-- what follows an accepted step
onward_made : {A B : Type 0} {a : Answer A} {x : A} (f : A → Answer B) → a ≡ done x → (a onward f) ≡ f x
unfolding ◌onward◌
onward_made f e = rw e

-- the same step first, or another one that is accepted alike, and then what follows alike
onward-follows : {A B : Type 0} (a c : Answer A) (f g : A → Answer B) (b : B) → ((x : A) → a ≡ done x → c ≡ done x) → ((x : A) → f x ≡ done b → g x ≡ done b)
    → (a onward f) ≡ done b → (c onward g) ≡ done b
onward-follows a c f g b first rest h =
    let r = onward-done a f b h in
    onward_made g (first r.0 r.1) ∙ rest r.0 r.2

-- the numbers of an accepted walk fit
pub walk-fits : (read : Reader) (queue : ℕ) (v : Option (List ℕ)) (last room : ℕ) (x : Walked) → walk read queue v last room ≡ done x → length (numbers_of x.buffers) ≤ room
unfolding walk
walk-fits read queue v last room x h =
    let q = onward-done _ _ x h in
    let w = onward-done _ _ x q.2 in
    (fits room w.0 x w.2).1

module _ (read other : Reader) (same : (start n : ℕ) (bs : List ℕ) → read start n ≡ done bs → other start n ≡ done bs) (q : Queue) where
  described-follows : (heads d : ℕ) (x : Descriptor) → described read q heads d ≡ done x → described other q heads d ≡ done x
  unfolding described
  described-follows heads d x h = onward-follows _ _ _ _ x (same _ 16) (λ b k. k) h

  -- where the chain goes on, by what follows
  goes-follows : (heads : ℕ) (x : Descriptor) (f g : ℕ → Answer (List Descriptor)) (xs : List Descriptor) → ((e : ℕ) (ys : List Descriptor) → f e ≡ done ys → g e ≡ done ys) → (t : Bool)
      → pick t (in_table q heads x.next onward λ e. f e onward λ ys. done (x ∷ ys)) (done (x ∷ [])) ≡ done xs
      → pick t (in_table q heads x.next onward λ e. g e onward λ ys. done (x ∷ ys)) (done (x ∷ [])) ≡ done xs
  unfolding pick
  goes-follows heads x f g xs rest true k = onward-follows _ _ _ _ xs (λ e p. p) (λ e p. onward-follows _ _ _ _ xs (rest e) (λ ys z. z) p) k
  goes-follows heads x f g xs rest false k = k

  chain-follows : (heads more d : ℕ) (xs : List Descriptor) → chain read q heads more d ≡ done xs → chain other q heads more d ≡ done xs
  unfolding chain
  chain-follows heads zero d xs h = onward-follows _ _ _ _ xs (described-follows heads d) (λ x k. k) h
  chain-follows heads (suc more) d xs h =
      onward-follows _ _ _ _ xs (described-follows heads d) (λ x. goes-follows heads x (chain read q heads more) (chain other q heads more) xs (λ e. chain-follows heads more e) (goes_on x)) h

  head-follows : (heads i h : ℕ) → head_at read q heads i ≡ done h → head_at other q heads i ≡ done h
  unfolding head_at
  head-follows heads i h k = onward-follows _ _ _ _ h (same _ 2) (λ b p. p) k

  taken-follows : (n heads i : ℕ) (xs : List Descriptor) → taken read q n heads i ≡ done xs → taken other q n heads i ≡ done xs
  unfolding taken
  taken-follows zero heads i xs h = h
  taken-follows (suc n) heads i xs h =
      onward-follows _ _ _ _ xs (head-follows heads i)
      (λ d. onward-follows _ _ _ _ xs (chain-follows heads _ d) (λ ys. onward-follows _ _ _ _ xs (taken-follows n _ _) (λ zs k. k))) h

  pub walked-follows : (last : ℕ) (x : Walked) → walked read q last ≡ done x → walked other q last ≡ done x
  unfolding walked
  walked-follows last x h =
      onward-follows _ _ _ _ x (same _ 2)
      (λ b. onward-follows _ _ _ _ x (λ i k. k) (λ i. onward-follows _ _ _ _ x (taken-follows _ 0 last) (λ xs k. k))) h

-- a whole walk that is accepted by one reader is accepted, and finds the same, by another that reads what the first one reads
pub walk-follows : (read other : Reader) → ((start n : ℕ) (bs : List ℕ) → read start n ≡ done bs → other start n ≡ done bs)
    → (queue : ℕ) (v : Option (List ℕ)) (last room : ℕ) (x : Walked) → walk read queue v last room ≡ done x → walk other queue v last room ≡ done x
unfolding walk
walk-follows read other same queue v last room x h =
    onward-follows _ _ _ _ x (λ q k. k) (λ q. onward-follows _ _ _ _ x (walked-follows read other same q last) (λ w k. k)) h
