-- Chains and heads, one step of the rule at a time.
use Rattle.std.proofs.Common.{◌≡◌, ℕ, zero, suc, ◌+◌, ◌-◌, ◌%◌, ◌^◌, ◌<◌, ◌≤◌, Bool, true, false, List, [], ◌∷◌, ◌++◌, length, sym, refl, ap, ◌∙◌, arith}
use Rattle.answer.specs.Tests.{pick}
use Rattle.answer.specs.Codes.{ChainLength}
use Rattle.answer.specs.Checks.{◌when◌, ◌at◌}
use Rattle.answer.specs.Answer.{done, refused, settle, ◌onward◌}
use Rattle.virtqueue.specs.declared.Queue.{Queue}
use Rattle.virtqueue.specs.declared.Descriptor.{Descriptor}
use Rattle.virtqueue.specs.Ring.{Reader, goes_on, in_table, described, chain, next_index, head_at, taken}
use Rattle.virtqueue.proofs.Laws.{never_done, onward-done}

module _ (read : Reader) (q : Queue) (heads : ℕ) where
  pub chain-refused : (more d code place : ℕ) → refused code place ≡ described read q heads d → refused code place ≡ chain read q heads more d
  unfolding chain ◌onward◌
  chain-refused zero d code place e = rw (← e) refl
  chain-refused (suc more) d code place e = rw (← e) refl

  module _ (d : ℕ) (x : Descriptor) (is : done x ≡ described read q heads d) where
    pub chain-last : (more : ℕ) → goes_on x ≡ false → chain read q heads more d ≡ done (x ∷ [])
    unfolding chain ◌onward◌ settle ◌when◌ ◌at◌ pick
    chain-last zero h = rw (← is, h) refl
    chain-last (suc more) h = rw (← is, h) refl

    module _ (h : goes_on x ≡ true) where
      pub chain-long : (more : ℕ) → more ≡ 0 → chain read q heads more d ≡ refused ChainLength heads
      unfolding chain ◌onward◌ settle ◌when◌ ◌at◌
      chain-long zero e = rw (← is, h) refl
      chain-long (suc more) e = absurd (omega arith)

      pub chain_on : (more : ℕ) → (more ≡ 0 → ⊥) → chain read q heads more d ≡ (in_table q heads x.next onward λ e. chain read q heads (more - 1) e onward λ xs. done (x ∷ xs))
      unfolding chain ◌onward◌ pick
      chain_on zero e = absurd (e refl)
      chain_on (suc more) e = let less : suc more - 1 ≡ more = omega arith in rw (← is, h, less) refl

  -- a chain has one descriptor more, at most, than may follow its first
  pub chain-few : (more d : ℕ) (xs : List Descriptor) → chain read q heads more d ≡ done xs → length xs ≤ more + 1
  unfolding chain settle ◌when◌ ◌at◌ pick
  chain-few zero d xs h = let r = onward-done _ _ xs h in one r.0 (goes_on r.0) r.2
    where
      one : (x : Descriptor) (t : Bool) → settle (ChainLength when t at heads) (x ∷ []) ≡ done xs → length xs ≤ zero + 1
      one x true k = never_done k
      one x false k = let same : x ∷ [] ≡ xs = cc in omega (arith, ap (length {A = Descriptor}) same)
  chain-few (suc more) d xs h = let r = onward-done _ _ xs h in some (chain-few more) r.0 (goes_on r.0) r.2
    where
      some : ((d : ℕ) (ys : List Descriptor) → chain read q heads more d ≡ done ys → length ys ≤ more + 1) → (x : Descriptor) (t : Bool) → pick t (in_table q heads x.next onward λ e. chain read q heads more e onward λ ys. done (x ∷ ys)) (done (x ∷ [])) ≡ done xs → length xs ≤ suc more + 1
      some few x true k =
          let e = onward-done _ _ xs k in
          let ys = onward-done _ _ xs e.2 in
          let same : x ∷ ys.0 ≡ xs = let z = ys.2 in cc in
          omega (arith, ap (length {A = Descriptor}) same, few e.0 ys.0 ys.1)
      some few x false k = let same : x ∷ [] ≡ xs = cc in omega (arith, ap (length {A = Descriptor}) same)

module _ (read : Reader) (q : Queue) (n heads index : ℕ) (more : heads < n) where
  -- the heads that are left, the first before the others
  taken-first : taken read q (n - heads) heads index
      ≡ (head_at read q heads index onward λ h. chain read q heads (q.size - 1) h onward λ xs. taken read q (n - (heads + 1)) (heads + 1) (next_index index) onward λ ys. done (xs ++ ys))
  unfolding taken
  taken-first = let left : n - heads ≡ suc (n - (heads + 1)) = omega arith in let e : heads + 1 ≡ suc heads = omega arith in rw (left, e) refl

  pub taken-refused : (code place : ℕ) → refused code place ≡ head_at read q heads index → refused code place ≡ taken read q (n - heads) heads index
  unfolding ◌onward◌
  taken-refused code place e = sym (taken-first ∙ rw (← e) refl)

  pub taken_on : (h : ℕ) → done h ≡ head_at read q heads index
      → taken read q (n - heads) heads index ≡ (chain read q heads (q.size - 1) h onward λ xs. taken read q (n - (heads + 1)) (heads + 1) (next_index index) onward λ ys. done (xs ++ ys))
  unfolding ◌onward◌
  taken_on h e = taken-first ∙ rw (← e) refl

pub taken-none : (read : Reader) (q : Queue) (n heads index : ℕ) → n ≤ heads → taken read q (n - heads) heads index ≡ done []
unfolding taken
taken-none read q n heads index h = let none : n - heads ≡ 0 = omega arith in rw none refl

-- the index of each head is the first's, so many further
pub further : (index heads : ℕ) → next_index ((index + heads) % 2 ^ 16) ≡ (index + (heads + 1)) % 2 ^ 16
unfolding next_index
further index heads = omega arith
