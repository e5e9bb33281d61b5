-- Laws of one step over a stream, case by case.
use Prim.Native.Nat.{ℕ, ◌+◌, ◌-◌, ◌≤◌, ◌<◌}
use native.Mathlib.Omega.{arith}
use mathlib.Core.Path.{◌≡◌, refl, sym, ◌∙◌, ap}
use mathlib.Core.Bool.{Bool, true, false, not}
use mathlib.Core.List.{List, []}
use lib.ListN.{length, take, drop, length-drop}
use lib.Seq.{take_all}
use lib.Dec.{ltb}
use borrow.Author.Tests.{le-ltb, eq-eqb, ne_eqb, ltb-false}
use Rattle.answer.specs.Tests.{pick}
use Rattle.answer.specs.Codes.{Truncated}
use Rattle.answer.specs.Checks.{Verdict, Pass, Fail, ◌then◌, ◌when◌, ◌unless◌, ◌at◌}
use Rattle.answer.proofs.Checks.{never, then_pass, when_pass, at_pass}
use Rattle.wire.specs.Field.{field}
use Rattle.parts.specs.Step.{Step, Part, End, Refused, header_size, value_size, header_checks, checks_at, part_at, step_on, part_step, step_at, value_to, step_value, value_at}

-- ---- checks that name their place

pub decides_at : (u v : Verdict) (p code place : ℕ) → Fail code place ≡ (u at p) → Fail code place ≡ ((u then v) at p)
unfolding ◌then◌ ◌at◌
decides_at Pass v p code place h = never code place h
decides_at (Fail c q) v p code place h = h

pub goes_on_at : (u v w : Verdict) (p : ℕ) → Pass ≡ (u at p) → w ≡ (v at p) → w ≡ ((u then v) at p)
unfolding ◌then◌ ◌at◌
goes_on_at Pass v w p h k = k
goes_on_at (Fail c q) v w p h k = never c p (sym h)

pub when_not_at : (code p : ℕ) (t : Bool) → (code when not t at p) ≡ (code unless t at p)
unfolding ◌when◌ ◌unless◌ ◌at◌
when_not_at code p true = refl
when_not_at code p false = refl

-- the code's test for what is wrong, where the definition has one for what is right
pub tested_at : (code p : ℕ) (t : Bool) (v : Verdict) → v ≡ (code when not t at p) → v ≡ (code unless t at p)
tested_at code p t v h = h ∙ when_not_at code p t

-- what a check for room tells
pub room_at : (a b : ℕ) (code p : ℕ) → Pass ≡ (code when ltb a b at p) → b ≤ a
room_at a b code p h = ltb-false a b (when_pass _ _ (at_pass _ p (sym h)))

-- ---- where something is left

pub part-whole : (h : List ℕ) (p : ℕ) → header_size ≤ length h → field h 2 1 ≤ 1 → field h 3 1 ≡ 0 → value_size h ≤ length h - header_size → part_at h p ≡ part_step h p
unfolding part_step header_checks step_on ◌then◌ ◌when◌ ◌unless◌ ◌at◌
part-whole h p a b d e = rw (le-ltb _ _ a, le-ltb _ _ b, eq-eqb _ _ d, le-ltb _ _ e)

-- ---- at a place of the stream

pub step_past : (s : List ℕ) (p code place : ℕ) → Fail code place ≡ (Truncated when ltb (length s) p at p) → Refused code place ≡ step_at s p
unfolding step_at pick ◌when◌ ◌at◌
step_past s p code place = go (ltb (length s) p) _
  where
    go : (t : Bool) (x : Step) → Fail code place ≡ (Truncated when t at p) → Refused code place ≡ pick t (Refused Truncated p) x
    go true x h = cc
    go false x h = never code place h

pub step_end : (s : List ℕ) (p : ℕ) → p ≡ length s → End ≡ step_at s p
unfolding step_at pick
step_end s p h = let a : p ≤ length s = omega arith in rw (le-ltb _ _ a, eq-eqb _ _ h)

pub step_part : (s : List ℕ) (p : ℕ) → p < length s → part_step (drop p s) p ≡ step_at s p
unfolding step_at part_step pick
step_part s p h =
    let a : p ≤ length s = omega arith in
    let n : p ≡ length s → ⊥ = λ e. omega arith in
    rw (le-ltb _ _ a, ne_eqb _ _ n)

-- what is left of a stream
pub rest-is : (s : List ℕ) (p : ℕ) → take (length s - p) (drop p s) ≡ drop p s
rest-is s p = take_all (length s - p) (drop p s) (omega (arith, length-drop p s))

-- it tells the step, by its checks and the part that it makes
pub part_fault : (s : List ℕ) (p code place : ℕ) → p ≤ length s → (p ≡ length s → ⊥) → Fail code place ≡ checks_at (take (length s - p) (drop p s)) p
    → Refused code place ≡ step_at s p
unfolding part_step step_on
part_fault s p code place le ne f =
    ap (λ (v : Verdict). step_on v (part_at (drop p s) p)) (rw (rest-is s p) at f) ∙ step_part s p (omega arith)

pub part_found : (s : List ℕ) (p : ℕ) (x : Step) → p ≤ length s → (p ≡ length s → ⊥) → Pass ≡ checks_at (take (length s - p) (drop p s)) p
    → x ≡ part_at (take (length s - p) (drop p s)) p → x ≡ step_at s p
unfolding part_step step_on
part_found s p x le ne f e =
    (rw (rest-is s p) at e) ∙ ap (λ (v : Verdict). step_on v (part_at (drop p s) p)) (rw (rest-is s p) at f) ∙ step_part s p (omega arith)

-- ---- what a part tells

not-refused : (kind flags selector next code place : ℕ) → Part kind flags selector next ≡ Refused code place → ⊥
not-refused kind flags selector next code place e = let z : ◌≡◌ {A = ℕ} 0 1 = cc in omega arith

not_end : (kind flags selector next : ℕ) → Part kind flags selector next ≡ End → ⊥
not_end kind flags selector next e = let z : ◌≡◌ {A = ℕ} 0 1 = cc in omega arith

-- a case that did not give the step was not taken
passed : (t : Bool) (a b x : Step) → x ≡ pick t a b → (x ≡ a → ⊥) → (t ≡ false) × (x ≡ b)
unfolding pick
passed true a b x e n = absurd (n e)
passed false a b x e n = (refl, e)

stepped : (v : Verdict) (part : Step) (kind flags selector next : ℕ) → Part kind flags selector next ≡ step_on v part
    → (v ≡ Pass) × (Part kind flags selector next ≡ part)
unfolding step_on
stepped Pass part kind flags selector next e = (refl, e)
stepped (Fail code place) part kind flags selector next e = absurd (not-refused kind flags selector next code place e)

same_next : (kind flags selector next kind' flags' selector' next' : ℕ) → Part kind flags selector next ≡ Part kind' flags' selector' next' → next ≡ next'
same_next kind flags selector next kind' flags' selector' next' e = cc

-- a part has its header and its value inside the stream
pub step_says : (s : List ℕ) (p kind flags selector next : ℕ) → Part kind flags selector next ≡ step_at s p
    → (p + header_size ≤ next) × (next ≤ length s)
unfolding step_at part_step header_checks part_at
step_says s p kind flags selector next e =
    let a = passed _ _ _ _ e (not-refused kind flags selector next Truncated p) in
    let b = passed _ _ _ _ a.1 (not_end kind flags selector next) in
    let d = stepped _ _ kind flags selector next b.1 in
    let g = then_pass _ _ (at_pass _ p d.0) in
    let i = then_pass _ _ (then_pass _ _ g.1).1 in
    let n : next ≡ p + header_size + value_size (drop p s) = same_next kind flags selector next _ _ _ _ d.1 in
    let long = ltb-false (length (drop p s)) header_size (when_pass _ _ g.0) in
    let fits = ltb-false (length (drop p s) - header_size) (value_size (drop p s)) (when_pass _ _ i.1) in
    (omega arith, omega (arith, length-drop p s, ltb-false (length s) p a.0))

-- ---- the value that a step hands back

pub value_part : (s : List ℕ) (p kind flags selector next : ℕ) → Part kind flags selector next ≡ step_at s p → value_to s p next ≡ value_at s p
unfolding value_at step_value
value_part s p kind flags selector next e = rw (← e)

pub value_end : (s : List ℕ) (p : ℕ) → End ≡ step_at s p → [] ≡ value_at s p
unfolding value_at step_value
value_end s p e = rw (← e)

pub value_refused : (s : List ℕ) (p code place : ℕ) → Refused code place ≡ step_at s p → [] ≡ value_at s p
unfolding value_at step_value
value_refused s p code place e = rw (← e)
