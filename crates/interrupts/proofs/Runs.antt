-- Laws of a run of lines, each changed by a function of its offset.
use Rattle.std.proofs.Common.{◌≡◌, ℕ, zero, suc, ◌+◌, ◌-◌, ◌<◌, ◌≤◌, List, [], ◌∷◌, ◌++◌, length, get_or, set, take, drop, replicate, refl, ap, arith}
use borrow.Rule.Slice.PartMut.{put_mid}
use Rattle.interrupts.specs.declared.Line.{Line}
use Rattle.interrupts.specs.Requests.{changed_run}

pub run_length_lem : (f : ℕ → Line → Line) (j at n : ℕ) (ls : List Line) → length (changed_run f j at n ls) ≡ length ls
unfolding changed_run
run_length_lem f j at n [] = refl
run_length_lem f j (suc at) n (l ∷ ls) = ap suc (run_length_lem f j at n ls)
run_length_lem f j zero zero (l ∷ ls) = refl
run_length_lem f j zero (suc n) (l ∷ ls) = ap suc (run_length_lem f (suc j) zero n ls)

pub run_none : (f : ℕ → Line → Line) (j at : ℕ) (ls : List Line) → changed_run f j at 0 ls ≡ ls
unfolding changed_run
run_none f j at [] = refl
run_none f j (suc at) (l ∷ ls) = ap (λ (t : List Line). l ∷ t) (run_none f j at ls)
run_none f j zero (l ∷ ls) = refl

-- the first line, and then the rest
run-first : (f : ℕ → Line → Line) (j at n : ℕ) (ls : List Line) (d : Line) → at < length ls
    → changed_run f j at (suc n) ls ≡ changed_run f (suc j) (suc at) n (set ls at (f j (get_or ls at d)))
unfolding changed_run
run-first f j at n [] d h = absurd (omega arith)
run-first f j (suc at) n (l ∷ ls) d h = ap (λ (t : List Line). l ∷ t) (run-first f j at n ls d (omega arith))
run-first f j zero n (l ∷ ls) d h = refl

-- one turn of a loop over `n` lines from `at` on, at offset `j`
pub run_more : (f : ℕ → Line → Line) (at n j : ℕ) (ls : List Line) (d : Line) → j < n → at + j < length ls
    → changed_run f j (at + j) (n - j) ls ≡ changed_run f (j + 1) (at + (j + 1)) (n - (j + 1)) (set ls (at + j) (f j (get_or ls (at + j) d)))
run_more f at n j ls d h room =
    let e : n - j ≡ suc (n - (j + 1)) = omega arith in
    let g : suc (at + j) ≡ at + (j + 1) = omega arith in
    let k : suc j ≡ j + 1 = omega arith in
    rw (e, ← g, ← k) (run-first f j (at + j) (n - suc j) ls d room)

-- a run from the first line on leaves what lies behind it
run-split : (f : ℕ → Line → Line) (j n : ℕ) (ls : List Line) → n ≤ length ls → changed_run f j 0 n (take n ls) ++ drop n ls ≡ changed_run f j 0 n ls
unfolding changed_run
run-split f j zero [] h = refl
run-split f j zero (l ∷ ls) h = refl
run-split f j (suc n) [] h = absurd (omega arith)
run-split f j (suc n) (l ∷ ls) h = ap (λ (t : List Line). f j l ∷ t) (run-split f (suc j) n ls (omega arith))

-- a run of a part of the lines, which is changed in place
pub run-part : (f : ℕ → Line → Line) (at n : ℕ) (ls : List Line) → at + n ≤ length ls
    → put_mid at n ls (changed_run f 0 0 n (take n (drop at ls))) ≡ changed_run f 0 at n ls
unfolding changed_run
run-part f zero n ls h = run-split f 0 n ls (omega arith)
run-part f (suc at) n [] h = absurd (omega arith)
run-part f (suc at) n (l ∷ ls) h = ap (λ (t : List Line). l ∷ t) (run-part f at n ls (omega arith))

-- a run whose lines all become one
pub run-filled : (f : ℕ → Line → Line) (v : Line) → ((k : ℕ) (l : Line) → f k l ≡ v) → (j n : ℕ) (ls : List Line) → length ls ≡ n
    → changed_run f j 0 n ls ≡ replicate n v
unfolding changed_run
run-filled f v h j zero [] e = refl
run-filled f v h j (suc n) [] e = absurd (omega arith)
run-filled f v h j zero (l ∷ ls) e = absurd (omega arith)
run-filled f v h j (suc n) (l ∷ ls) e = rw (h j l, run-filled f v h (suc j) n ls (omega arith))

-- functions that agree on the offsets of the run
pub run_cong : (f g : ℕ → Line → Line) (j at n : ℕ) (ls : List Line) → ((k : ℕ) (l : Line) → k < j + n → f k l ≡ g k l)
    → changed_run f j at n ls ≡ changed_run g j at n ls
unfolding changed_run
run_cong f g j at n [] h = refl
run_cong f g j (suc at) n (l ∷ ls) h = ap (λ (t : List Line). l ∷ t) (run_cong f g j at n ls h)
run_cong f g j zero zero (l ∷ ls) h = refl
run_cong f g j zero (suc n) (l ∷ ls) h = rw (h j l (omega arith), run_cong f g (suc j) zero n ls (λ k m lt. h k m (omega arith)))
