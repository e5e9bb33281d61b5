-- Sessions are runs, and so show what demand 3 says of runs.
use Prim.Native.Nat.{ℕ, suc, ◌-◌, ◌≤◌}
use native.Mathlib.Omega.{arith}
use mathlib.Core.Path.{◌≡◌, refl, sym, ◌∙◌, ap, ap₂, subst}
use mathlib.Core.List.{List, [], ◌∷◌, ◌++◌, map}
use lib.ListN.{length, take, replicate, length-append, length-replicate}
use lib.Seq.{take-append_seam}
use Rattle.answer.specs.Answer.{Answer, done}
use Rattle.iommu.specs.Table.{blank, table_of, in_use}
use Rattle.iommu.specs.declared.Mapping.{Mapping}
use Rattle.memory.specs.Memory.{Memory, edited}
use Rattle.registers.specs.declared.Card.{Card}
use Rattle.emulator.specs.Machine.{Emulator, machine_of, emulator_of}
use Rattle.emulator.specs.Effect.{Result, value, Outcome, after, filled}
use Rattle.emulator.specs.Calls.{power_on, given, own_checks, checks, effect, outcome}
use Rattle.emulator.specs.Contract.{Meets, writes, returned, left_records}
use Rattle.emulator.specs.declared.State.{State}
use Rattle.emulator.proofs.Returned.{meets-after}
use Rattle.assurance.specs.Runs.{Ask, Others, disturbed, lent_to, event, turn, run, Same, Alike}
use Rattle.assurance.specs.Ledger.{Ledger, empty, fed, Follows}
use Rattle.assurance.specs.Session.{Shown, shown, Lent, Session, none, more, Roomy, SessionsAreRuns, AllAgree, AllOwed, Sessions}
use Rattle.assurance.proofs.Agreement.{agreement}
use Rattle.assurance.proofs.Following.{following}
use Rattle.assurance.proofs.Steps.{meets-turn}

-- ---- sessions are runs

shown_eq : {r t : Answer Result} {b c : List ℕ} {e f : Emulator} → r ≡ t → b ≡ c → e ≡ f
    → ◌≡◌ {A = Shown} (record { answer = r; buffer = b; left = e }) (record { answer = t; buffer = c; left = f })
shown_eq p q r = λ i. record { answer = p i; buffer = q i; left = r i }

pub is-run : (s : State) (left : List Mapping) (m : Memory) (qs : List Ask) (w : ℕ → Others) (xs : List Shown) → Session s left m qs w xs → xs ≡ map shown (run (emulator_of s left m) qs w)
unfolding run shown
is-run s left m [] w [] none = refl
is-run s left m [] w (x ∷ xs) h = elim h [ ]
is-run s left m (q ∷ qs) w [] h = elim h [ ]
is-run s left m (q ∷ qs) w (x ∷ xs) (more {s' = s'} {rs = rs} {rs' = rs'} {m' = m'} l h rest) =
    let t = meets-turn (w 0) q s left rs m l h in
    ap₂ (λ (y : Shown) (ys : List Shown). y ∷ ys) (shown_eq t.0 t.1 t.2)
    (is-run s' rs' m' qs (λ n. w (suc n)) xs rest ∙ ap (λ (e : Emulator). map shown (run e qs (λ n. w (suc n)))) t.2)

-- records that a call can be lent: those in use, and as many more as it says
spared : (ms : List Mapping) (room : ℕ) → List Mapping
spared ms room = ms ++ replicate (room - length ms) blank

spared-lent : (s : State) (left : List Mapping) (q : Ask) → s.count ≡ length (in_use (table_of left s.count)) → length (in_use (table_of left s.count)) ≤ q.room
    → Lent s left (spared (in_use (table_of left s.count)) q.room) q
unfolding in_use spared
spared-lent s left q fits room =
    let ms : List Mapping = take s.count left in
    record {
      long = length-append ms (replicate (q.room - length ms) blank) ∙ rw (length-replicate (q.room - length ms) blank) (omega arith);
      used = ap (λ (n : ℕ). take n (ms ++ replicate (q.room - length ms) blank)) fits ∙ take-append_seam ms _;
    }

-- one more call, and the session behind it
one_more : (s : State) (left rs : List Mapping) (m : Memory) (q : Ask) (qs : List Ask) (w : ℕ → Others) → Lent s left rs q → Roomy (turn (w 0) q (emulator_of s left m)).left qs (λ n. w (suc n))
    → ((s' : State) (rs' : List Mapping) (m' : Memory) → Roomy (emulator_of s' rs' m') qs (λ n. w (suc n)) → (xs : List Shown) × Session s' rs' m' qs (λ n. w (suc n)) xs)
    → (xs : List Shown) × Session s left m (q ∷ qs) w xs
one_more s left rs m q qs w l roomy rest =
    let memory : Memory = (disturbed (w 0) q.room (emulator_of s left m)).memory in
    let e : Emulator = emulator_of s rs memory in
    let buf : List ℕ = lent_to (w 0) q in
    let m' : Memory = edited (outcome q.call buf e).effect.edits memory in
    let s' : State = returned (checks q.call buf e) (writes q.call buf) (outcome q.call buf e).effect.machine s in
    let rs' : List Mapping = left_records (checks q.call buf e) (writes q.call buf) (outcome q.call buf e).effect.machine rs in
    let h : Meets q.call buf s rs memory (outcome q.call buf e).answer (filled (outcome q.call buf e).effect.pieces buf) m' s' rs' =
    record { answer = refl; buffer = refl; memory = refl; state = refl; records = refl } in
    let r = rest s' rs' m' (rw (meets-turn (w 0) q s left rs m l h).2 roomy) in
    (_, more l h r.1)

-- every list of calls that are lent enough records has a session
some_session : (s : State) (left : List Mapping) (m : Memory) (qs : List Ask) (w : ℕ → Others) → Roomy (emulator_of s left m) qs w → (xs : List Shown) × Session s left m qs w xs
unfolding Roomy emulator_of machine_of
some_session s left m [] w roomy = ([], none)
some_session s left m (q ∷ qs) w roomy =
    one_more s left _ m q qs w (spared-lent s left q roomy.0 roomy.1) roomy.2 (λ s' rs' m' next. some_session s' rs' m' qs (λ n. w (suc n)) next)

sessions_are_runs : SessionsAreRuns
sessions_are_runs =
    record {
      are = is-run;
      some = λ s left m qs w roomy. let r = some_session s left m qs w roomy in subst (Session s left m qs w) (is-run s left m qs w r.0 r.1) r.1;
    }

-- ---- what runs show

all-agree : (e f : Emulator) (qs : List Ask) (w v : ℕ → Others) → Alike (run e qs w) (run f qs v)
    → AllAgree qs w v (map shown (run e qs w)) (map shown (run f qs v))
unfolding run shown Alike AllAgree turn event
all-agree e f [] w v a = tt
all-agree e f (q ∷ qs) w v a = (
  record {
    answer = ap (λ (o : Outcome). o.answer) a.0;
    pieces = (turn (w 0) q e).outcome.effect.pieces;
    first = refl;
    second = ap (λ (o : Outcome). filled o.effect.pieces (lent_to (v 0) q)) (sym a.0);
    left = a.1;
  },
  all-agree (turn (w 0) q e).left (turn (v 0) q f).left qs (λ n. w (suc n)) (λ n. v (suc n)) a.2,
)

all-owed : (l : Ledger) (e : Emulator) (qs : List Ask) (w : ℕ → Others) → Follows l qs (run e qs w) → AllOwed l qs (map shown (run e qs w))
unfolding run shown Follows AllOwed
all-owed l e [] w h = tt
all-owed l e (q ∷ qs) w h = (h.0, all-owed (fed (turn (w 0) q e).outcome.answer q l) (turn (w 0) q e).left qs (λ n. w (suc n)) h.1)

-- ---- demand 3 of the code

agree : (s t : State) (rs us : List Mapping) (m n : Memory) → Same (emulator_of s rs m) (emulator_of t us n) → (qs : List Ask) (w v : ℕ → Others) (xs ys : List Shown)
    → Session s rs m qs w xs → Session t us n qs v ys → AllAgree qs w v xs ys
agree s t rs us m n same qs w v xs ys h k =
    rw (is-run s rs m qs w xs h, is-run t us n qs v ys k) (all-agree _ _ qs w v (agreement _ _ same qs w v))

-- a fresh start looks at no buffer
owed : (card : Card) (s : State) (rs : List Mapping) (m : Memory) (buf : List ℕ) (room : ℕ) (qs : List Ask) (w : ℕ → Others) (x : Shown) (xs : List Shown)
    → Session s rs m (record { call = power_on card; buffer = buf; room = room } ∷ qs) w (x ∷ xs) → x.answer ≡ done (value 0) → AllOwed empty qs xs
unfolding outcome checks own_checks effect given
owed card s rs m buf room qs w x xs (more {rs = us} l h rest) ok =
    let e : Emulator = emulator_of s us (disturbed (w 0) room (emulator_of s rs m)).memory in
    let f : Follows empty qs (run (after (outcome (power_on card) [] e).effect e) qs (λ n. w (suc n))) = following card e (sym h.answer ∙ ok) qs (λ n. w (suc n)) in
    rw (is-run _ _ _ qs (λ n. w (suc n)) xs rest, meets-after h) (all-owed empty _ qs (λ n. w (suc n)) f)

pub sessions : Sessions
sessions = record { runs = sessions_are_runs; agreement = agree; ledger = owed }
