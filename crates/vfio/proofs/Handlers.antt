-- What the handler of each request has to answer and leave, by what is known where it returns.
use Rattle.std.proofs.Common.{◌≡◌, refl, sym, ◌∙◌, ap, ap₂, ℕ, ◌<◌, List, [], ◌∷◌, ltb, ltb-true, Ok, Err, IsErr, IsErrAnd, Option, Some, None, ok_or, is_some, get_or}
use Rattle.std.proofs.Math.ListN.{get_or-map}
use Rattle.std.proofs.lemmas.List.Edits.{sets}
use Rattle.std.specs.Prelude.{Result as Returned}
use Rattle.answer.specs.Codes.{Index}
use Rattle.answer.specs.Checks.{Pass, Fail, ◌unless◌}
use Rattle.answer.specs.Answer.{done, settle, number_of}
use Rattle.answer.specs.declared.Reason.TheVariants.{Index as IndexReason}
use Rattle.answer.specs.declared.Refusal.{Refusal}
use Rattle.answer.proofs.Checks.{unless_pass}
use Rattle.iommu.specs.declared.Mapping.{Mapping}
use Rattle.memory.specs.Memory.{Memory}
use Rattle.registers.specs.File.{reset, slots_of}
use Rattle.emulator.specs.Machine.{Emulator, machine_of, emulator_of, with_registers, with_lines}
use Rattle.emulator.specs.Effect.{value, Piece, reporting, effect_of, outcome_of, filled}
use Rattle.emulator.specs.Requests.{Request, get_api_version, reset_device, Region, region, regions, region_at, listed_checks, listed_effect}
use Rattle.emulator.specs.Contract.{told, nothing, with_registers_in, with_lines_in, request_writes, state_with, records_with, returned, left_records}
use Rattle.emulator.specs.declared.State.{State}
use Rattle.interrupts.specs.Lines.{disabled_lines}
use Rattle.interrupts.specs.declared.Line.{Line}
use Rattle.interrupts.specs.declared.Lines.{Lines}
use Rattle.registers.specs.declared.Register.{Register}
use Rattle.registers.specs.declared.Registers.{Registers}
use Rattle.vfio.specs.declared.Region.{Region as CodeRegion}
use Rattle.vfio.specs.declared.TheConstants.{REGIONS, NO_REGION}
use Rattle.vfio.specs.Handlers.{handled, Handles, Replies, Keeps, Answers}

module _ (q : Request) (buf : List ℕ) (s : State) (rs : List Mapping) (m : Memory) where
  -- a refusal that is passed on
  pub handled-refused : (r : Returned ℕ Refusal) (e : Refusal) → IsErr r × IsErrAnd r (λ f. f ≡ e) → Fail (number_of e.reason) e.place ≡ listed_checks q buf (emulator_of s rs m)
      → Handles q buf s rs m (told r) buf s rs
  unfolding handled outcome_of effect_of settle filled returned left_records
  handled-refused (Ok n) e h f = absurd h.1
  handled-refused (Err x) e h f = record { answer = rw (← f, h.1); buffer = rw (← f); state = rw (← f); records = rw (← f) }

  pub handled-done : (buf' : List ℕ) (s' : State) (rs' : List Mapping) → Pass ≡ listed_checks q buf (emulator_of s rs m)
      → buf' ≡ filled (listed_effect q buf (emulator_of s rs m)).pieces buf
      → s' ≡ state_with (request_writes q) (listed_effect q buf (emulator_of s rs m)).machine s
      → rs' ≡ records_with (request_writes q) (listed_effect q buf (emulator_of s rs m)).machine rs
      → Handles q buf s rs m (done (listed_effect q buf (emulator_of s rs m)).result) buf' s' rs'
  unfolding handled outcome_of effect_of settle returned left_records
  handled-done buf' s' rs' e f g h = record { answer = rw (← e); buffer = rw (← e) f; state = rw (← e) g; records = rw (← e) h }

-- a request that passes on every state, and then reports `n` and writes the fields `ps`
pub reports : (q : Request) (buf buf' : List ℕ) (n : ℕ) (ps : List Piece) → ((e : Emulator) → Pass ≡ listed_checks q buf e)
    → ((e : Emulator) → listed_effect q buf e ≡ reporting n ps e.machine) → request_writes q ≡ nothing → buf' ≡ filled ps buf
    → Answers q buf (done (value n)) buf'
unfolding handled outcome_of effect_of settle returned left_records state_with records_with
reports q buf buf' n ps pass effect none f = λ s rs m.
    record {
      answer = rw (← pass (emulator_of s rs m), effect (emulator_of s rs m));
      buffer = rw (← pass (emulator_of s rs m), effect (emulator_of s rs m)) f;
      state = rw (← pass (emulator_of s rs m), none);
      records = rw (← pass (emulator_of s rs m), none);
    }

-- one field that is written before others
pub put_first : (b b₁ b₂ : List ℕ) (p : Piece) (ps : List Piece) → b₁ ≡ sets b p.offset p.bytes → b₂ ≡ filled ps b₁ → b₂ ≡ filled (p ∷ ps) b
unfolding filled
put_first b b₁ b₂ p ps e f = f ∙ ap (filled ps) e

pub put_last : (b b₁ : List ℕ) (p : Piece) → b₁ ≡ sets b p.offset p.bytes → b₁ ≡ filled (p ∷ []) b
unfolding filled
put_last b b₁ p e = e

-- the machine that a reset leaves, and that of lines which change
pub lines-are : (s : State) (ls : Lines) (l : List Line) → ls.lines ≡ l → with_lines_in ls s ≡ with_lines_in (record { lines = l }) s
lines-are s ls l e = ap (λ (x : List Line). with_lines_in (record { lines = x }) s) e

pub reset-is : (s : State) (r : Registers) (rl : List Register) → r.slots ≡ rl → (ls : Lines) (l : List Line) → ls.lines ≡ l
    → with_lines_in ls (with_registers_in r s) ≡ with_lines_in (record { lines = l }) (with_registers_in (record { slots = rl }) s)
reset-is s r rl e ls l f = ap₂ (λ (x : List Register) (y : List Line). with_lines_in (record { lines = y }) (with_registers_in (record { slots = x }) s)) e f

module _ (buf : List ℕ) (s : State) where
  -- a reset, whichever records and memory are lent
  pub reset-keeps : (r : Registers) → r.slots ≡ slots_of reset → (ls : Lines) → ls.lines ≡ disabled_lines → Keeps reset_device buf s (done (value 0)) buf (with_lines_in ls (with_registers_in r s))
  unfolding listed_checks listed_effect emulator_of machine_of with_registers with_lines request_writes state_with records_with filled
  reset-keeps r e ls f rs m = handled-done reset_device buf s rs m buf _ rs refl refl (reset-is s r _ e ls _ f) refl

  -- with memory of the length that the state has noted
  module _ (rs : List Mapping) where
    pub reset-done : (r : Registers) → r.slots ≡ slots_of reset → (ls : Lines) → ls.lines ≡ disabled_lines → Replies reset_device buf s rs (done (value 0)) buf (with_lines_in ls (with_registers_in r s)) rs
    reset-done r e ls f m noted = reset-keeps r e ls f rs m

pub api_version_is : (buf : List ℕ) → Answers get_api_version buf (done (value 0)) buf
unfolding listed_checks listed_effect request_writes filled
api_version_is buf = reports get_api_version buf buf 0 [] (λ e. refl) (λ e. refl) refl refl

-- ---- an index, judged against the `n` that there are

pub there : {A : Type 0} (o : Option A) (x : A) (f : Refusal) (i n : ℕ) → Ok x ≡ ok_or o f → is_some o ≡ ltb i n → (Pass ≡ (Index unless ltb i n)) × (o ≡ Some x)
unfolding ◌unless◌
there (Some y) x f i n h k = (rw (← k), cc)
there None x f i n h k = cc

pub not_there : {A : Type 0} (o : Option A) (e : Refusal) (i n : ℕ) → Err e ≡ ok_or o (record { reason = IndexReason; place = 0 }) → is_some o ≡ ltb i n
    → Fail (number_of e.reason) e.place ≡ (Index unless ltb i n)
unfolding ◌unless◌
not_there (Some y) e i n h k = cc
not_there None e i n h k = let is : e ≡ record { reason = IndexReason; place = 0 } = cc in rw (← k, is)

-- what the code's table of regions says of an index is what is listed
pub region_is : (i : ℕ) → ((get_or REGIONS i NO_REGION).flags ≡ (region_at i).flags) × ((get_or REGIONS i NO_REGION).size ≡ (region_at i).size)
unfolding region_at
region_is i = (
  sym (get_or-map (λ (r : CodeRegion). r.flags) REGIONS i NO_REGION) ∙ get_or-map (λ (r : Region). r.flags) regions i (region 0 0),
  sym (get_or-map (λ (r : CodeRegion). r.size) REGIONS i NO_REGION) ∙ get_or-map (λ (r : Region). r.size) regions i (region 0 0),
)

-- one that its check let pass
pub below : (code i n : ℕ) → Pass ≡ (code unless ltb i n) → i < n
below code i n h = ltb-true i n (unless_pass code (ltb i n) (sym h))
