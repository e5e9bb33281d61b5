-- The demands on the emulator, as one type: start reading here. proofs/Demands.antt has its term.
--
-- What a call means is its `outcome` (emulator/specs/Calls.antt): its answer, and all that it writes and leaves. That the code does just that
-- is the contract of each exported function (crates/capi/src/lib.rt): `Meets` (emulator/specs/Contract.antt), for any arguments, buffer,
-- memory, records and state, with the answer as C's struct.
-- A walker step over a stream of parts means `step_at` (parts/specs/Step.antt); so promise crates/parts/src/lib.rt and crates/reader/src/lib.rt.
-- specs/Examples.antt works out two runs; tests/definitions/ has edits of definitions that the proofs below refuse, all but that of `sessions`.
use Rattle.iommu.specs.Requests.{Remains}
use Rattle.parts.specs.RoundTrip.{RoundTrip}
use Rattle.assurance.specs.Demand1.{Demand1}
use Rattle.assurance.specs.SaveLoad.{SaveLoad}
use Rattle.assurance.specs.Starred.{Starred}
use Rattle.assurance.specs.Demand3.{Demand3}
use Rattle.assurance.specs.Session.{Sessions}
use Rattle.assurance.specs.Account.{MappedBytes}
use Rattle.assurance.specs.Packed.{Equivalence, PastEnd}

pub record Demands : Type 0 where
  -- Demand 1. Whatever a call is given, it answers: success, or a refusal by one of 32 numbers, which changes nothing.
  pub demand1 : Demand1
  -- Demand 2. Each call does what its rule says: that is its contract, above. What is asked of calls together, and of worked values:
  -- the stream that is saved of a sound register file loads to the same file, on either card;
  pub round_trip : RoundTrip
  -- what an accepted save leaves in its buffer, any sound, stopped device that is the same card loads, and has the saved registers then;
  pub save_load : SaveLoad
  -- the worked values are right, each an answer and a whole buffer;
  pub starred : Starred
  -- by the rule of either IOMMU type, what an unmap leaves of a sound table is sound, and no size is lost.
  pub remains : Remains
  -- Demand 3. For every list of calls, whatever others write meanwhile to unwritten memory, stale records and stale bytes of buffers: emulators that
  -- differ in nothing but those answer and write the same; and from a fresh start on, accepted reads and walks give what the ledger holds;
  pub demand3 : Demand3
  -- and so do sessions of the code, in which each call meets its contract.
  pub sessions : Sessions
  -- From a fresh start on, the sizes of accepted maps less those that accepted unmaps reported are the sizes that are held.
  pub mapped_bytes : MappedBytes
  -- Packed marks. Each call does on them what it does on wide marks, one to a byte;
  pub equivalence : Equivalence
  -- and keeps every bit past the end of memory.
  pub past_end : PastEnd
