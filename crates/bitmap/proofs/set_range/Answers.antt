-- The bits in the first and the last byte, and whole bytes between.
use Rattle.std.proofs.Common.{refl, arith}
use Rattle.bitmap.proofs.Runs.{run-same, run_then}
use Rattle.bitmap.proofs.set_range.Goals as goal

pub returns : goal.returns
returns c =
    run-same _ _ _ c.args.a _ _ _ (omega arith) refl
    (run_then _ _ _ _ _ _ _ _ _ (omega arith) (omega arith) c.set_in_byte-2.ensures
    (run_then _ _ _ _ _ _ _ _ _ (omega arith) refl c.set_bytes.ensures c.set_in_byte-3.ensures))
