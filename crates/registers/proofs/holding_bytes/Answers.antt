-- `registers::holding_bytes` meets its contract.
use Rattle.std.proofs.Common.{ℕ, List, ◌∙◌, ap, replicate, arith}
use lib.Seq.{sets, take_all}
use Rattle.registers.proofs.File.{register_made}
use Rattle.registers.proofs.holding_bytes.Goals as goal

pub returns : goal.returns
returns c =
    let v = c.args.v.now in
    ap (λ (b : List ℕ). record { set = 1; bytes = b }) (c.copy.ensures ∙ ap (sets (replicate 32 0) 0) (take_all c.args.n v (omega arith))) ∙ register_made v (omega arith)
