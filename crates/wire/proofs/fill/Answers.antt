use Rattle.std.proofs.Common.{◌≡◌, ◌+◌, ◌-◌, arith}
use Rattle.wire.proofs.Laws.{part_filled}
use Rattle.wire.proofs.fill.Goals as goal

pub returns : goal.returns
returns c =
    let n : c.args.at + c.args.n - c.args.at ≡ c.args.n = omega arith in
    rw (c.fill.ensures.after (λ y e. e), n) (part_filled c.args.buf.now c.args.at c.args.n c.args.v c.requires)
