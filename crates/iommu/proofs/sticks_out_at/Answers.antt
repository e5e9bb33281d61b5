use Rattle.std.proofs.Common.{rules, ◌≡◌, false, Bor}
use Rattle.std.specs.Prelude.{MatchOption}
use Rattle.iommu.specs.declared.Mapping.{Mapping}
use Rattle.iommu.specs.Table.{sticks_out}
use Rattle.iommu.proofs.Requests.{looked}
use Rattle.iommu.proofs.sticks_out_at.Goals as goal

pub returns : goal.returns
returns c =
    let e : MatchOption c.get.result (c.is_some_and.result ≡ false) (λ (m : Bor Mapping). c.is_some_and.result ≡ sticks_out m.now c.args.d) = search rules in
    looked _ _ _ c.get.ensures.lookup _ _ e
