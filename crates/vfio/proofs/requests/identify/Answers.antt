-- The row that the search finds is that of the entry that is listed.
use Rattle.std.proofs.Common.{rules, tests, ◌≡◌, ◌∙◌, find}
use Rattle.std.proofs.lemmas.Iterator.{YieldsList-from_slice}
use Rattle.std.proofs.lemmas.Iterator.Search.{find_from_yields_List}
use Rattle.emulator.specs.Requests.{identify}
use Rattle.vfio.specs.declared.requests.TheConstants.{REQUESTS}
use Rattle.vfio.proofs.Entries.{all, tells, found}
use Rattle.vfio.proofs.requests.identify.Goals as goal

pub returns : goal.returns
unfolding identify
returns c =
    let is : c.copied.result ≡ find (tells c.args.target c.args.number) REQUESTS =
    c.copied.ensures ∙ find_from_yields_List (tells c.args.target c.args.number) _ _ c.find.result c.find.ensures.ran (YieldsList-from_slice REQUESTS c.iter.ensures.rest) (λ x b q k. search (rules, tests)) in
    rw is (found c.args.target c.args.number all)
