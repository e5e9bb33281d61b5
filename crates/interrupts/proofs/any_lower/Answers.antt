use Rattle.std.proofs.Common.{◌≡◌, ℕ, refl, rules, ◌∙◌, arith}
use Rattle.std.specs.List.{list_any, range_with_len}
use Rattle.std.proofs.lemmas.Iterator.{YieldsList-from_range}
use Rattle.std.proofs.lemmas.Iterator.Search.{any_from_yields_List}
use borrow.Author.Tests.{tests}
use Rattle.interrupts.specs.Lines.{lower}
use Rattle.interrupts.specs.Requests.{event_at}
use Rattle.interrupts.proofs.Requests.{any-ranged}
use Rattle.interrupts.proofs.any_lower.Goals as goal

pub returns : goal.returns
returns c =
    let buf = c.args.buf.now in
    let n = c.args.count in
    let any : c.any.result ≡ list_any (λ (j : ℕ). lower (event_at buf j)) (range_with_len 0 n) =
    any_from_yields_List (λ (j : ℕ). lower (event_at buf j)) _ _ c.any.result c.any.ensures.ran (YieldsList-from_range 0 n n refl (omega arith)) (λ x b q k. search (rules, tests)) in
    any ∙ any-ranged buf n
