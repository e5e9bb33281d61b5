use Rattle.std.proofs.Common.{◌≡◌, rules, not, ◌∙◌}
use Rattle.std.specs.List.{list_all}
use Rattle.std.proofs.lemmas.Iterator.{YieldsList-from_slice}
use Rattle.std.proofs.lemmas.Iterator.Search.{all_from_yields_List}
use borrow.Author.Tests.{tests}
use Rattle.interrupts.specs.declared.Line.{Line}
use Rattle.interrupts.specs.Lines.{lower}
use Rattle.interrupts.proofs.Soundness.{sound-all}
use Rattle.interrupts.proofs.sound.Goals as goal

pub returns : goal.returns
returns c =
    let all : c.all.result ≡ list_all (λ (l : Line). not (lower l.number)) c.args.l.lines =
    all_from_yields_List (λ (l : Line). not (lower l.number)) _ _ c.all.result c.all.ensures.ran (YieldsList-from_slice c.args.l.lines (search rules)) (λ x b q k. search (rules, tests)) in
    all ∙ sound-all c.args.l.lines
