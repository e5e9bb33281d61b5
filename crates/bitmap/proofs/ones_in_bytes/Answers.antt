-- Where what the bytes have in common is 255, each of them is 255.
use Rattle.std.proofs.Common.{◌≡◌, ℕ, ◌+◌, ◌-◌, ◌<◌, length, get_or, arith, rules, eqb-true, bit_and, sym, ◌∙◌}
use Rattle.std.specs.List.{fold}
use Rattle.std.proofs.lemmas.List.Edits.{length-between, get_or-between}
use Rattle.wire.specs.Field.{slice}
use Rattle.bitmap.proofs.Lists.{common-255}
use Rattle.bitmap.proofs.Runs.{ones-whole}
use Rattle.bitmap.proofs.ones_in_bytes.Goals as goal

pub returns : goal.returns
returns c t =
    let map = c.args.map.now in
    let q = c.args.q in
    let end = c.args.q + c.args.c in
    let part = slice map q (end - q) in
    let n : length part ≡ c.args.c = omega (arith, length-between map q end c.requires) in
    let at : (i : ℕ) → i < c.args.c → get_or part i 0 ≡ get_or map (q + i) 0 = λ i lt. get_or-between map q end i 0 (omega arith) in
    let all : c.fold.result ≡ fold bit_and 255 part = search rules in
    let each = (common-255 255 part (omega arith) (λ i lt. rw (at i (omega arith)) (c.type_inv.map (q + i)).fits) (sym all ∙ eqb-true _ _ t)).1 in
    ones-whole map q c.args.c (λ i lt. sym (at i lt) ∙ each i (omega arith))
