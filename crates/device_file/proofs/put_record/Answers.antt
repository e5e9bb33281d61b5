use Rattle.std.proofs.Common.{◌≡◌, ℕ, Option, Some, None, refl, sym, ◌∙◌}
use Rattle.device_file.specs.Types.{number_of}
use Rattle.device_file.specs.Write.{record_length, grown, appended}
use Rattle.device_file.specs.Scan.{option_in}
use Rattle.device_file.proofs.Writing.{grown-some, grown-none, put-encoded}
use Rattle.device_file.proofs.put_record.Goals as goal
use Rattle.device_file.proofs.put_record.Goals.{then-is_sub+in-Some, then-is_sub+in_default, else-is_sub}

is_none : (region : Option ℕ) → ((g : ℕ) → region ≡ Some g → ⊥) → region ≡ None
is_none None h = refl
is_none (Some g) h = absurd (h g refl)

pub returns : goal.returns
unfolding appended grown record_length option_in
returns c =
    let a = c.args in
    let region : c.if-is_sub.buf ≡ grown a.buf.now (option_in a.region) (number_of a.kind) (record_length a.content.now) =
    elim c.if-is_sub.branch [
      | then-is_sub+in-Some w ↦
          rw w.in-Some.is (w.buf-is ∙ w.grow.ensures ∙ sym (grown-some a.buf.now _ _ _ (sym c.is_sub.ensures ∙ w.if-is_sub.true)))
      | then-is_sub+in_default w ↦ rw (is_none a.region w.in_default.not-Some) w.buf-is
      | else-is_sub w ↦ w.buf-is ∙ grown-none a.buf.now _ _ _ (sym c.is_sub.ensures ∙ w.if-is_sub.false)
    ] in
    c.copy.ensures ∙ rw (c.put-2.ensures, c.put.ensures, region, c.number.ensures) (put-encoded _ _ _ _)
