use Rattle.std.proofs.Common.{[], sym, refl, ◌∙◌, arith}
use borrow.Author.Tests.{eqb-true, eqb-false}
use Rattle.std.proofs.lemmas.Result.{err_from_is_err_and}
use Rattle.answer.specs.Answer.{done, ◌onward◌}
use Rattle.virtqueue.proofs.Checks.{past-table, within-table}
use Rattle.virtqueue.proofs.Results.{stops, goes}
use Rattle.virtqueue.proofs.Passing.{starts, refuses, ends, turn, put_passes, put-long}
use Rattle.virtqueue.proofs.Chains.{chain-refused, chain-last, chain-long, chain_on}
use Rattle.virtqueue.proofs.View.chain.Goals as goal

pub loop-more-init : goal.loop-more-init
loop-more-init c = record { some = c.args.self.now.walkable.sane.some; few = omega arith; ahead = starts _ _ _ }

pub returns-in_err-x : goal.returns-in_err-x
returns-in_err-x c =
    let p = err_from_is_err_and c.from_residual.result c.from_residual.ensures.1 in
    rw (p.1, p.2) (refuses c.loop-more.invariant.ahead _ _ (chain-refused _ _ _ _ _ _ _ c.in_err-x.ensures))

pub returns-in_err-when : goal.returns-in_err-when
returns-in_err-when c =
    let p = err_from_is_err_and c.from_residual-in_err-when.result c.from_residual-in_err-when.ensures.1 in
    let s = stops _ _ _ _ _ (rw c.at.ensures at c.in_err-when.ensures) in
    let on = sym c.goes_on.ensures ∙ c.if-not-goes_on.false in
    rw (p.1, p.2) (refuses c.loop-more.invariant.ahead _ _ (s.1 ∙ sym (chain-long _ _ _ _ _ c.in_ok-x.ensures on _ (eqb-true _ _ s.0))))

pub loop-more-preserved : goal.loop-more-preserved
unfolding ◌onward◌
loop-more-preserved c =
    let on = sym c.goes_on.ensures ∙ c.if-not-goes_on.false in
    let some = eqb-false _ _ (goes _ _ _ c.in_ok-when.ensures) in
    record {
      some = omega arith;
      few = omega arith;
      ahead =
          let next = chain_on _ _ _ _ _ c.in_ok-x.ensures on _ some ∙ rw (within-table c.args.self.now.queue c.args.heads _ (goes _ _ _ c.in_ok-when-2.ensures)) refl in
          turn c.loop-more.invariant.ahead (put_passes _ _ _ _ c.put.ensures) (put-long _ _ _ _ c.put.ensures) next;
    }

pub returns-in_err-when-2 : goal.returns-in_err-when-2
unfolding ◌onward◌
returns-in_err-when-2 c =
    let p = err_from_is_err_and c.from_residual-in_err-when-2.result c.from_residual-in_err-when-2.ensures.1 in
    let s = stops _ _ _ _ _ (rw c.at-in-loop-more.ensures at c.in_err-when-2.ensures) in
    let on = sym c.goes_on.ensures ∙ c.if-not-goes_on.false in
    let some = eqb-false _ _ (goes _ _ _ c.in_ok-when.ensures) in
    let next = chain_on _ _ _ _ _ c.in_ok-x.ensures on _ some ∙ rw (past-table c.args.self.now.queue c.args.heads _ s.0) refl in
    rw (p.1, p.2) (refuses c.loop-more.invariant.ahead _ _ (s.1 ∙ sym next))

pub returns-then-not-goes_on : goal.returns-then-not-goes_on
unfolding ◌onward◌
returns-then-not-goes_on c =
    let last = chain-last _ _ _ _ _ c.in_ok-x.ensures _ (sym c.goes_on.ensures ∙ c.if-not-goes_on.true) in
    ends (turn c.loop-more.invariant.ahead {rest' = done []} (put_passes _ _ _ _ c.put.ensures) (put-long _ _ _ _ c.put.ensures) last) refl
