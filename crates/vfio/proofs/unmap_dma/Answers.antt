-- An unmap that its checks let pass removes its run, and reports the sum of its sizes.
use Rattle.std.proofs.Common.{◌∙◌, arith}
use Rattle.emulator.proofs.Soundness.{sound_fits}
use Rattle.emulator.specs.Effect.{filled}
use Rattle.emulator.specs.Requests.{unmap_dma}
use Rattle.vfio.proofs.Handlers.{handled-refused}
use Rattle.vfio.proofs.Plans.{held_sound, unmap_is, run_asks, unmap_done}
use Rattle.vfio.proofs.unmap_dma.Goals as goal

pub mappings-held-requires : goal.mappings-held-requires
mappings-held-requires c = sound_fits c.args.state.now c.args.records.now c.requires.0

pub plan_unmap-requires : goal.plan_unmap-requires
plan_unmap-requires c = (held_sound c.args.state.now c.args.records.now c.requires.0 _ c.mappings-held.ensures).table

pub returns-in_err-run : goal.returns-in_err-run
returns-in_err-run c m noted =
    handled-refused unmap_dma _ _ _ m _ _ c.from_residual.ensures
    (c.in_err-run.ensures.checks ∙ unmap_is c.args.state.now c.args.records.now c.requires.0 _ c.mappings-held.ensures _ _ _ _ c.get-flags.ensures c.get.ensures c.get-size.ensures m)

pub sizes-removed-requires : goal.sizes-removed-requires
sizes-removed-requires c = (held_sound c.args.state.now c.args.records.now c.requires.0 _ c.mappings-held.ensures, c.in_ok-run.ensures.range.order, c.in_ok-run.ensures.range.end)

pub close-requires : goal.close-requires
close-requires c =
    let r = run_asks c.args.state.now c.args.records.now c.requires.0 _ c.mappings-held.ensures c.args.buf.now _ _ _ c.get-flags.ensures c.get.ensures c.get-size.ensures _ c.in_ok-run.ensures in
    (r.0, r.1, sound_fits c.args.state.now c.args.records.now c.requires.0)

pub overflow_sub-state-2 : goal.overflow_sub-state-2
overflow_sub-state-2 c =
    let r = run_asks c.args.state.now c.args.records.now c.requires.0 _ c.mappings-held.ensures c.args.buf.now _ _ _ c.get-flags.ensures c.get.ensures c.get-size.ensures _ c.in_ok-run.ensures in omega arith

pub returns : goal.returns
unfolding filled
returns c m noted =
    unmap_done c.args.state.now c.args.records.now c.requires.0 _ c.mappings-held.ensures _ _ _ _ c.get-flags.ensures c.get.ensures c.get-size.ensures _ c.in_ok-run.ensures
    _ c.close.ensures _ c.sizes-removed.ensures _ c.put.ensures m
