-- A map that its checks let pass puts its mapping at its place.
use Rattle.emulator.proofs.Soundness.{sound_fits}
use Rattle.vfio.proofs.Handlers.{handled-refused}
use Rattle.vfio.proofs.Plans.{held_sound, map_is, insert_asks, count_fits, map_done}
use Rattle.std.proofs.Common.{◌∙◌, arith}
use Rattle.emulator.specs.Requests.{map_dma}
use Rattle.vfio.proofs.map_dma.Goals as goal

pub mappings-held-requires : goal.mappings-held-requires
mappings-held-requires c = sound_fits c.args.state.now c.args.records.now c.requires.0

pub plan_map-requires : goal.plan_map-requires
plan_map-requires c = (held_sound c.args.state.now c.args.records.now c.requires.0 _ c.mappings-held.ensures).table

pub returns-in_err-at : goal.returns-in_err-at
returns-in_err-at c m noted =
    handled-refused map_dma _ _ _ m _ _ c.from_residual.ensures
    (c.in_err-at.ensures.checks ∙ map_is c.args.state.now c.args.records.now c.requires.0 _ c.mappings-held.ensures _ _ c.requested_mapping-mapping.ensures m noted)

pub insert-requires : goal.insert-requires
insert-requires c = insert_asks c.args.state.now c.args.records.now c.requires.0 _ c.mappings-held.ensures c.args.buf.now _ c.requested_mapping-mapping.ensures _ c.in_ok-at.ensures

pub overflow_add-state : goal.overflow_add-state
overflow_add-state c = let h = count_fits c.args.state.now c.args.records.now c.requires.0 _ c.mappings-held.ensures c.args.buf.now _ c.requested_mapping-mapping.ensures _ c.in_ok-at.ensures in omega arith

pub returns : goal.returns
returns c = map_done c.args.state.now c.args.records.now c.requires.0 _ c.mappings-held.ensures _ _ c.requested_mapping-mapping.ensures _ c.in_ok-at.ensures _ c.insert.ensures
