-- Registers and lines are those of a reset.
use Rattle.vfio.proofs.Handlers.{reset-keeps}
use Rattle.vfio.proofs.reset_device.Goals as goal

pub returns : goal.returns
returns c buf rs m = reset-keeps buf c.args.state.now _ c.reset-state.ensures _ c.disabled-state.ensures rs m
