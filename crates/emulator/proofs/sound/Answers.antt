use Rattle.std.proofs.Common.{refl}
use Rattle.answer.proofs.Tests.{and_first, and_second}
use Rattle.emulator.proofs.Soundness.{sound-found}
use Rattle.emulator.proofs.sound.Goals as goal

pub returns-then-sound_device : goal.returns-then-sound_device
returns-then-sound_device c = sound-found c.args.state.now c.args.records.now c.sound_device.ensures c.sound.ensures (and_second c.if-sound_device.true refl)

pub returns-else-sound_device : goal.returns-else-sound_device
returns-else-sound_device c = sound-found c.args.state.now c.args.records.now c.sound_device.ensures refl (and_first _ c.if-sound_device.false refl)
