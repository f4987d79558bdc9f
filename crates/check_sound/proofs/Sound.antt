-- The own boxes of an accepted scene are sound: the proof. Assumes nothing.
use Rattle.check_sound.specs.Sound.{AcceptedSound}
use Rattle.check_sound.proofs.Passing.{accepted-passes}
use Rattle.check_sound.proofs.InOrder.{passing-sound}

pub accepted-sound : AcceptedSound
accepted-sound s d e = passing-sound s (accepted-passes s d e)
