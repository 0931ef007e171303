use Rattle.token.specs.RunInTurn.{point_of}
use Rattle.runtime.proofs.recording.record_serial.Given as goal

abbrev pub ghosts-take_turns : goal.ghosts-take_turns
ghosts-take_turns g a = record { setup = (point_of a.serial.now).setup }
