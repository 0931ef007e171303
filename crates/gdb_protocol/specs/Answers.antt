-- What an answer does to a session.
use Rattle.std.specs.Prelude.{◌≡◌, ℕ, List, ◌++◌}
use Rattle.gdb_packets.specs.Frames.{frame_of}
use Rattle.gdb_packets.specs.Wire.{sent_of}
use Rattle.gdb_protocol.specs.declared.session.Session.{Session}

-- A packet of this text was sent, and nothing else happened: the run stands where it stood, with the same points and choices.
pub record Answers (old new : Session) (text : List ℕ) : Type 0 where
  pub sent : sent_of new.wire ≡ sent_of old.wire ++ frame_of text
  pub rest : new ≡ record old { wire = new.wire }
