-- What a byte of gdb does to a session.
use Rattle.std.specs.Prelude.{◌≡◌, ◌⊎◌, ℕ, Bool, true, false, None, List, [], ◌∷◌, ◌++◌, codes}
use Rattle.gdb_monitor.specs.Searching.{Stays}
use Rattle.gdb_packets.specs.Frames.{bytes_begun, frame_of}
use Rattle.gdb_packets.specs.Numbers.{IsNumber}
use Rattle.gdb_packets.specs.Requests.{IsWindow}
use Rattle.gdb_packets.specs.Wire.{IsSent, noted, repeated, sent_of}
use Rattle.gdb_packets.specs.declared.deframer.Heard.{Heard}
use Rattle.gdb_packets.specs.declared.deframer.Heard.TheVariants as heard
use Rattle.gdb_packets.specs.declared.window.Window.{Window}
use Rattle.gdb_shown.specs.Memory.{memory_shown}
use Rattle.gdb_shown.specs.Registers.{one_register_shown, registers_shown}
use Rattle.timeline.specs.declared.line.Line.{Line}
use Rattle.gdb_protocol.specs.Interrupts.{waits_for_next}
use Rattle.gdb_protocol.specs.Moves.{Stands, Tells, moment_in}
use Rattle.gdb_protocol.specs.Replies.{text_or_error}
use Rattle.gdb_protocol.specs.declared.life.Life.TheVariants.{Alive}
use Rattle.gdb_protocol.specs.declared.session.Session.{Session}

-- A session over a run that has heard nothing and sent nothing. The program is there, and the stop is that of the position.
pub record IsFresh (timeline : Line) (session : Session) : Type 0 where
  pub run : session.timeline ≡ timeline
  pub life : session.life ≡ Alive
  pub pursuit : session.pursuit ≡ None
  pub sent : sent_of session.wire ≡ []
  pub heard : bytes_begun session.deframer.body.items session.deframer.part ≡ []
  pub stop : Tells session

-- A packet was acknowledged and answered with one of this text, and nothing else happened: the run stands where it stood, with the same
-- points and choices.
pub record AnswersPacket (old new : Session) (text : List ℕ) : Type 0 where
  pub sent : sent_of new.wire ≡ sent_of old.wire ++ noted old.wire 43 ++ frame_of text
  pub rest : new ≡ record old { wire = new.wire; deframer = new.deframer }

-- What a packet of this text comes to. The registers and the memory are those of the thread that is meant, at the position of the run.
-- A change is refused: of registers (G, P) with a reason that gdb prints, of memory (M, X) with an error. A command of the user leaves
-- the run where it stands. Of other packets nothing is said.
pub record Handles (old new : Session) (text : List ℕ) : Type 0 where
  pub registers : text ≡ codes "g" → AnswersPacket old new (registers_shown (moment_in old) old.selection.general)
  pub register : (digits : List ℕ) (number : ℕ) → text ≡ 112 ∷ digits → IsNumber digits number
      → AnswersPacket old new (text_or_error (one_register_shown (moment_in old) old.selection.general number))
  pub memory : (part : List ℕ) (window : Window) → text ≡ 109 ∷ part → IsWindow part window
      → AnswersPacket old new (text_or_error (memory_shown (moment_in old) old.selection.general window))
  pub change : (rest : List ℕ) → (text ≡ 71 ∷ rest) ⊎ (text ≡ 80 ∷ rest) → AnswersPacket old new (codes "E.a deterministic run is read-only")
  pub store : (rest : List ℕ) → (text ≡ 77 ∷ rest) ⊎ (text ≡ 88 ∷ rest) → AnswersPacket old new (codes "E01")
  pub command : (digits : List ℕ) → text ≡ codes "qRcmd," ++ digits → Stays old.timeline new.timeline

-- these bytes were sent, and nothing else happened
abbrev pub Sends : Session → Session → List ℕ → Type 0
Sends old new bytes = IsSent old.wire bytes new.wire × (new ≡ record old { wire = new.wire; deframer = new.deframer })

-- what an interrupt comes to: it is kept for what gdb goes on with next, or it is a stop where the run stands
abbrev pub Interrupts : Bool → Session → Session → Type 0
Interrupts true old new = new ≡ record old { deframer = new.deframer; is_interrupted = true }
Interrupts false old new = Stands old new × (new.pursuit ≡ None) × (new.is_interrupted ≡ old.is_interrupted)

-- what a byte outside of a frame comes to: an acknowledgement to nothing, a refusal to the last answer once more, an interrupt to a
-- stop, or it is kept
abbrev pub Reacts : Session → Session → Heard → Type 0
Reacts old new heard.Refused = Sends old new (repeated old.wire)
Reacts old new heard.Interrupt = Interrupts (waits_for_next old.pursuit) old new
Reacts old new _ = new ≡ record old { deframer = new.deframer }
