-- How requests of a program that is there are answered: for its registers and memory, and to change them.
use Rattle.std.specs.Prelude.{◌≡◌, ℕ, true, Option, Some, None, List, codes}
use Rattle.gdb_packets.specs.declared.action.Motion.TheVariants.{Continue}
use Rattle.gdb_packets.specs.declared.packet_request.PacketRequest.{PacketRequest}
use Rattle.gdb_packets.specs.declared.packet_request.PacketRequest.TheVariants as request
use Rattle.gdb_monitor.specs.Searching.{Stays}
use Rattle.gdb_shown.specs.Memory.{memory_shown}
use Rattle.gdb_shown.specs.Registers.{one_register_shown, registers_shown}
use Rattle.gdb_protocol.specs.Answers.{Answers}
use Rattle.gdb_protocol.specs.Interrupts.{IsInterrupted}
use Rattle.gdb_protocol.specs.Moves.{moment_in}
use Rattle.gdb_protocol.specs.declared.session.Session.{Session}

-- a text, or the error that stands for none
abbrev pub text_or_error : Option (List ℕ) → List ℕ
text_or_error None = codes "E01"
text_or_error (Some text) = text

-- The registers and the memory are those of the thread that is meant, at the position of the run. A change is refused: of registers
-- with a reason that gdb prints, of memory with an error. Nothing else changes. A command of the user leaves the run where it stands.
-- An interrupt that was kept stops the run before it goes on or back. Of other requests nothing is said.
abbrev pub Replies : Session → Session → PacketRequest → Type 0
Replies old new request.Registers = Answers old new (registers_shown (moment_in old) old.selection.general)
Replies old new (request.Register number) = Answers old new (text_or_error (one_register_shown (moment_in old) old.selection.general number))
Replies old new (request.Memory window) = Answers old new (text_or_error (memory_shown (moment_in old) old.selection.general window))
Replies old new request.ChangeRegisters = Answers old new (codes "E.a deterministic run is read-only")
Replies old new request.ChangeMemory = Answers old new (codes "E01")
Replies old new (request.Command text) = Stays old.timeline new.timeline
Replies old new request.ContinueBack = old.is_interrupted ≡ true → IsInterrupted old new
Replies old new (request.ResumeSelected Continue) = old.is_interrupted ≡ true → IsInterrupted old new
Replies old new _ = Unit {0}
