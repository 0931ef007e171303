-- What a packet comes to that a byte of gdb completes.
use Rattle.std.proofs.Common.{◌≡◌, ◌∙◌, ℕ, Result, Ok, Err, OnOk, List, ◌++◌, sym, ap, subst}
use Rattle.gdb_packets.specs.Frames.{frame_of}
use Rattle.gdb_packets.specs.Requests.{IsCommand, IsRead}
use Rattle.gdb_packets.specs.Wire.{IsSent, noted}
use Rattle.gdb_packets.specs.declared.deframer.Deframer.{Deframer}
use Rattle.gdb_packets.specs.declared.packet_request.PacketRequest.{PacketRequest}
use Rattle.gdb_packets.specs.declared.packet_request.PacketRequest.TheVariants as request
use Rattle.gdb_packets.specs.declared.wire.Wire.{Wire}
use Rattle.gdb_monitor.specs.Searching.{Stays}
use Rattle.gdb_protocol.specs.Answers.{Answers}
use Rattle.gdb_protocol.specs.Hearing.{AnswersPacket, Handles}
use Rattle.gdb_protocol.specs.Replies.{Replies}
use Rattle.gdb_protocol.specs.declared.session.Session.{Session}

-- what follows of a result that is no error
pub on_ok : {A E P Q : Type 0} (result : Result A E) → (P → Q) → OnOk result P → OnOk result Q
on_ok (Ok value) then held = then held
on_ok (Err error) then held = held

-- an answer after an acknowledgement
answered : (old : Session) (wire : Wire) (deframer : Deframer) (new : Session) (text : List ℕ) → IsSent old.wire (noted old.wire 43) wire
    → Answers (record old { wire = wire; deframer = deframer }) new text → AnswersPacket old new text
answered old wire deframer new text plus answers =
    record {
      sent = answers.sent ∙ ap (λ (bytes : List ℕ). bytes ++ frame_of text) plus.sent;
      rest =
          answers.rest
          ∙ ap (λ (other : Deframer). record old { wire = new.wire; deframer = other }) (sym (ap (λ (session : Session). session.deframer) answers.rest));
    }

-- a command leaves the run where it stands
stays : (old : Session) (wire : Wire) (deframer : Deframer) (new : Session) (digits : List ℕ) (asked : PacketRequest) → IsCommand digits asked
    → Replies (record old { wire = wire; deframer = deframer }) new asked → Stays old.timeline new.timeline
stays old wire deframer new digits (request.Command given) is replies = replies
stays old wire deframer new digits _ is replies = absurd is

-- a packet that was acknowledged, and what it asks for done
pub handled : (old : Session) (wire : Wire) (deframer : Deframer) (new : Session) (text : List ℕ) (asked : PacketRequest) → IsSent old.wire (noted old.wire 43) wire
    → IsRead text asked → Replies (record old { wire = wire; deframer = deframer }) new asked → Handles old new text
handled old wire deframer new text asked plus read replies =
    let told = λ (other : PacketRequest) (is : asked ≡ other). subst (Replies (record old { wire = wire; deframer = deframer }) new) is replies in
    record {
      registers = λ is. answered old wire deframer new _ plus (told request.Registers (read.short.registers is));
      register = λ digits number is numbers. answered old wire deframer new _ plus (told (request.Register number) (read.long.register digits number is numbers));
      memory = λ part window is within. answered old wire deframer new _ plus (told (request.Memory window) (read.long.memory part window is within));
      change = λ rest is. answered old wire deframer new _ plus (told request.ChangeRegisters (read.short.change rest is));
      store = λ rest is. answered old wire deframer new _ plus (told request.ChangeMemory (read.short.store rest is));
      command = λ digits is. stays old wire deframer new digits asked (read.command digits is) replies;
    }
