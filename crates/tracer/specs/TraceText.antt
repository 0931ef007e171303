-- The text of a trace: one line a turn, each ended by a newline.
use Rattle.std.specs.Prelude.{ℕ, Option, Some, None, List, ◌++◌, codes, decimal, slice_index}
use Rattle.std.specs.List.{flat_map}
use Rattle.abi.specs.Calls.{kind_of, name_of}
use Rattle.abi.specs.Codes.{number_of as code_number}
use Rattle.abi.specs.declared.call_kind.CallKind.{CallKind}
use Rattle.abi.specs.declared.reply.Reply.{Reply}
use Rattle.abi.specs.declared.reply.Reply.TheVariants.{Completed, Waits, Ends}
use Rattle.hart.specs.Cause.{number_of as cause_number}
use Rattle.hart.specs.declared.trap.Trap.{Trap as Trapped}
use Rattle.text_output.specs.Digits.{hexadecimal}
use Rattle.token.specs.declared.turn.Turn.{Turn}
use Rattle.token.specs.declared.turn.TurnStop.{TurnStop}
use Rattle.token.specs.declared.turn.TurnStop.TheVariants.{Call, Trap, Quantum, Wake}

-- eight hexadecimal digits
abbrev pub word_text : ℕ → List ℕ
word_text word = hexadecimal 8 word

-- NAME: that of the call, or call_ and the number where no call has it
abbrev pub name_by : ℕ → Option CallKind → List ℕ
name_by number None = codes "call_" ++ word_text number
name_by number (Some kind) = name_of kind

unfoldable pub name_text : ℕ → List ℕ
name_text number = name_by number (kind_of number)

-- RESULT: CODE or CODE VALUE of a completed call, wait of one that blocks, end where the thread or the run has ended
unfoldable pub result_text : Reply → List ℕ
result_text (Completed code None) = decimal (code_number code)
result_text (Completed code (Some value)) = decimal (code_number code) ++ codes " " ++ word_text value
result_text Waits = codes "wait"
result_text Ends = codes "end"

-- PHASE THREAD, before what the turn did
abbrev pub turn_text : Turn → List ℕ
turn_text turn = decimal turn.phase ++ codes " " ++ decimal turn.thread ++ codes " "

-- changed=CHANGED ran=RAN, after it
abbrev pub counts_text : (changed ran : ℕ) → List ℕ
counts_text changed ran = codes " changed=" ++ decimal changed ++ codes " ran=" ++ decimal ran ++ codes "\n"

-- NAME ARG0 ARG1 ARG2 -> RESULT
unfoldable pub call_text : (number : ℕ) → (arguments : List ℕ) → Reply → List ℕ
call_text number arguments reply =
    name_text number
    ++ codes " " ++ word_text (slice_index arguments 0)
    ++ codes " " ++ word_text (slice_index arguments 1)
    ++ codes " " ++ word_text (slice_index arguments 2)
    ++ codes " -> " ++ result_text reply

-- trap CAUSE PC VALUE
unfoldable pub trap_text : (pc : ℕ) → Trapped → List ℕ
trap_text pc trap =
    codes "trap " ++ decimal (cause_number trap.cause)
    ++ codes " " ++ word_text pc
    ++ codes " " ++ word_text trap.value

-- what a turn did
abbrev pub stop_text : TurnStop → List ℕ
stop_text (Call number arguments reply) = call_text number arguments reply
stop_text (Trap pc trap) = trap_text pc trap
stop_text (Wake mutex) = codes "wake " ++ decimal mutex
stop_text (Quantum pc) = codes "quantum " ++ word_text pc

-- the counts of a turn that stopped so: a wake changes nothing and executes nothing
abbrev pub counts_by : Turn → TurnStop → List ℕ
counts_by turn (Wake mutex) = counts_text 0 0
counts_by turn (Call number arguments reply) = counts_text turn.changed turn.ran
counts_by turn (Trap pc trap) = counts_text turn.changed turn.ran
counts_by turn (Quantum pc) = counts_text turn.changed turn.ran

-- the line of a turn
unfoldable pub line_of : Turn → List ℕ
line_of turn = turn_text turn ++ stop_text turn.stop ++ counts_by turn turn.stop

-- the lines of some turns, in their order
unfoldable pub text_of : List Turn → List ℕ
text_of turns = flat_map line_of turns
