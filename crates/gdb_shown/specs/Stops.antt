-- The texts of stops: where the run stands and why, and how it ends.
use Rattle.std.specs.Prelude.{ℕ, ◌%◌, List, ◌++◌, codes, decimal}
use Rattle.hart.specs.Cause.{number_of}
use Rattle.hart.specs.declared.trap.Trap.{Trap as Trapped}
use Rattle.text_output.specs.Digits.{hexadecimal}
use Rattle.timeline.specs.Moment.{Moment}
use Rattle.token.specs.declared.outcome.RunOutcome.{RunOutcome}
use Rattle.token.specs.declared.outcome.RunOutcome.TheVariants.{Exit, Finished, Trap, Deadlock}
use Rattle.gdb_shown.specs.Registers.{register_shown, word_digits}
use Rattle.gdb_shown.specs.Signals.{signal_shown}
use Rattle.gdb_shown.specs.Threads.{id_shown}

-- a register in a stop: its number and its digits
unfoldable pub register_told : Moment → (thread number : ℕ) → List ℕ
register_told moment thread number = hexadecimal 2 number ++ codes ":" ++ word_digits (register_shown moment thread number) ++ codes ";"

-- T, the signal, the reason, the thread's id, and its pc, sp, fp and ra
unfoldable pub stop_shown : Moment → (signal : ℕ) → (reason : List ℕ) → (thread : ℕ) → List ℕ
stop_shown moment signal reason thread =
    codes "T" ++ hexadecimal 2 signal ++ reason ++ codes "thread:" ++ id_shown thread ++ codes ";"
    ++ register_told moment thread 32 ++ register_told moment thread 2 ++ register_told moment thread 8 ++ register_told moment thread 1

-- the line of a trap
unfoldable pub trap_line : (thread pc : ℕ) → Trapped → List ℕ
trap_line thread pc trap =
    codes "dthreads: trap thread=" ++ decimal thread ++ codes " pc=" ++ hexadecimal 8 pc ++ codes " cause=" ++ decimal (number_of trap.cause)
    ++ codes " value=" ++ hexadecimal 8 trap.value ++ codes "\n"

-- the line that says how a run ends
unfoldable pub end_line : RunOutcome → List ℕ
end_line (Exit status) = codes "dthreads: the run ends here: exit " ++ decimal status ++ codes "\n"
end_line (Finished value) = codes "dthreads: the run ends here: finished " ++ decimal value ++ codes "\n"
end_line Deadlock = codes "dthreads: the run ends here: deadlock\n"
end_line (Trap thread pc trap) = trap_line thread pc trap

-- how the program ends for gdb: W and a status, 121 for a deadlock, or X and a signal
abbrev pub exit_shown : RunOutcome → List ℕ
exit_shown (Exit status) = codes "W" ++ hexadecimal 2 (status % 256)
exit_shown (Finished value) = codes "W" ++ hexadecimal 2 (value % 256)
exit_shown Deadlock = codes "W" ++ hexadecimal 2 121
exit_shown (Trap thread pc trap) = codes "X" ++ hexadecimal 2 (signal_shown trap.cause)
