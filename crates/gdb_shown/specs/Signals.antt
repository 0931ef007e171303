-- The signals by which gdb shows traps.
use Rattle.std.specs.Prelude.{ℕ}
use Rattle.hart.specs.declared.cause.Cause.{Cause}
use Rattle.hart.specs.declared.cause.Cause.TheVariants.{TargetMisaligned, FetchDenied, IllegalInstruction, Breakpoint, LoadMisaligned, LoadDenied, StoreMisaligned, StoreDenied, BoundReached}

-- gdb's number of a signal: SIGILL (4), SIGTRAP (5), SIGBUS (10), SIGSEGV (11) or SIGXCPU (24)
abbrev pub signal_shown : Cause → ℕ
signal_shown IllegalInstruction = 4
signal_shown Breakpoint = 5
signal_shown TargetMisaligned = 10
signal_shown LoadMisaligned = 10
signal_shown StoreMisaligned = 10
signal_shown FetchDenied = 11
signal_shown LoadDenied = 11
signal_shown StoreDenied = 11
signal_shown BoundReached = 24
