use Rattle.std.specs.Prelude.{Bool, true, false}
use Rattle.thread_table.specs.declared.status.Status.{Status}
use Rattle.thread_table.specs.declared.status.Status.TheVariants.{Ready, Woken, Blocked, Done}

-- whether a thread runs
abbrev pub is_ready : Status → Bool
is_ready Ready = true
is_ready (Woken mutex) = false
is_ready Blocked = false
is_ready (Done value) = false

-- whether a thread has a turn: it is ready or woken
abbrev pub has_turn : Status → Bool
has_turn Ready = true
has_turn (Woken mutex) = true
has_turn Blocked = false
has_turn (Done value) = false

-- whether a thread waits
abbrev pub is_blocked : Status → Bool
is_blocked Ready = false
is_blocked (Woken mutex) = false
is_blocked Blocked = true
is_blocked (Done value) = false
