-- Who is due.
use Rattle.std.specs.Prelude.{ℕ}
use Rattle.token.specs.Turns.{Ran}
use Rattle.token.specs.declared.due.Due.{Due}
use Rattle.token.specs.declared.due.Due.TheVariants as due

-- the thread that is due
abbrev pub thread_due : Due → ℕ
thread_due (due.Fresh thread) = thread
thread_due (due.Keeper thread) = thread
thread_due (due.Woken thread mutex) = thread

-- the mutex that a woken thread takes, 0 where none is woken
abbrev pub mutex_due : Due → ℕ
mutex_due (due.Fresh thread) = 0
mutex_due (due.Keeper thread) = 0
mutex_due (due.Woken thread mutex) = mutex

-- what it does on a copy in its turn: it runs a segment, and nothing where it is woken
abbrev pub PrivateRun : Due → Type 0
PrivateRun (due.Fresh thread) = Ran
PrivateRun (due.Keeper thread) = Ran
PrivateRun (due.Woken thread mutex) = Unit {0}
