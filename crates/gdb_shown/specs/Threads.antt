-- What gdb is shown of threads: their ids, and what each does in words.
use Rattle.std.specs.Prelude.{ℕ, zero, suc, ◌+◌, ◌==◌, false, nat_lt, if◌then◌else◌, min, drop, take, find, Option, Some, None, option_map, List, [], ◌∷◌, ◌++◌, length, codes, decimal}
use Rattle.std.specs.Fmt.{digits}
use Rattle.std.specs.List.{list_any}
use Rattle.abi.specs.Calls.{joined_in}
use Rattle.condvar_barrier.specs.declared.wait_place.WaitPlace.{WaitPlace}
use Rattle.condvar_barrier.specs.declared.wait_place.WaitPlace.TheVariants.{Condition, Barrier}
use Rattle.condvar_barrier.specs.declared.waiter.Waiter.{Waiter}
use Rattle.ecalls.specs.Request.{call_of}
use Rattle.gdb_packets.specs.declared.window.Window.{Window}
use Rattle.thread_table.specs.declared.status.Status.{Status}
use Rattle.thread_table.specs.declared.status.Status.TheVariants.{Ready, Woken, Blocked, Done}
use Rattle.thread_table.specs.declared.thread.Thread.{Thread}
use Rattle.timeline.specs.Moment.{Moment}
use Rattle.timeline.specs.Shown.{row_at, sees_at}
use Rattle.timeline.specs.Told.{turn_at}
use Rattle.timeline.specs.declared.shown.Sees.{Sees}
use Rattle.timeline.specs.declared.shown.Sees.TheVariants.{Own, PhaseStart, Shared}
use Rattle.token.specs.Point.{Point}

-- gdb's id of a thread, from 1
abbrev pub id_shown : ℕ → List ℕ
id_shown thread = digits 16 false (thread + 1)

-- where a thread waits
abbrev pub place_words : WaitPlace → List ℕ
place_words (Condition condition mutex) = codes "waits at condition " ++ decimal condition ++ codes " for mutex " ++ decimal mutex
place_words (Barrier barrier count) = codes "waits at barrier " ++ decimal barrier ++ codes " of " ++ decimal count

abbrev pub joined_by : Option Thread → Option ℕ
joined_by None = None
joined_by (Some row) = joined_in (call_of row.hart)

abbrev pub join_words : Option ℕ → List ℕ
join_words None = codes "waits"
join_words (Some thread) = codes "joins guest " ++ decimal thread

abbrev pub waiting_by : Option Waiter → Option ℕ → List ℕ
waiting_by None joined = join_words joined
waiting_by (Some waiter) joined = place_words waiter.place

-- what a blocked thread waits for: a condition variable, a barrier, or another thread
abbrev pub waiting_words : Point → ℕ → List ℕ
waiting_words point thread = waiting_by (find (λ waiter. waiter.thread == thread) point.state.objects.waiters) (joined_by (row_at point thread))

-- where a ready thread stands in the phase whose turn isn't to come: the phase's list may leave it out
abbrev pub shared_words : Point → ℕ → List ℕ
shared_words point thread = if list_any (λ listed. listed == thread) point.list then codes "ready, its turn is over" else codes "ready, not in this phase"

-- where a ready thread stands in the phase, by the memory that it sees
abbrev pub ready_words : Moment → ℕ → Sees → List ℕ
ready_words moment thread Own = codes "its turn " ++ decimal (turn_at moment.point) ++ codes ", phase " ++ decimal moment.point.phase
ready_words moment thread PhaseStart = codes "ready, its turn is to come"
ready_words moment thread Shared = shared_words moment.point thread

abbrev pub status_words : Moment → ℕ → Option Status → List ℕ
status_words moment thread None = codes "not created here"
status_words moment thread (Some Ready) = ready_words moment thread (sees_at moment thread)
status_words moment thread (Some (Woken mutex)) = codes "woken, takes mutex " ++ decimal mutex
status_words moment thread (Some Blocked) = waiting_words moment.point thread
status_words moment thread (Some (Done value)) = codes "done, value " ++ decimal value

-- what a thread does
unfoldable pub thread_words : Moment → ℕ → List ℕ
thread_words moment thread = status_words moment thread (option_map (λ row. row.status) (row_at moment.point thread))

-- a thread's id and its name
unfoldable pub name_shown : ℕ → List ℕ
name_shown thread = codes "<thread id=\"" ++ (id_shown thread ++ (codes "\" name=\"guest " ++ (decimal thread ++ codes "\">")))

-- a thread in the list
unfoldable pub entry_shown : Moment → ℕ → List ℕ
entry_shown moment thread = name_shown thread ++ thread_words moment thread ++ codes "</thread>"

-- the first threads, so many
unfoldable pub first_entries : Moment → ℕ → List ℕ
first_entries moment zero = []
first_entries moment (suc count) = first_entries moment count ++ entry_shown moment count

-- the list of so many threads
abbrev pub threads_shown : Moment → ℕ → List ℕ
threads_shown moment count = codes "<threads>" ++ first_entries moment count ++ codes "</threads>"

-- an id behind others
unfoldable pub next_id : ℕ → List ℕ
next_id thread = if thread == 0 then id_shown thread else codes "," ++ id_shown thread

-- the ids of the first threads, so many
unfoldable pub first_ids : ℕ → List ℕ
first_ids zero = []
first_ids (suc count) = first_ids count ++ next_id count

abbrev pub ids_shown : ℕ → List ℕ
ids_shown count = codes "m" ++ first_ids count

-- a part of a text, of 4,096 bytes at most, behind m (109) if more follows and l (108) if none does
abbrev pub part_shown : List ℕ → Window → List ℕ
part_shown text window =
    (if nat_lt (window.start + min window.length 0x1000) (length text) then 109 else 108) ∷ take (min window.length 0x1000) (drop window.start text)
