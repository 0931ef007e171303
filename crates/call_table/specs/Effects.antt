-- What each call makes of the state: the call table, a row each.
use Rattle.std.specs.Prelude.{ℕ, zero, suc, ◌+◌, ◌*◌, ◌%◌, ◌^◌, Bool, true, false, ◌&&◌, ◌||◌, not, ◌==◌, nat_le, nat_lt, min, if◌then◌else◌, Option, Some, None, option_map, unwrap_or, is_some, List, [], ◌∷◌, ◌++◌, length, take, drop}
use Rattle.guest_memory.specs.Memory.{Memory, permitted}
use Rattle.guest_memory.specs.Layout.{page_of}
use Rattle.guest_memory.specs.Layout as layout
use Rattle.guest_memory.specs.declared.perm.Perm.{Perm}
use Rattle.paged_memory.specs.Mapping.{with_bytes, with_zeros, without_pages}
use Rattle.abi.specs.declared.call.Call.{Call}
use Rattle.abi.specs.declared.call.Call.TheVariants as call
use Rattle.abi.specs.declared.code.Code.{Code}
use Rattle.abi.specs.declared.code.Code.TheVariants.{Done, NoSuchCall, BadArgument, BadAddress, Limit}
use Rattle.abi.specs.declared.reply.Reply.{Reply}
use Rattle.abi.specs.declared.reply.Reply.TheVariants.{Completed, Waits, Ends}
use Rattle.abi.specs.Limits as limit
use Rattle.ecalls.specs.Answer.{finished}
use Rattle.thread_table.specs.Threads.{new_number, created, join_reply, joined, joiners, ended, with_status}
use Rattle.thread_table.specs.declared.thread.Thread.{Thread}
use Rattle.thread_table.specs.declared.status.Status.TheVariants.{Ready, Woken, Blocked}
use Rattle.condvar_barrier.specs.Objects.{ObjectState, holds}
use Rattle.condvar_barrier.specs.Rows.{Outcome, lock, unlock, wait, signal, broadcast, barrier, release_all}
use Rattle.condvar_barrier.specs.declared.woken.Woken.{Woken as WokenThread}
use Rattle.call_table.specs.State.{State, hart_at, heap_top, with_thread}

-- what a call comes to for its caller, and the state that it leaves but for that
pub record Effect : Type 0 where
  pub reply : Reply
  pub state : State

-- a call that is completed with a code alone
abbrev pub answered : Code → State → Effect
answered code state = record { reply = Completed code None; state = state }

-- a call that is done and has a value
abbrev pub answered_with : ℕ → State → Effect
answered_with value state = record { reply = Completed Done (Some value); state = state }

-- a thread whose call is done, with a value where there is one
abbrev pub completed : Option ℕ → Thread → Thread
completed value thread = record thread { status = Ready; hart = finished thread.hart Done value }

-- the threads where the calls of some are done with a value
unfoldable pub let_pass : ℕ → List ℕ → List Thread → List Thread
let_pass value [] threads = threads
let_pass value (n ∷ numbers) threads = let_pass value numbers (with_thread threads n (completed (Some value)))

-- the threads where some are woken
unfoldable pub wake_up : List WokenThread → List Thread → List Thread
wake_up [] threads = threads
wake_up (woken ∷ rest) threads = wake_up rest (with_status threads woken.thread (Woken woken.mutex))

-- what the objects come to: they are so then, and the threads that are let go are woken, or pass with the value 0
abbrev pub with_outcome : Outcome → State → Effect
with_outcome outcome state =
    record { reply = outcome.reply; state = record state { objects = outcome.objects; threads = let_pass 0 outcome.passed (wake_up outcome.woken state.threads) } }

-- a call of the objects
unfoldable pub by_objects : (ObjectState → Outcome) → State → Effect
by_objects row state = with_outcome (row state.objects) state

-- thread_exit(value): the thread's mutexes are free, and its joiners pass with the value
unfoldable pub thread_exit : State → ℕ → ℕ → Effect
thread_exit state thread value =
    record {
      reply = Ends;
      state = record state { objects = release_all state.objects thread; threads = let_pass value (joiners state.threads thread) (ended state.threads thread value) };
    }

-- create(entry, argument, stack pointer)
abbrev pub create_numbered : State → ℕ → ℕ → ℕ → Option ℕ → Effect
create_numbered state entry argument stack_pointer None = answered Limit state
create_numbered state entry argument stack_pointer (Some number) =
    answered_with number (record state { threads = created state.threads (hart_at entry stack_pointer argument number) })

unfoldable pub create : State → ℕ → ℕ → ℕ → Effect
create state entry argument stack_pointer =
    if entry % 4 == 0 then create_numbered state entry argument stack_pointer (new_number state.threads) else answered BadArgument state

-- join(n): the caller is blocked where it waits
unfoldable pub join : State → ℕ → ℕ → Effect
join state thread n =
    let holds_lock : Bool = holds state.objects thread in
    record { reply = join_reply state.threads thread n holds_lock; state = record state { threads = joined state.threads thread n holds_lock } }

-- whether each address of a range is permitted
unfoldable pub all_permitted : (Perm → Bool) → Memory → ℕ → ℕ → Bool
all_permitted may memory address zero = true
all_permitted may memory address (suc count) = is_some (permitted may memory address) && all_permitted may memory (address + 1) count

-- whether a range ends within the addresses and is permitted
abbrev pub is_permitted_range : (Perm → Bool) → Memory → ℕ → ℕ → Bool
is_permitted_range may memory address count = nat_le (address + count) (2 ^ 32) && all_permitted may memory address count

-- the byte at an address, 0 where it isn't mapped
abbrev pub byte_at : Memory → ℕ → ℕ
byte_at memory address = unwrap_or (option_map (λ cell. cell.byte) (memory address)) 0

-- the bytes of a range
unfoldable pub bytes_of : Memory → ℕ → ℕ → List ℕ
bytes_of memory address zero = []
bytes_of memory address (suc count) = byte_at memory address ∷ bytes_of memory (address + 1) count

-- write(address, count)
unfoldable pub write : State → ℕ → ℕ → Effect
write state address count =
    if nat_lt limit.transfer count then answered BadArgument state
    else (if not (is_permitted_range (λ perm. perm.read) state.memory address count) then answered BadAddress state
    else (if nat_lt limit.output (length state.output + count) then answered Limit state
    else answered_with count (record state { output = state.output ++ bytes_of state.memory address count })))

-- read(address, count): the next bytes of the input, as many as there are and as the caller asks for, go to shared memory
unfoldable pub read : State → ℕ → ℕ → Effect
read state address count =
    if nat_lt limit.transfer count then answered BadArgument state
    else (if not (is_permitted_range (λ perm. perm.write) state.memory address count) then answered BadAddress state
    else answered_with (min count (length state.rest))
    (record state { memory = with_bytes address (take count state.rest) state.memory; rest = drop count state.rest }))

-- whether a call may name so many pages
abbrev pub is_page_count : ℕ → Bool
is_page_count count = not (count == 0) && nat_le count limit.call_pages

-- memory(count): pages of zeros at the heap's top
unfoldable pub new_pages : State → ℕ → Effect
new_pages state count =
    if not (is_page_count count) then answered BadArgument state
    else (if nat_lt layout.heap_pages (state.heap_pages + count) then answered Limit state
    else answered_with (heap_top state)
    (record state { memory = with_zeros (page_of (heap_top state)) count (record { read = true; write = true; execute = false }) state.memory; heap_pages = state.heap_pages + count }))

-- whether all of so many pages are mapped
unfoldable pub are_mapped : Memory → ℕ → ℕ → Bool
are_mapped memory page zero = true
are_mapped memory page (suc count) = is_some (memory (layout.page_size * page)) && are_mapped memory (page + 1) count

-- whether so many pages from an address on are the heap's and mapped
abbrev pub is_mapped_heap : State → ℕ → ℕ → Bool
is_mapped_heap state address count =
    nat_le layout.heap_start address && nat_le (address + layout.page_size * count) (heap_top state) && are_mapped state.memory (page_of address) count

-- release(address, count): a page of the heap that isn't mapped was released before
unfoldable pub release : State → ℕ → ℕ → Effect
release state address count =
    if not (is_page_count count) || not (address % layout.page_size == 0) then answered BadArgument state
    else (if not (is_mapped_heap state address count) then answered BadAddress state
    else answered Done (record state { memory = without_pages (page_of address) count state.memory }))

-- the call table: what thread's call makes of the state
unfoldable pub effect : State → ℕ → Call → Effect
effect state thread (call.Exit status) = record { reply = Ends; state = state }
effect state thread (call.ThreadExit value) = thread_exit state thread value
effect state thread (call.Create entry argument stack_pointer) = create state entry argument stack_pointer
effect state thread (call.Join n) = join state thread n
effect state thread (call.Lock mutex) = by_objects (λ objects. lock objects thread mutex) state
effect state thread (call.Unlock mutex) = by_objects (λ objects. unlock objects thread mutex) state
effect state thread (call.Wait condition mutex) = by_objects (λ objects. wait objects thread condition mutex) state
effect state thread (call.Signal condition) = by_objects (λ objects. signal objects condition) state
effect state thread (call.Broadcast condition) = by_objects (λ objects. broadcast objects condition) state
effect state thread (call.Barrier number count) = by_objects (λ objects. barrier objects thread number count) state
effect state thread (call.Write address count) = write state address count
effect state thread (call.Read address count) = read state address count
effect state thread (call.Memory count) = new_pages state count
effect state thread call.Sync = answered Done state
effect state thread (call.Release address count) = release state address count
effect state thread (call.Unknown number) = answered NoSuchCall state

-- a thread whose call is finished, with its status as it was
abbrev pub call_finished : Code → Option ℕ → Thread → Thread
call_finished code value thread = record thread { hart = finished thread.hart code value }

-- the threads after a call that came to this for its caller: a completed call is finished in its hart, and who waits is blocked
abbrev pub after_reply : List Thread → ℕ → Reply → List Thread
after_reply threads thread (Completed code value) = with_thread threads thread (call_finished code value)
after_reply threads thread Waits = with_status threads thread Blocked
after_reply threads thread Ends = threads

-- the state after a call
unfoldable pub settled : ℕ → Effect → State
settled thread outcome = record outcome.state { threads = after_reply outcome.state.threads thread outcome.reply }
