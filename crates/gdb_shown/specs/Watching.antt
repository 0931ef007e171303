-- What gdb saw last of the watched ranges, and what was told of them.
use Rattle.std.specs.Prelude.{◌≡◌, ℕ, ◌+◌, ◌==◌, ◌&&◌, ◌||◌, Bool, true, false, not, nat_eq, nat_le, nat_lt, if◌then◌else◌, Option, Some, None, option_map, List, [], map, filter}
use Rattle.std.specs.Cmp.Lexicographic.{pointwise}
use Rattle.std.specs.List.{list_all}
use Rattle.marked_memory.specs.declared.watch.Watch.{Watch}
use Rattle.marked_memory.specs.declared.watch.WatchKind.{WatchKind}
use Rattle.marked_memory.specs.declared.watch.WatchKind.TheVariants.{Store, Load, Access}
use Rattle.timeline.specs.Moment.{Moment}
use Rattle.gdb_shown.specs.Memory.{bytes_shown}
use Rattle.gdb_shown.specs.declared.seen_range.SeenRange.{SeenRange}
use Rattle.gdb_shown.specs.declared.watching.WatchHit.{WatchHit}
use Rattle.gdb_shown.specs.declared.watching.Watching.{Watching}

-- a range of addresses, and the bytes that gdb saw last of it if they are known
pub record Range : Type 0 where
  pub start : ℕ
  pub len : ℕ
  pub bytes : Option (List ℕ)

abbrev pub range_of : SeenRange → Range
range_of seen = record { start = seen.start; len = seen.len; bytes = option_map (λ bytes. bytes.items) seen.bytes }

abbrev pub ranges_of : Watching → List Range
ranges_of watching = map range_of watching.seen.items

-- whether an address is in a range
abbrev pub has : Range → ℕ → Bool
has range address = nat_le range.start address && nat_lt address (range.start + range.len)

-- whether these are the bytes that are known
abbrev pub is_bytes : Option (List ℕ) → List ℕ → Bool
is_bytes None bytes = false
is_bytes (Some seen) bytes = pointwise nat_eq seen bytes

-- whether it is the range of so many addresses from this one on
abbrev pub is_at : Range → (start len : ℕ) → Bool
is_at range start len = range.start == start && range.len == len

-- whether a range is another one than that, or these bytes were seen of it
abbrev pub agrees : Range → (start len : ℕ) → List ℕ → Bool
agrees range start len bytes = not (is_at range start len) || is_bytes range.bytes bytes

-- whether nothing else was seen of the range before
abbrev pub is_known : List SeenRange → (start len : ℕ) → List ℕ → Bool
is_known before start len bytes = list_all (λ seen. agrees (range_of seen) start len bytes) before

-- the range of a watch that is seen so: it isn't known what gdb saw if that was something else before
abbrev pub known_by : List SeenRange → Watch → List ℕ → Option (List ℕ)
known_by before watch bytes = if is_known before watch.start watch.len bytes then Some bytes else None

abbrev pub range_by : List SeenRange → Watch → List ℕ → Range
range_by before watch bytes =
    record { start = watch.start; len = watch.len; bytes = known_by before watch bytes }

-- whether it is kept what gdb sees of the range of a watch
abbrev pub is_store : WatchKind → Bool
is_store Store = true
is_store Load = false
is_store Access = false

abbrev pub is_kept : Watch → Bool
is_kept watch = is_store watch.kind && nat_le watch.len 4096

-- the ranges where the run resumes, as a thread sees them
abbrev pub armed : Moment → List SeenRange → List Watch → ℕ → List Range
armed moment before watches thread = map (λ watch. range_by before watch (bytes_shown moment thread watch.start watch.len)) (filter is_kept watches)

-- what a thread sees of a range
abbrev pub look_at : Moment → (thread : ℕ) → Range → List ℕ
look_at moment thread range = bytes_shown moment thread range.start range.len

-- the range as it sees it
abbrev pub seen_by : Moment → (thread : ℕ) → Range → Range
seen_by moment thread range = record range { bytes = Some (look_at moment thread range) }

-- nothing was seen, and nothing was told
pub record IsBlank (watching : Watching) : Type 0 where
  pub seen : ranges_of watching ≡ []
  pub told : watching.told ≡ None
  pub others : watching.others.items ≡ []

-- whether a thread sees the range of a watch otherwise than gdb saw it last
abbrev pub is_anew : Moment → List SeenRange → Watch → (thread : ℕ) → Bool
is_anew moment seen watch thread = is_kept watch && not (is_known seen watch.start watch.len (bytes_shown moment thread watch.start watch.len))

-- an event of a watch, of a step of a thread: it is still if the thread sees the range anew
abbrev pub event_of : Moment → List SeenRange → Watch → (thread : ℕ) → WatchHit
event_of moment seen watch thread = record { thread = thread; address = watch.start; is_still = is_anew moment seen watch thread }

-- the ranges once the event is told: gdb sees that of the watch as the thread sees it
abbrev pub seen_with : Moment → Watch → (thread : ℕ) → Range → Range
seen_with moment watch thread range = if is_at range watch.start watch.len then seen_by moment thread range else range

abbrev pub seen_told : Moment → Watch → (thread : ℕ) → List Range → List Range
seen_told moment watch thread ranges = if is_kept watch then map (seen_with moment watch thread) ranges else ranges

-- whether a step over a told event changed what its thread sees of a range
abbrev pub is_changed : Moment → (thread : ℕ) → (before : List SeenRange) → Range → Bool
is_changed moment thread before range = not (is_known before range.start range.len (look_at moment thread range))

-- a range after that step: gdb sees it if it has the told address, or the step changed it
abbrev pub after_step : Moment → WatchHit → (before : List SeenRange) → Range → Range
after_step moment told before range =
    if has range told.address || is_changed moment told.thread before range then seen_by moment told.thread range else range

-- what is told next: of each other range that the step changed
abbrev pub is_other : Moment → WatchHit → (before : List SeenRange) → Range → Bool
is_other moment told before range = not (has range told.address) && is_changed moment told.thread before range

abbrev pub other_of : (thread : ℕ) → Range → WatchHit
other_of thread range = record { thread = thread; address = range.start; is_still = true }

abbrev pub others_of : Moment → WatchHit → (before : List SeenRange) → List Range → List WatchHit
others_of moment told before ranges = map (other_of told.thread) (filter (is_other moment told before) ranges)

-- what was told last, if this is told
abbrev pub tells : Option WatchHit → Option WatchHit → Option WatchHit
tells None before = before
tells (Some told) before = Some told
