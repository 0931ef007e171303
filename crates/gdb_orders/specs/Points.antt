-- The breakpoints and watchpoints of a session.
use Rattle.std.specs.Prelude.{◌≡◌, ℕ, ◌-◌, ◌^◌, ◌==◌, ◌&&◌, Bool, true, false, not, nat_lt, nat_le, min, if◌then◌else◌, Option, Some, None, option_and_then, List, [], ◌∷◌, ◌++◌}
use Rattle.std.specs.List.{filter, list_any}
use Rattle.gdb_packets.specs.declared.packet_request.PointKind.{PointKind}
use Rattle.gdb_packets.specs.declared.packet_request.PointKind.TheVariants.{Software, Hardware, Write, Read, Access}
use Rattle.gdb_packets.specs.declared.window.Window.{Window}
use Rattle.marked_memory.specs.declared.watch.Watch.{Watch}
use Rattle.marked_memory.specs.declared.watch.WatchKind.{WatchKind}
use Rattle.marked_memory.specs.declared.watch.WatchKind.TheVariants as watched
use Rattle.gdb_orders.specs.declared.points.Points.{Points}

-- what a watchpoint looks for
abbrev pub watched_by : PointKind → Option WatchKind
watched_by Software = None
watched_by Hardware = None
watched_by Write = Some watched.Store
watched_by Read = Some watched.Load
watched_by Access = Some watched.Access

-- whether a range isn't empty and doesn't go past all addresses
abbrev pub is_range : Window → Bool
is_range window = nat_lt window.start (2 ^ 32) && nat_lt 0 window.length && nat_le window.length (2 ^ 32 - window.start)

-- the watch of a range, none if there is no such range
abbrev pub watch_of : PointKind → Window → Option Watch
watch_of kind window =
    if is_range window then option_and_then (λ kind. Some (record { start = window.start; len = min window.length (2 ^ 32 - 1); kind = kind })) (watched_by kind) else None

-- whether a point can be set
abbrev pub can_be : PointKind → Window → Bool
can_be Software window = true
can_be Hardware window = true
can_be Write window = is_range window
can_be Read window = is_range window
can_be Access window = is_range window

-- an address among others, once, if an instruction can have it
abbrev pub with_address : List ℕ → ℕ → List ℕ
with_address addresses address = if nat_lt address (2 ^ 32) && not (list_any (λ other. other == address) addresses) then addresses ++ address ∷ [] else addresses

abbrev pub without_address : List ℕ → ℕ → List ℕ
without_address addresses address = filter (λ other. not (other == address)) addresses

abbrev pub is_same_kind : WatchKind → WatchKind → Bool
is_same_kind watched.Store watched.Store = true
is_same_kind watched.Load watched.Load = true
is_same_kind watched.Access watched.Access = true
is_same_kind _ _ = false

abbrev pub is_same : Watch → Watch → Bool
is_same one other = one.start == other.start && one.len == other.len && is_same_kind one.kind other.kind

-- a watch among others, once
abbrev pub with_watch : List Watch → Option Watch → List Watch
with_watch watches None = watches
with_watch watches (Some watch) = if list_any (λ other. is_same other watch) watches then watches else watches ++ watch ∷ []

abbrev pub without_watch : List Watch → Option Watch → List Watch
without_watch watches None = watches
without_watch watches (Some watch) = filter (λ other. not (is_same other watch)) watches

-- these breakpoints and watches
pub record Has (points : Points) (soft hard : List ℕ) (watched : List Watch) : Type 0 where
  pub software : points.software.items ≡ soft
  pub hardware : points.hardware.items ≡ hard
  pub watches : points.watches.items ≡ watched

-- and the breakpoints of both kinds together
pub record HasAll (points : Points) (soft hard : List ℕ) (watched : List Watch) : Type 0 where
  pub each : Has points soft hard watched
  pub addresses : points.addresses.items ≡ soft ++ hard

-- A point is set from now on.
abbrev pub IsSet : Points → Points → PointKind → Window → Type 0
IsSet old new Software window = HasAll new (with_address old.software.items window.start) old.hardware.items old.watches.items
IsSet old new Hardware window = HasAll new old.software.items (with_address old.hardware.items window.start) old.watches.items
IsSet old new Write window = Has new old.software.items old.hardware.items (with_watch old.watches.items (watch_of Write window))
IsSet old new Read window = Has new old.software.items old.hardware.items (with_watch old.watches.items (watch_of Read window))
IsSet old new Access window = Has new old.software.items old.hardware.items (with_watch old.watches.items (watch_of Access window))

-- A point isn't set any more.
abbrev pub IsCleared : Points → Points → PointKind → Window → Type 0
IsCleared old new Software window = HasAll new (without_address old.software.items window.start) old.hardware.items old.watches.items
IsCleared old new Hardware window = HasAll new old.software.items (without_address old.hardware.items window.start) old.watches.items
IsCleared old new Write window = Has new old.software.items old.hardware.items (without_watch old.watches.items (watch_of Write window))
IsCleared old new Read window = Has new old.software.items old.hardware.items (without_watch old.watches.items (watch_of Read window))
IsCleared old new Access window = Has new old.software.items old.hardware.items (without_watch old.watches.items (watch_of Access window))
