-- What the actions of a packet that resumes order.
use Rattle.std.specs.Prelude.{ℕ, ◌-◌, ◌^◌, ◌&&◌, Bool, true, false, nat_lt, nat_le, min, if◌then◌else◌, Option, Some, None, option_map, is_some, List, [], ◌∷◌}
use Rattle.std.specs.List.{list_all}
use Rattle.std.specs.Option.{option_or}
use Rattle.gdb_packets.specs.declared.action.Action.{Action}
use Rattle.gdb_packets.specs.declared.action.Motion.{Motion}
use Rattle.gdb_packets.specs.declared.action.Motion.TheVariants as motion
use Rattle.gdb_packets.specs.declared.action.Scope.{Scope}
use Rattle.gdb_packets.specs.declared.action.Scope.TheVariants.{Others, Named}
use Rattle.gdb_packets.specs.declared.thread_id.ThreadId.TheVariants.{Any, All, One}
use Rattle.gdb_orders.specs.declared.order.Order.{Order}
use Rattle.gdb_orders.specs.declared.order.Order.TheVariants.{Continue, Step}
use Rattle.gdb_orders.specs.declared.order.Stepper.{Stepper}

-- the number of a listed thread, by its id: ids begin with 1
abbrev pub thread_of : ℕ → ℕ → Option ℕ
thread_of id listed = if nat_lt 0 id && nat_le id listed then Some (id - 1) else None

-- who moves alone

abbrev pub only_if : Bool → ℕ → Option ℕ
only_if is_alone thread = if is_alone then Some thread else None

abbrev pub alone_in : Stepper → Option ℕ
alone_in stepper = only_if stepper.is_alone stepper.thread

abbrev pub alone_of : Order → Option ℕ
alone_of (Continue alone) = alone
alone_of (Step stepper) = alone_in stepper

-- whether it is a step of such a kind
abbrev pub is_step : Order → (Stepper → Bool) → Bool
is_step (Continue alone) kind = false
is_step (Step stepper) kind = kind stepper

-- what a motion orders

-- an address, the last one if it is beyond all
abbrev pub clipped : ℕ → ℕ
clipped address = min address (2 ^ 32 - 1)

abbrev pub order_by : Motion → ℕ → Bool → Order
order_by motion.Continue thread is_alone = Continue (only_if is_alone thread)
order_by motion.Step thread is_alone = Step (record { thread = thread; start = 0; end = 0; is_alone = is_alone })
order_by (motion.Range start end) thread is_alone = Step (record { thread = thread; start = clipped start; end = clipped end; is_alone = is_alone })

-- of all threads: a step is one of the thread of the last stop
abbrev pub order_of_all : Motion → ℕ → Order
order_of_all motion.Continue stopped = Continue None
order_of_all motion.Step stopped = order_by motion.Step stopped false
order_of_all (motion.Range start end) stopped = order_by (motion.Range start end) stopped false

-- of the thread that moves, or of all
abbrev pub order_selected : Motion → Option ℕ → ℕ → Order
order_selected motion None stopped = order_of_all motion stopped
order_selected motion (Some thread) stopped = order_by motion thread true

-- what actions order

-- whether the thread that an action names is listed
abbrev pub is_listed_in : ℕ → Scope → Bool
is_listed_in listed Others = true
is_listed_in listed (Named All) = true
is_listed_in listed (Named Any) = true
is_listed_in listed (Named (One id)) = is_some (thread_of id listed)

abbrev pub is_listed : ℕ → Action → Bool
is_listed listed action = is_listed_in listed action.scope

-- the motion of all threads that no action names
abbrev pub default_in : Motion → Scope → Option Motion
default_in motion Others = Some motion
default_in motion (Named All) = Some motion
default_in motion (Named Any) = None
default_in motion (Named (One id)) = None

abbrev pub default_of : Action → Option Motion
default_of action = default_in action.motion action.scope

-- the motion of a thread that an action names: of any is of that of the last stop
abbrev pub named_in : ℕ → ℕ → Motion → Scope → Option (Motion × ℕ)
named_in stopped listed motion Others = None
named_in stopped listed motion (Named All) = None
named_in stopped listed motion (Named Any) = Some (motion, stopped)
named_in stopped listed motion (Named (One id)) = option_map (λ thread. (motion, thread)) (thread_of id listed)

abbrev pub named_of : ℕ → ℕ → Action → Option (Motion × ℕ)
named_of stopped listed action = named_in stopped listed action.motion action.scope

-- what the first of some actions gives that gives something
unfoldable pub first_of : {X : Type 0} → (Action → Option X) → List Action → Option X
first_of gives [] = None
first_of gives (action ∷ actions) = option_or (gives action) (first_of gives actions)

-- A thread that is named moves as its action says, alone if there is nothing for the others. If it is to go on as they are, all do as
-- they do.
abbrev pub ordered : Option (Motion × ℕ) → Option Motion → ℕ → Option Order
ordered None None stopped = None
ordered None (Some default) stopped = Some (order_of_all default stopped)
ordered (Some (motion, thread)) None stopped = Some (order_by motion thread true)
ordered (Some (motion.Continue, thread)) (Some default) stopped = Some (order_of_all default stopped)
ordered (Some (motion.Step, thread)) (Some default) stopped = Some (order_by motion.Step thread false)
ordered (Some (motion.Range start end, thread)) (Some default) stopped = Some (order_by (motion.Range start end) thread false)

-- None if an action names a thread that isn't listed, or there is none.
abbrev pub order_of : List Action → ℕ → ℕ → Option Order
order_of actions stopped listed =
    if list_all (is_listed listed) actions then ordered (first_of (named_of stopped listed) actions) (first_of default_of actions) stopped else None
