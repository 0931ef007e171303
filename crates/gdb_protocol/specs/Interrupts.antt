-- What becomes of an interrupt: the byte 03.
use Rattle.std.specs.Prelude.{◌≡◌, ◌&&◌, Bool, true, false, not, nat_lt, Option, Some, None}
use Rattle.gdb_orders.specs.declared.order.Order.{Order}
use Rattle.gdb_orders.specs.declared.order.Order.TheVariants.{Continue, Step}
use Rattle.gdb_orders.specs.declared.order.Stepper.{Stepper}
use Rattle.gdb_protocol.specs.Moves.{Stands}
use Rattle.gdb_protocol.specs.declared.pursuit.Pursuit.{Pursuit}
use Rattle.gdb_protocol.specs.declared.pursuit.Pursuit.TheVariants as pursuit
use Rattle.gdb_protocol.specs.declared.session.Session.{Session}

-- a step of one instruction of a thread alone
abbrev pub is_one_alone : Stepper → Bool
is_one_alone stepper = stepper.is_alone && not (nat_lt stepper.start stepper.end)

-- whether it waits for what gdb goes on with next: nothing is pursued, or one instruction of a thread alone
abbrev pub waits_for_next : Option Pursuit → Bool
waits_for_next None = true
waits_for_next (Some (pursuit.BackStep thread is_alone)) = is_alone
waits_for_next (Some (pursuit.Turn stepper)) = is_one_alone stepper
waits_for_next (Some (pursuit.First stepper)) = is_one_alone stepper
waits_for_next (Some _) = false

-- whether an order goes on until something stops the run
abbrev pub is_continue : Order → Bool
is_continue (Continue alone) = true
is_continue (Step stepper) = false

-- The run stands where it stood, and stops there. The interrupt is taken.
pub record IsInterrupted (old new : Session) : Type 0 where
  pub stands : Stands old new
  pub stopped : new.pursuit ≡ None
  pub taken : new.is_interrupted ≡ false
