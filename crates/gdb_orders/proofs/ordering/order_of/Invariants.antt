use Rattle.std.proofs.Common.{◌≡◌, drop}
use Rattle.std.specs.List.{list_all}
use Rattle.std.specs.Option.{option_or}
use Rattle.gdb_orders.specs.Orders.{default_of, first_of, is_listed, named_of}
use Rattle.gdb_orders.proofs.ordering.order_of.Given as goal

abbrev pub invariant-loop-place : goal.invariant-loop-place
invariant-loop-place l =
    record {
      default : option_or l.default (first_of default_of (drop l.place l.actions)) ≡ first_of default_of l.actions;
      named : option_or l.named (first_of (named_of l.selection.stopped l.listed) (drop l.place l.actions)) ≡ first_of (named_of l.selection.stopped l.listed) l.actions;
      listed : list_all (is_listed l.listed) (drop l.place l.actions) ≡ list_all (is_listed l.listed) l.actions;
    }
