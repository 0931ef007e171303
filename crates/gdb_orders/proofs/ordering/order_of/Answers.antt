use Rattle.std.proofs.Common.{◌≡◌, ◌∙◌, ◌+◌, true, drop, sym, ap, refl}
use Rattle.std.specs.List.{list_all}
use Rattle.std.specs.Option.{option_or}
use Rattle.gdb_orders.specs.Orders.{default_of, first_of, is_listed, named_of}
use Rattle.gdb_orders.proofs.Each.{all_left, all_more, found_more, none_left}
use Rattle.gdb_orders.proofs.ordering.order_of.Goals as goal

pub loop-place-preserved : goal.loop-place-preserved
loop-place-preserved c =
    let actions = c.args.actions.now in
    let place = c.loop-place.place in
    let stopped = c.args.selection.now.stopped in
    let listed = c.args.listed in
    let within = c.loop-place-test.true in
    let invariant = c.loop-place.invariant in
    record {
      default =
          ap (λ found. option_or found (first_of default_of (drop (place + 1) actions))) (c.or-default.ensures ∙ ap (option_or c.loop-place.default) c.default_of.ensures)
          ∙ found_more default_of actions place _ c.loop-place.default within ∙ invariant.default;
      named =
          ap (λ found. option_or found (first_of (named_of stopped listed) (drop (place + 1) actions))) (c.or-named.ensures ∙ ap (option_or c.loop-place.named) c.named_of.ensures)
          ∙ found_more (named_of stopped listed) actions place _ c.loop-place.named within ∙ invariant.named;
      listed = all_more (is_listed listed) actions place _ within (sym c.is_listed.ensures ∙ c.if-not-is_listed.false) ∙ invariant.listed;
    }

pub returns : goal.returns
returns c =
    let actions = c.args.actions.now in
    let place = c.loop-place.place in
    let stopped = c.args.selection.now.stopped in
    let listed = c.args.listed in
    let past = c.loop-place-test.false in
    let invariant = c.loop-place.invariant in
    let default = sym (none_left default_of actions place c.loop-place.default past) ∙ invariant.default in
    let named = sym (none_left (named_of stopped listed) actions place c.loop-place.named past) ∙ invariant.named in
    let all : list_all (is_listed listed) actions ≡ true = sym invariant.listed ∙ all_left (is_listed listed) actions place past in
    c.ordered.ensures ∙ rw (default, named, all) refl
