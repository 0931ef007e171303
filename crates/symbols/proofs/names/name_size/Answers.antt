use Rattle.std.proofs.Common.{◌≡◌, ◌+◌, Bool, true, false, cond, Some, None, ap, sym, ◌∙◌}
use Rattle.std.specs.Prelude.{◌==◌, position, slice_range}
use Rattle.symbols.specs.Names.{is_name}
use Rattle.symbols.proofs.Reaching.{name_at-found, rest_part, take-min}
use Rattle.symbols.proofs.names.name_size.Goals as goal

pub returns-in_err-size-clause-name : goal.returns-in_err-size-clause-name
returns-in_err-size-clause-name c =
    let rest = c.in_ok-rest.ensures.lookup.0 in
    let near = take-min c.in_ok-rest.rest.now c.min.result 256 c.min.ensures ∙ rest_part c.args.strings.now c.in_ok-rest.rest.now c.args.offset 256 rest.0 rest.2 in
    let none = ap (position (λ byte. byte == 0)) (sym near) ∙ sym c.first_zero.ensures ∙ c.in_err-size.was in
    rw c.from_residual-in_err-size.ensures (sym (name_at-found c.args.strings.now c.args.offset None none))

pub returns-then-is_name-clause-name : goal.returns-then-is_name-clause-name
returns-then-is_name-clause-name c =
    let rest = c.in_ok-rest.ensures.lookup.0 in
    let near = take-min c.in_ok-rest.rest.now c.min.result 256 c.min.ensures ∙ rest_part c.args.strings.now c.in_ok-rest.rest.now c.args.offset 256 rest.0 rest.2 in
    let found = ap (position (λ byte. byte == 0)) (sym near) ∙ sym c.first_zero.ensures ∙ c.in_ok-size.was in
    let name = rest_part c.args.strings.now c.in_ok-rest.rest.now c.args.offset c.in_ok-size.size rest.0 rest.2 in
    let says : is_name (slice_range c.args.strings.now c.args.offset (c.args.offset + c.in_ok-size.size)) ≡ true = ap is_name (sym name) ∙ sym c.is_name.ensures ∙ c.if-is_name.true in
    sym (name_at-found c.args.strings.now c.args.offset (Some c.in_ok-size.size) found ∙ ap (λ (b : Bool). cond b (Some (slice_range c.args.strings.now c.args.offset (c.args.offset + c.in_ok-size.size))) None) says)

pub returns-else-is_name-clause-name : goal.returns-else-is_name-clause-name
returns-else-is_name-clause-name c =
    let rest = c.in_ok-rest.ensures.lookup.0 in
    let near = take-min c.in_ok-rest.rest.now c.min.result 256 c.min.ensures ∙ rest_part c.args.strings.now c.in_ok-rest.rest.now c.args.offset 256 rest.0 rest.2 in
    let found = ap (position (λ byte. byte == 0)) (sym near) ∙ sym c.first_zero.ensures ∙ c.in_ok-size.was in
    let name = rest_part c.args.strings.now c.in_ok-rest.rest.now c.args.offset c.in_ok-size.size rest.0 rest.2 in
    let says : is_name (slice_range c.args.strings.now c.args.offset (c.args.offset + c.in_ok-size.size)) ≡ false = ap is_name (sym name) ∙ sym c.is_name.ensures ∙ c.if-is_name.false in
    sym (name_at-found c.args.strings.now c.args.offset (Some c.in_ok-size.size) found ∙ ap (λ (b : Bool). cond b (Some (slice_range c.args.strings.now c.args.offset (c.args.offset + c.in_ok-size.size))) None) says)
