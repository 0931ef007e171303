use Rattle.std.proofs.Common.{◌≡◌, ◌*◌, ◌/◌, ◌≤◌, length, ◌∙◌, arith}
use Rattle.twins.proofs.Places.{leaves-bound, place_in-grown}
use Rattle.twins.proofs.place_table.PlaceTable.reserve.Goals as goal

pub push_zeros-requires : goal.push_zeros-requires
push_zeros-requires c =
    let most : length c.args.self.now.leaves.items ≤ 1024 * 1024 = leaves-bound c.args.self.now.groups c.args.self.now.leaves.items c.args.self.now.shape in omega arith

pub overflow_cast-self : goal.overflow_cast-self
overflow_cast-self c =
    let most : length c.args.self.now.leaves.items ≤ 1024 * 1024 = leaves-bound c.args.self.now.groups c.args.self.now.leaves.items c.args.self.now.shape in
    let size : c.len.result ≡ length c.args.self.now.leaves.items = c.len.ensures ∙ c.args.self.now.leaves.ok.0 in omega arith

pub returns-in_ok-push_zeros-clause-same : goal.returns-in_ok-push_zeros-clause-same
returns-in_ok-push_zeros-clause-same c =
    let size : c.len.result ≡ length c.args.self.now.leaves.items = c.len.ensures ∙ c.args.self.now.leaves.ok.0 in
    rw (c.in_ok-push_zeros.ensures.grown, size) (place_in-grown c.args.self.now.groups c.args.self.now.leaves.items c.args.self.now.shape (c.args.number / 1024) (omega arith) c.if-self-group-eq0.true)
