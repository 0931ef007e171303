use Rattle.std.proofs.Common.{◌≡◌, ◌+◌, ◌-◌, length, take, ◌∙◌, arith}
use Rattle.std.proofs.lemmas.List.{take_all}
use Rattle.twins.proofs.place_table.push_zeros.Goals as goal

pub returns-clause-grown : goal.returns-clause-grown
returns-clause-grown c =
    let size : c.len.result ≡ length c.args.leaves.now.items = c.len.ensures ∙ c.args.leaves.now.ok.0 in
    let all : take (c.len.result + 1024) c.args.leaves.now.items ≡ c.args.leaves.now.items = take_all (c.len.result + 1024) c.args.leaves.now.items (omega arith) in
    let more : c.len.result + 1024 - c.args.leaves.now.len ≡ 1024 = omega arith in
    rw (c.in_ok-resize.ensures.items, all, more)
