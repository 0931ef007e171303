use Rattle.std.proofs.Common.{◌∙◌, ap, map, sym}
use Rattle.std.proofs.lemmas.List.{map_push}
use Rattle.races.specs.LockOrder.{are_alike, told}
use Rattle.races.proofs.FirstOf.{any_map, new_more, new_old}
use Rattle.races.proofs.crossings.Crossings.keep.Goals as goal

pub returns-then-is_known-clause-kept : goal.returns-then-is_known-clause-kept
returns-then-is_known-clause-kept c =
    let kept = c.args.self.now.kept.items in
    sym (new_old are_alike (map told kept) (told c.args.own) (any_map (are_alike (told c.args.own)) told kept ∙ sym c.is_known.ensures ∙ c.if-is_known.true))

pub returns-clause-kept : goal.returns-clause-kept
returns-clause-kept c =
    let kept = c.args.self.now.kept.items in
    ap (map told) c.in_ok-push.ensures.items
    ∙ map_push told kept c.args.own
    ∙ sym (new_more are_alike (map told kept) (told c.args.own) (any_map (are_alike (told c.args.own)) told kept ∙ sym c.is_known.ensures ∙ c.if-is_known.false))
