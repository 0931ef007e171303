use Rattle.std.proofs.Common.{◌≡◌, ◌*◌, ◌/◌, ◌∙◌, sym, arith}
use Rattle.std.proofs.lemmas.List.Elements.{All-more}
use Rattle.sharing_report.proofs.page_states.same_page.Goals as goal

pub loop-count-preserved : goal.loop-count-preserved
loop-count-preserved c =
    All-more (λ address. address / 4096 * 4096 ≡ c.args.page) c.args.addresses.now c.loop-count.count 0 (omega arith) c.loop-count.invariant (sym c.page_of.ensures ∙ c.if-page_of-page.false)
