use Rattle.std.proofs.Common.{◌∙◌, sym}
use Rattle.sharing_report.proofs.Noting.{known_inserted, none_from_is_some}
use Rattle.sharing_report.proofs.page_states.add_page.Goals as goal

pub returns-in_ok-insert-clause-known : goal.returns-in_ok-insert-clause-known
returns-in_ok-insert-clause-known c bytes known =
    known_inserted c.args.pages.now c.insert.new.self c.args.page c.in_ok-state.state (λ other. c.in_ok-insert.ensures.updates.0 other) bytes
    (none_from_is_some _ (sym c.contains_key.ensures ∙ c.if-not-contains_key.true)) c.in_ok-state.ensures known
