use Rattle.std.proofs.Common.{◌≡◌, ◌∙◌, List, refl, subst, sym}
use Rattle.races.specs.Linked.{latest_in}
use Rattle.races.specs.Words.{IsKept}
use Rattle.races.specs.declared.kept_access.KeptAccess.{KeptAccess}
use Rattle.races.proofs.Linked.{kept_push, latest_push}
use Rattle.races.proofs.page_history.PageHistory.push_first.Goals as goal

pub returns : goal.returns
returns c =
    let old = c.args.self.now.entries.items in
    let new : KeptAccess = record { latest = c.args.own; place = c.args.place; next = 0 } in
    let pushed = sym (c.set_guess.ensures ∙ c.in_ok-push.ensures.items) in
    record {
      own = subst (λ (all : List KeptAccess). IsKept c.args.own (latest_in old c.args.place) (latest_in all c.args.place)) pushed (kept_push old new c.args.own refl);
      others = λ other apart. subst (λ (all : List KeptAccess). latest_in all other ≡ latest_in old other) pushed (latest_push old new other apart);
    }
