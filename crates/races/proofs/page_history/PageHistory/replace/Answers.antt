use Rattle.std.proofs.Common.{◌≡◌, ◌∙◌, List, ap, refl, subst, sym}
use Rattle.races.specs.Linked.{GivesWay, IsAt, latest_in}
use Rattle.races.specs.Words.{IsKept}
use Rattle.races.specs.declared.kept_access.KeptAccess.{KeptAccess}
use Rattle.races.proofs.Linked.{kept_at, latest_set, same_at}
use Rattle.races.proofs.page_history.PageHistory.replace.Goals as goal

pub returns : goal.returns
returns c = λ entry is_at.
    let was : KeptAccess = c.index_mut.result.now in
    let now : KeptAccess = record { latest = c.args.own; place = was.place; next = was.next } in
    let entries = c.args.self.now.entries.items in
    let there : IsAt entries c.args.index was = (is_at.0, sym c.index_mut.ensures.value) in
    let wanted = c.requires in
    let gives : GivesWay was.latest c.args.own = subst (λ (one : KeptAccess). GivesWay one.latest c.args.own) (same_at entries c.args.index wanted.0 was wanted.1 there) wanted.2 in
    record {
      own =
          subst (λ (one : KeptAccess). IsKept c.args.own (latest_in entries one.place) (latest_in c.set_guess.new.self.entries.items one.place)) (same_at entries c.args.index was entry there is_at)
          (subst (λ (all : List KeptAccess). IsKept c.args.own (latest_in entries was.place) (latest_in all was.place)) (sym c.set_guess.ensures) (kept_at entries c.args.index was now c.args.own there gives refl refl));
      others = λ other apart.
          subst (λ (all : List KeptAccess). latest_in all other ≡ latest_in entries other) (sym c.set_guess.ensures)
          (latest_set entries c.args.index was now other there refl (λ same. absurd (apart (ap (λ (one : KeptAccess). one.place) (same_at entries c.args.index entry was is_at there) ∙ same))));
    }
