use Rattle.std.proofs.Common.{◌∷◌, ◌∙◌, [], ap, subst, sym}
use Rattle.std.proofs.lemmas.List.{append-nil}
use Rattle.std.proofs.lemmas.Result.{on_ok_weaker}
use Rattle.races.specs.LibraryUsers.{user_in}
use Rattle.races.specs.declared.library_users.LibraryUsers.{LibraryUsers}
use Rattle.races.proofs.Locking.{KnowsMisuses, misuse_more, misuse_records_more, on_ok_both}
use Rattle.races.proofs.misuse_recorder.MisuseRecorder.tell.Goals as goal

pub returns-in-Some : goal.returns-in-Some
returns-in-Some c =
    let old = c.args.self.now in
    let new = c.take.new.self in
    let hint = c.in-Some.hint in
    on_ok_weaker c.take.result
    (λ both.
    misuse_records_more old new c.args.event.now (hint ∷ []) (λ thread. ap (λ (all : LibraryUsers). user_in all thread) c.take.ensures.users ∙ c.note.ensures thread) c.in-Some.ensures
    (misuse_more old.holdings.held.items old.misuses.items new.holdings.held.items new.misuses.items hint both.0 both.1))
    (on_ok_both c.take.result _ _ c.take.ensures.held c.take.ensures.misuses)

pub returns-in-None : goal.returns-in-None
returns-in-None c =
    let old = c.args.self.now in
    misuse_records_more old (record old { users = c.note.new.self }) c.args.event.now [] c.note.ensures c.in-None.ensures
    (λ hints knows. subst (KnowsMisuses old.holdings.held.items old.misuses.items) (sym (append-nil hints)) knows)
