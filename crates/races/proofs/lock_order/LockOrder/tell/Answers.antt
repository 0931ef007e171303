use Rattle.std.proofs.Common.{◌∷◌, ◌∙◌, [], ap, subst, sym}
use Rattle.std.proofs.lemmas.List.{append-nil}
use Rattle.std.proofs.lemmas.Result.{on_ok_weaker}
use Rattle.races.specs.LibraryUsers.{user_in}
use Rattle.races.specs.LockRecording.{KnowsOrder}
use Rattle.races.specs.declared.library_users.LibraryUsers.{LibraryUsers}
use Rattle.races.proofs.Locking.{order_records_more}
use Rattle.races.proofs.lock_order.LockOrder.tell.Goals as goal

pub returns-in-Some : goal.returns-in-Some
returns-in-Some c =
    on_ok_weaker c.take.result
    (λ more.
    order_records_more c.args.self.now c.take.new.self c.args.event.now (c.in-Some.hint ∷ [])
    (λ thread. ap (λ (all : LibraryUsers). user_in all thread) c.take.ensures.users ∙ c.note.ensures thread) c.in-Some.ensures more)
    c.take.ensures.more

pub returns-in-None : goal.returns-in-None
returns-in-None c =
    let old = c.args.self.now in
    order_records_more old (record old { users = c.note.new.self }) c.args.event.now [] c.note.ensures c.in-None.ensures
    (λ hints knows. subst (KnowsOrder old.holdings.held.items old.crossings) (sym (append-nil hints)) knows)
