-- An access is no hint: it changes nothing that the recorders of hints keep.
use Rattle.std.proofs.Common.{[], refl, subst, sym}
use Rattle.std.proofs.lemmas.List.{append-nil}
use Rattle.races.specs.LockRecording.{KnowsOrder, OrderRecordsMore}
use Rattle.races.specs.MisuseRecording.{MisuseRecordsMore}
use Rattle.races.specs.declared.lock_order.LockOrder.{LockOrder}
use Rattle.races.specs.declared.misuse_recorder.MisuseRecorder.{MisuseRecorder}
use Rattle.races.specs.declared.observed_event.ObservedEvent.TheVariants.{Access as Accessed}
use Rattle.races.specs.declared.site.Access.{Access}
use Rattle.races.proofs.Locking.{KnowsMisuses, misuse_records_more, order_records_more}

pub order_at_access : (recorder : LockOrder) (access : Access) → OrderRecordsMore recorder (Accessed access) recorder
order_at_access recorder access =
    order_records_more recorder recorder (Accessed access) [] (λ thread. refl) refl
    (λ hints knows. subst (KnowsOrder recorder.holdings.held.items recorder.crossings) (sym (append-nil hints)) knows)

pub misuse_at_access : (recorder : MisuseRecorder) (access : Access) → MisuseRecordsMore recorder (Accessed access) recorder
misuse_at_access recorder access =
    misuse_records_more recorder recorder (Accessed access) [] (λ thread. refl) refl
    (λ hints knows. subst (KnowsMisuses recorder.holdings.held.items recorder.misuses.items) (sym (append-nil hints)) knows)
