-- What the recorders of locks have recorded with one event more.
use Rattle.std.proofs.Common.{◌≡◌, ℕ, zero, suc, get_or, replicate, List, [], ◌∷◌, ◌++◌, refl, sym, ◌∙◌, ap, subst, append_assoc, Ok, Err, Result}
use Rattle.std.specs.Prelude.{OnOk, fold}
use Rattle.std.proofs.Math.Path.{fun_ext}
use Rattle.std.proofs.lemmas.Grind.{fold-append}
use Rattle.std.proofs.lemmas.List.{append-nil}
use Rattle.races.specs.LibraryUsers.{user_after, user_in, users_from, users_in, hints_from, hints_in, hints_of, nobody}
use Rattle.races.specs.Firsts.{firsts, with_new}
use Rattle.races.specs.Holding.{held_after, held_in}
use Rattle.races.specs.LockOrder.{Acquired, KnowsCrossings, acquired_at, acquired_from, acquired_in}
use Rattle.races.specs.LockRecording.{KnowsOrder, OrderRecordsMore, OrdersMore}
use Rattle.races.specs.MisuseRecording.{MisuseRecordsMore}
use Rattle.races.specs.Misuses.{is_same_misuse, misuses_at, misuses_from, misuses_in}
use Rattle.races.specs.declared.called_hint.CalledHint.{CalledHint}
use Rattle.races.specs.declared.library_user.LibraryUser.{LibraryUser}
use Rattle.races.specs.declared.holding.Holding.{Holding}
use Rattle.races.specs.declared.lock_order.LockOrder.{LockOrder}
use Rattle.races.specs.declared.misuse.Misuse.{Misuse}
use Rattle.races.specs.declared.misuse_recorder.MisuseRecorder.{MisuseRecorder}
use Rattle.races.specs.declared.observed_event.ObservedEvent.{ObservedEvent}

pub users_more : (users : ℕ → LibraryUser) (history : List ObservedEvent) (event : ObservedEvent) → users_from users (history ++ event ∷ []) ≡ user_after (users_from users history) event
users_more users [] event = refl
users_more users (first ∷ history) event = users_more (user_after users first) history event

hints_from_more : (users : ℕ → LibraryUser) (history : List ObservedEvent) (event : ObservedEvent) → hints_from users (history ++ event ∷ []) ≡ hints_from users history ++ hints_of (users_from users history) event
hints_from_more users [] event = append-nil (hints_of users event)
hints_from_more users (first ∷ history) event =
    ap (λ (rest : List CalledHint). hints_of users first ++ rest) (hints_from_more (user_after users first) history event)
    ∙ sym (append_assoc (hints_of users first) (hints_from (user_after users first) history) (hints_of (users_from (user_after users first) history) event))

-- the calls and the hints with an event more, by what is kept of the calls
pub users_told : (old new : ℕ → LibraryUser) (history : List ObservedEvent) (event : ObservedEvent) → ((thread : ℕ) → new thread ≡ user_after old event thread) → ((thread : ℕ) → old thread ≡ users_in history thread)
    → (thread : ℕ) → new thread ≡ users_in (history ++ event ∷ []) thread
users_told old new history event step was thread =
    step thread
    ∙ ap (λ (users : ℕ → LibraryUser). user_after users event thread) (fun_ext was)
    ∙ ap (λ (users : ℕ → LibraryUser). users thread) (sym (users_more (λ one. nobody) history event))

pub hints_told : (old : ℕ → LibraryUser) (history : List ObservedEvent) (event : ObservedEvent) → ((thread : ℕ) → old thread ≡ users_in history thread) → hints_in (history ++ event ∷ []) ≡ hints_in history ++ hints_of old event
hints_told old history event was =
    hints_from_more (λ one. nobody) history event
    ∙ ap (λ (users : ℕ → LibraryUser). hints_in history ++ hints_of users event) (sym (fun_ext was))

pub held_more : (hints : List CalledHint) (hint : CalledHint) → held_in (hints ++ hint ∷ []) ≡ held_after (held_in hints) hint
held_more hints hint = fold-append held_after [] hints (hint ∷ [])

acquired_more : (held : List Holding) (hints : List CalledHint) (hint : CalledHint) → acquired_from held (hints ++ hint ∷ []) ≡ acquired_from held hints ++ acquired_at (fold held_after held hints) hint
acquired_more held [] hint = append-nil (acquired_at held hint)
acquired_more held (first ∷ hints) hint =
    ap (λ (rest : List Acquired). acquired_at held first ++ rest) (acquired_more (held_after held first) hints hint)
    ∙ sym (append_assoc (acquired_at held first) (acquired_from (held_after held first) hints) (acquired_at (fold held_after (held_after held first) hints) hint))

-- the order with a hint more
pub orders_more : (old new : LockOrder) (hint : CalledHint) → new.holdings.held.items ≡ held_after old.holdings.held.items hint
    → ((acquired : List Acquired) → KnowsCrossings old.crossings acquired → KnowsCrossings new.crossings (acquired ++ acquired_at old.holdings.held.items hint)) → OrdersMore old hint new
orders_more old new hint held crossings hints knows = record {
  held_is = held ∙ ap (λ (all : List Holding). held_after all hint) knows.held_is ∙ sym (held_more hints hint);
  crossings_are =
      subst (KnowsCrossings new.crossings) (ap (λ (all : List Holding). acquired_in hints ++ acquired_at all hint) knows.held_is ∙ sym (acquired_more [] hints hint))
      (crossings (acquired_in hints) knows.crossings_are);
}

-- with an event more
pub order_records_more : (old new : LockOrder) (event : ObservedEvent) (more : List CalledHint) → ((thread : ℕ) → user_in new.users thread ≡ user_after (user_in old.users) event thread)
    → hints_of (user_in old.users) event ≡ more
    → ((hints : List CalledHint) → KnowsOrder old.holdings.held.items old.crossings hints → KnowsOrder new.holdings.held.items new.crossings (hints ++ more)) → OrderRecordsMore old event new
order_records_more old new event more users is order history records = record {
  users = users_told (user_in old.users) (user_in new.users) history event users records.users;
  order =
      subst (KnowsOrder new.holdings.held.items new.crossings)
      (ap (λ (all : List CalledHint). hints_in history ++ all) (sym is) ∙ sym (hints_told (user_in old.users) history event records.users))
      (order (hints_in history) records.order);
}

misuses_more : (held : List Holding) (hints : List CalledHint) (hint : CalledHint) → misuses_from held (hints ++ hint ∷ []) ≡ misuses_from held hints ++ misuses_at (fold held_after held hints) hint
misuses_more held [] hint = append-nil (misuses_at held hint)
misuses_more held (first ∷ hints) hint =
    ap (λ (rest : List Misuse). misuses_at held first ++ rest) (misuses_more (held_after held first) hints hint)
    ∙ sym (append_assoc (misuses_at held first) (misuses_from (held_after held first) hints) (misuses_at (fold held_after (held_after held first) hints) hint))

-- the misuses with a hint more
pub misuses_told : (hints : List CalledHint) (hint : CalledHint) → misuses_in (hints ++ hint ∷ []) ≡ fold (with_new is_same_misuse) (misuses_in hints) (misuses_at (held_in hints) hint)
misuses_told hints hint = ap (firsts is_same_misuse) (misuses_more [] hints hint) ∙ fold-append (with_new is_same_misuse) [] (misuses_from [] hints) (misuses_at (held_in hints) hint)

-- nothing was told of a thread
pub nobody_there : (count thread : ℕ) → get_or (replicate count nobody) thread nobody ≡ nobody
nobody_there zero thread = refl
nobody_there (suc count) zero = refl
nobody_there (suc count) (suc thread) = nobody_there count thread

-- both of what an `Ok` says
pub on_ok_both : {T E : Type 0} (result : Result T E) (P Q : Type 0) → OnOk result P → OnOk result Q → OnOk result (P × Q)
on_ok_both (Ok value) P Q one other = (one, other)
on_ok_both (Err error) P Q one other = tt

-- what is known of the held locks and the misuses
abbrev pub KnowsMisuses : List Holding → List Misuse → List CalledHint → Type 0
KnowsMisuses held misuses hints = (held ≡ held_in hints) × (misuses ≡ misuses_in hints)

pub misuse_more : (held : List Holding) (misuses : List Misuse) (new_held : List Holding) (new_misuses : List Misuse) (hint : CalledHint) → new_held ≡ held_after held hint
    → new_misuses ≡ fold (with_new is_same_misuse) misuses (misuses_at held hint) → (hints : List CalledHint) → KnowsMisuses held misuses hints → KnowsMisuses new_held new_misuses (hints ++ hint ∷ [])
misuse_more held misuses new_held new_misuses hint held_is misuses_is hints knows = (
  held_is ∙ ap (λ (all : List Holding). held_after all hint) knows.0 ∙ sym (held_more hints hint),
  misuses_is
      ∙ ap (λ (all : List Misuse). fold (with_new is_same_misuse) all (misuses_at held hint)) knows.1
      ∙ ap (λ (all : List Holding). fold (with_new is_same_misuse) (misuses_in hints) (misuses_at all hint)) knows.0
      ∙ sym (misuses_told hints hint),
)

pub misuse_records_more : (old new : MisuseRecorder) (event : ObservedEvent) (more : List CalledHint) → ((thread : ℕ) → user_in new.users thread ≡ user_after (user_in old.users) event thread)
    → hints_of (user_in old.users) event ≡ more
    → ((hints : List CalledHint) → KnowsMisuses old.holdings.held.items old.misuses.items hints → KnowsMisuses new.holdings.held.items new.misuses.items (hints ++ more)) → MisuseRecordsMore old event new
misuse_records_more old new event more users is step history records =
    let hints : hints_in history ++ more ≡ hints_in (history ++ event ∷ []) =
    ap (λ (all : List CalledHint). hints_in history ++ all) (sym is) ∙ sym (hints_told (user_in old.users) history event records.users)
    in
    let knows = step (hints_in history) (records.held, records.misuses) in
    record {
      users = users_told (user_in old.users) (user_in new.users) history event users records.users;
      held = knows.0 ∙ ap held_in hints;
      misuses = knows.1 ∙ ap misuses_in hints;
    }
