-- Who gives a hint: the program's thread, and the place in the program that called the library.
use Rattle.std.specs.Prelude.{ℕ, ◌==◌, ◌&&◌, if◌then◌else◌, Bool, true, false, Some, None, List, [], ◌∷◌, ◌++◌, slice_index_or, unwrap_or}
use Rattle.races.specs.declared.called_hint.CalledHint.{CalledHint}
use Rattle.races.specs.declared.library_user.LibraryUser.{LibraryUser}
use Rattle.races.specs.declared.library_users.LibraryUsers.{LibraryUsers}
use Rattle.races.specs.declared.hint_event.HintSite.{HintSite}
use Rattle.races.specs.declared.hint_kind.HintKind.{HintKind}
use Rattle.races.specs.declared.hint_kind.HintKind.TheVariants.{Begin}
use Rattle.races.specs.declared.library_call.LibraryCall.{LibraryCall}
use Rattle.races.specs.declared.observed_event.ObservedEvent.{ObservedEvent}
use Rattle.races.specs.declared.observed_event.ObservedEvent.TheVariants as event

-- a hint tells the program's number of a thread
abbrev pub begins : HintKind → Bool
begins Begin = true
begins kind = false

-- of a thread nothing was told
abbrev pub nobody : LibraryUser
nobody = record { place = None; number = None }

-- what is known of the calls of each thread after an event
abbrev pub user_after : (ℕ → LibraryUser) → ObservedEvent → ℕ → LibraryUser
user_after users (event.Caller thread pc) other = if thread == other then record (users other) { place = Some pc } else users other
user_after users (event.Hint hint) other = if begins hint.kind && (hint.site.thread == other) then record (users other) { number = Some hint.object } else users other
user_after users event other = users other

-- the call of the library that gave a hint
abbrev pub call_of : LibraryUser → HintSite → LibraryCall
call_of user site = record { turn = site.turn; instruction = site.instruction; pc = unwrap_or user.place site.pc; thread = unwrap_or user.number site.thread }

-- the hint that an event is
abbrev pub hints_of : (ℕ → LibraryUser) → ObservedEvent → List CalledHint
hints_of users (event.Hint hint) = record { call = call_of (users hint.site.thread) hint.site; kind = hint.kind; object = hint.object } ∷ []
hints_of users event = []

-- the hints of some events, and what is known of the calls after them
abbrev pub hints_from : (ℕ → LibraryUser) → List ObservedEvent → List CalledHint
hints_from users [] = []
hints_from users (event ∷ events) = hints_of users event ++ hints_from (user_after users event) events

abbrev pub users_from : (ℕ → LibraryUser) → List ObservedEvent → ℕ → LibraryUser
users_from users [] = users
users_from users (event ∷ events) = users_from (user_after users event) events

-- the same of a run
abbrev pub hints_in : List ObservedEvent → List CalledHint
hints_in history = hints_from (λ thread. nobody) history

abbrev pub users_in : List ObservedEvent → ℕ → LibraryUser
users_in history = users_from (λ thread. nobody) history

-- what is kept of a thread's calls
abbrev pub user_in : LibraryUsers → ℕ → LibraryUser
user_in users thread = slice_index_or users.users.items thread nobody
