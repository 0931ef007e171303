-- What a library told of misuse.
use Rattle.std.specs.Prelude.{◌==◌, ◌&&◌, if◌then◌else◌, nat_le, Bool, List, [], ◌∷◌, ◌++◌}
use Rattle.races.specs.Firsts.{firsts}
use Rattle.races.specs.Hints.{number_of}
use Rattle.races.specs.Holding.{held_after, holder_of}
use Rattle.races.specs.declared.called_hint.CalledHint.{CalledHint}
use Rattle.races.specs.declared.hint_kind.HintKind.{HintKind}
use Rattle.races.specs.declared.holding.Holding.{Holding}
use Rattle.races.specs.declared.misuse.Misuse.{Misuse}

-- a hint tells a misuse: its number is 32 or more
abbrev pub is_misuse : HintKind → Bool
is_misuse kind = nat_le 32 (number_of kind)

-- the misuse that a hint tells, with the holder of its object
abbrev pub misuse_of : List Holding → CalledHint → Misuse
misuse_of held hint = record { call = hint.call; kind = hint.kind; object = hint.object; holder = holder_of held hint.object }

abbrev pub misuses_at : List Holding → CalledHint → List Misuse
misuses_at held hint = if is_misuse hint.kind then misuse_of held hint ∷ [] else []

-- all that are told, from what is held before
abbrev pub misuses_from : List Holding → List CalledHint → List Misuse
misuses_from held [] = []
misuses_from held (hint ∷ hints) = misuses_at held hint ++ misuses_from (held_after held hint) hints

-- both are of one kind and one object, at the same place in the program
abbrev pub is_same_misuse : Misuse → Misuse → Bool
is_same_misuse misuse other = (misuse.call.pc == other.call.pc) && (misuse.object == other.object) && (number_of misuse.kind == number_of other.kind)

-- the misuses of a run's hints: of those of one kind and one object at one place the first
abbrev pub misuses_in : List CalledHint → List Misuse
misuses_in hints = firsts is_same_misuse (misuses_from [] hints)
