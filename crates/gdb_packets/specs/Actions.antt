-- The actions of a packet that resumes: ACTION[:THREAD][;ACTION[:THREAD]]..
use Rattle.std.specs.Prelude.{◌≡◌, ℕ, ◌==◌, Option, Some, None, List, ◌∷◌}
use Rattle.std.specs.List.{AllZip, slice_split}
use Rattle.gdb_packets.specs.Numbers.{AreNumbers, parts_at}
use Rattle.gdb_packets.specs.Requests.{IsOrSignal, Names}
use Rattle.gdb_packets.specs.declared.action.Action.{Action}
use Rattle.gdb_packets.specs.declared.action.Motion.{Motion}
use Rattle.gdb_packets.specs.declared.action.Motion.TheVariants.{Continue, Step, Range}
use Rattle.gdb_packets.specs.declared.action.Scope.{Scope}
use Rattle.gdb_packets.specs.declared.action.Scope.TheVariants.{Others, Named}

-- how far a thread goes by a text: c (99) or C (67), s (115) or S (83), or r (114) with START,END
abbrev pub IsMotion : List ℕ → Motion → Type 0
IsMotion text Continue = IsOrSignal text 99 67
IsMotion text Step = IsOrSignal text 115 83
IsMotion text (Range start end) = (range : List ℕ) × (text ≡ 114 ∷ range) × AreNumbers range start end

-- the threads of a text, where there is one
abbrev pub IsScope : Option (List ℕ) → Scope → Type 0
IsScope None Others = Unit {0}
IsScope (Some text) (Named id) = Names text id
IsScope None (Named id) = ⊥
IsScope (Some text) Others = ⊥

-- a motion, and behind a : (58) the threads that it is for
abbrev pub IsActionBy : List ℕ → Option (List ℕ × List ℕ) → Action → Type 0
IsActionBy text None action = IsMotion text action.motion × IsScope None action.scope
IsActionBy text (Some parts) action = IsMotion parts.0 action.motion × IsScope (Some parts.1) action.scope

abbrev pub IsAction : List ℕ → Action → Type 0
IsAction text action = IsActionBy text (parts_at 58 text) action

-- one action for each part of a text between its ; (59)
abbrev pub AreActions : List ℕ → List Action → Type 0
AreActions text actions = AllZip IsAction (slice_split (λ byte. byte == 59) text) actions
