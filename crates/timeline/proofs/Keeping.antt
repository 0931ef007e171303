-- What holds of each of a list holds of each after an edit.
use Rattle.std.proofs.Common.{◌≡◌, ℕ, ◌+◌, Bool, true, false, Box, List, [], ◌∷◌, ◌++◌, take, drop}
use Rattle.std.specs.Prelude.{All, if◌then◌else◌}
use Rattle.std.specs.Global.{Global}
use Rattle.std.proofs.lemmas.List.Elements.{All-append, All-drop, All-push, All-same, All-take}
use Rattle.token.specs.Point.{Point}
use Rattle.timeline.specs.Checkpoint.{IsCheckpoint, KeepsTurn}
use Rattle.timeline.specs.declared.checkpoint.Checkpoint.{Checkpoint}

abbrev pub IsKept : Box Checkpoint Global → Type 0
IsKept kept = IsCheckpoint kept.value

abbrev pub IsTurnOf : Point → Box Checkpoint Global → Type 0
IsTurnOf start kept = KeepsTurn start kept.value

-- after a push that may fail
pub pushed : {X : Type 0} (P : X → Type 0) (xs : List X) (x : X) (new : List X) (ok : Bool) → All P xs → P x → new ≡ (if ok then xs ++ x ∷ [] else xs) → All P new
pushed P xs x new true all here is = All-same P new (xs ++ x ∷ []) is (All-push P xs x all here)
pushed P xs x new false all here is = All-same P new xs is all

-- after one is taken away
pub removed : {X : Type 0} (P : X → Type 0) (xs new : List X) (i : ℕ) → All P xs → new ≡ take i xs ++ drop (i + 1) xs → All P new
removed P xs new i all is = All-same P new (take i xs ++ drop (i + 1) xs) is (All-append P (take i xs) (drop (i + 1) xs) (All-take P i xs all) (All-drop P (i + 1) xs all))
