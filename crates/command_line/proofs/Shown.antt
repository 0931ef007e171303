-- The texts of rows, and of one row more.
use Rattle.std.proofs.Common.{◌≡◌, ◌∙◌, ℕ, List, [], ◌∷◌, ◌++◌, ap, refl, sym}
use Rattle.std.proofs.lemmas.List.{append_assoc, append-nil}
use Rattle.explored_runs.specs.declared.row.Row.{Row}
use Rattle.command_line.specs.Failures.{AreShown, IsShown}
use Rattle.command_line.specs.declared.exploration.Exploration.{Exploration}

-- the text of one row more, after those of the others
pub shown_more : (exploration : Exploration) (elf input : List ℕ) (rows : List Row) (row : Row) (text more : List ℕ)
    → AreShown exploration elf input rows text → IsShown exploration elf input row more → AreShown exploration elf input (rows ++ row ∷ []) (text ++ more)
shown_more exploration elf input [] row text more are is =
    (more, [], is, refl, ap (λ (before : List ℕ). before ++ more) are ∙ sym (append-nil more))
shown_more exploration elf input (first ∷ rows) row text more are is = (
  are.0,
  are.1 ++ more,
  are.2,
  shown_more exploration elf input rows row are.1 more are.3 is,
  ap (λ (before : List ℕ). before ++ more) are.4 ∙ append_assoc are.0 are.1 more,
)
