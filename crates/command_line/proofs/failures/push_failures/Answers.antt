use Rattle.std.proofs.Common.{◌≡◌, ◌+◌, ◌++◌, ◌∙◌, ℕ, List, ◌∷◌, [], ap, sym, subst, take, arith}
use Rattle.std.specs.String.{string_bytes}
use Rattle.std.proofs.lemmas.List.{append_assoc, take_all, take_more}
use Rattle.explored_runs.specs.declared.row.Row.{Row}
use Rattle.command_line.specs.Failures.{AreShown}
use Rattle.command_line.proofs.Shown.{shown_more}
use Rattle.command_line.proofs.failures.push_failures.Goals as goal

pub loop-row-preserved : goal.loop-row-preserved
loop-row-preserved g c =
    let before = c.loop-row.invariant in
    let shown = c.in_ok-push_failure.ensures.shown in
    let rows : List Row = c.args.rows.now in
    let i : ℕ = c.loop-row.row-index in
    let row : Row = c.row-item.result in
    let longer : take (i + 1) rows ≡ take i rows ++ row ∷ [] = take_more rows i row (omega arith) ∙ ap (λ (one : Row). take i rows ++ one ∷ []) (sym c.row-item.is) in (
      before.0 ++ shown.0,
      subst (λ (all : List Row). AreShown c.args.exploration.now c.args.elf.now c.args.input.now all (before.0 ++ shown.0)) (sym longer)
          (shown_more c.args.exploration.now c.args.elf.now c.args.input.now (take i rows) row before.0 shown.0 before.1 shown.1),
      shown.2 ∙ ap (λ (text : List ℕ). text ++ shown.0) before.2 ∙ append_assoc (string_bytes c.args.text.now) before.0 shown.0,
    )

pub returns-clause-shown : goal.returns-clause-shown
returns-clause-shown g c =
    let before = c.loop-row.invariant in
    let rows : List Row = c.args.rows.now in
    let whole : take c.loop-row.row-index rows ≡ rows = take_all c.loop-row.row-index rows (omega arith) in (
      before.0,
      subst (λ (all : List Row). AreShown c.args.exploration.now c.args.elf.now c.args.input.now all before.0) whole before.1,
      before.2,
    )
