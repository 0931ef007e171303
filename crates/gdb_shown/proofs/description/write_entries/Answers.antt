use Rattle.std.proofs.Common.{◌≡◌, ◌∙◌, ◌++◌, ℕ, List, [], Bor, map, get_or, sym, ap, add-one, append_assoc}
use Rattle.std.specs.String.{string_bytes}
use Rattle.std.proofs.lemmas.List.{get_or-map}
use Rattle.gdb_shown.specs.Description.{entry_of, first_described}
use Rattle.gdb_shown.proofs.description.write_entries.Goals as goal

pub loop-number-preserved : goal.loop-number-preserved
unfolding first_described
loop-number-preserved c =
    let names : List (List ℕ) = map (λ (name : Bor (List ℕ)). name.now) c.args.names.now in
    let number = c.loop-number.number in
    let described = first_described names number in
    let none : Bor (List ℕ) = record { ref_ptr = (0, 0); now = [] } in
    let name = get_or c.args.names.now number none in
    let same : get_or names number [] ≡ name.now = get_or-map (λ (name : Bor (List ℕ)). name.now) c.args.names.now number none [] c.loop-number-test.true in
    c.in_ok-write_entry.ensures
    ∙ ap (λ (before : List ℕ). before ++ entry_of name.now c.type_of.result.now number) c.loop-number.invariant
    ∙ append_assoc (string_bytes c.args.text.now) described (entry_of name.now c.type_of.result.now number)
    ∙ ap (λ (entry : List ℕ). string_bytes c.args.text.now ++ (described ++ entry))
    (ap (λ (name : List ℕ). entry_of name c.type_of.result.now number) (sym same) ∙ ap (λ (kind : List ℕ). entry_of (get_or names number []) kind number) c.type_of.ensures)
    ∙ ap (λ (count : ℕ). string_bytes c.args.text.now ++ first_described names count) (sym (add-one number))
