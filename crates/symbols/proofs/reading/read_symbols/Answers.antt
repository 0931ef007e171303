use Rattle.std.proofs.Common.{◌≡◌, ◌*◌, ◌/◌, [], ◌∷◌, ◌++◌, sym, ap, ◌∙◌, arith, length}
use Rattle.std.specs.Prelude.{option_map}
use Rattle.std.proofs.lemmas.List.Elements.{All-nil, All-push, All-same}
use Rattle.symbols.specs.declared.entry.Entry.{Entry}
use Rattle.symbols.specs.Kept.{HasName, kept_symbols, symbol_in}
use Rattle.symbols.specs.Symbols.{symbol_of, symbols_in}
use Rattle.symbols.specs.Entries.{entries_of, entry_at}
use Rattle.symbols.proofs.Rows.{symbols_before, row_kept, row_left_out}
use Rattle.symbols.proofs.reading.read_symbols.Goals as goal
use Rattle.symbols.proofs.reading.read_symbols.Goals.{in-Some+in_ok-push, in_default}

pub loop-row-init : goal.loop-row-init
unfolding symbols_before kept_symbols
loop-row-init c = record {
  symbols = ap (kept_symbols c.args.strings.now) c.new-symbols.ensures.items;
  within = All-same (HasName c.args.strings.now) c.new-symbols.result.items [] c.new-symbols.ensures.items (All-nil (HasName c.args.strings.now));
}

pub loop-row-preserved : goal.loop-row-preserved
loop-row-preserved c =
    let described : option_map (symbol_in c.args.strings.now) c.of.result ≡ symbol_of c.args.strings.now c.args.kind (entry_at c.args.table.now (16 * c.loop-row.row)) =
    c.of.ensures.symbol ∙ ap (λ (e : Entry). symbol_of c.args.strings.now c.args.kind e) c.at-entry.ensures in
    elim c.match-of.branch [
      | in-Some+in_ok-push w ↦
          let items = ap (λ symbols. symbols.items) w.symbols-is ∙ w.in_ok-push.ensures.items in
          record {
            symbols =
                ap (kept_symbols c.args.strings.now) items
                ∙ row_kept c.args.strings.now c.args.table.now c.args.kind c.loop-row.row c.loop-row.symbols.items w.in-Some.symbol c.loop-row.invariant.symbols (ap (option_map (symbol_in c.args.strings.now)) (sym w.in-Some.is) ∙ described);
            within =
                All-same (HasName c.args.strings.now) c.match-of.symbols.items (c.loop-row.symbols.items ++ w.in-Some.symbol ∷ []) items
                (All-push (HasName c.args.strings.now) c.loop-row.symbols.items w.in-Some.symbol c.loop-row.invariant.within w.in-Some.ensures.within);
          }
      | in_default w ↦
          let items = ap (λ symbols. symbols.items) w.symbols-is in
          record {
            symbols =
                ap (kept_symbols c.args.strings.now) items
                ∙ row_left_out c.args.strings.now c.args.table.now c.args.kind c.loop-row.row c.loop-row.symbols.items c.loop-row.invariant.symbols (ap (option_map (symbol_in c.args.strings.now)) (sym w.in_default.is) ∙ described);
            within = All-same (HasName c.args.strings.now) c.match-of.symbols.items c.loop-row.symbols.items items c.loop-row.invariant.within;
          }
    ]

pub returns-clause-symbols : goal.returns-clause-symbols
unfolding symbols_before symbols_in entries_of
returns-clause-symbols c =
    let all : c.loop-row.row ≡ length c.args.table.now / 16 = omega arith in
    c.loop-row.invariant.symbols ∙ ap (symbols_before c.args.strings.now c.args.table.now c.args.kind) all
