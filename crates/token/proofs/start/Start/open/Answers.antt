use Rattle.std.proofs.Common.{◌≡◌, refl, ap, sym, ◌∙◌}
use Rattle.paged_memory.specs.PageMap.{memory_of_pages}
use Rattle.paged_memory.specs.Snapshot.{cells_of}
use Rattle.token.specs.RunInTurn.{point_of}
use Rattle.call_table.specs.Shared.{input_of, state_of}
use Rattle.token.specs.Setup.{Setup, first_state}
use Rattle.call_table.specs.State.{State}
use Rattle.token.proofs.Begins.{stands_at_start, start_state}
use Rattle.token.proofs.start.Start.open.Goals as goal

pub invariant_of-result : goal.invariant_of-result
unfolding point_of first_state
invariant_of-result c =
    let setup : Setup = record { entry = c.entry-entry.result; memory = cells_of c.in_ok-first.first; input = input_of c.new-shared.result; bound = c.args.bound; quantum = c.args.quantum; shuffle = c.args.shuffle } in
    let state : state_of c.new-shared.result ≡ first_state setup =
    start_state (state_of c.new-shared.result) setup _ _ _ _ c.new-shared.ensures.state c.number_at_start-number.ensures c.choices_at_start-choices.ensures
    (ap memory_of_pages c.in_ok-try_clone.ensures.pages) (sym c.new-shared.ensures.input) in
    stands_at_start _ (record {
      phase = refl;
      first = refl;
      base = ap (λ (state : State). state.memory) state;
      base_threads = c.copy_from.ensures ∙ c.threads.ensures ∙ ap (λ (state : State). state.threads) state;
      list = c.fill_list.ensures;
      given = refl;
      keeper = refl;
      ended = refl;
      state = state;
      done = refl;
      bound = c.requires.bound;
      fresh = refl;
    })
