use Rattle.std.proofs.Common.{◌≡◌, ◌⊎◌, ℕ, List, Option}
use Rattle.std.specs.Io.KnownBytes.{Appends}
use Rattle.token.specs.RunInTurn.{point_of}
use Rattle.observed_run.specs.Runs.{IsLegalPoint, Leads}
use Rattle.observed_run.proofs.observer.Observer.go_to_end.Given as goal

abbrev pub invariant-loop : goal.invariant-loop
invariant-loop g l = record {
  setup : (point_of l.serial).setup ≡ (point_of l.fn.serial).setup;
  sent : (start : Option (List ℕ)) → Appends start (g.S.Sink.taken l.fn.sink) (point_of l.fn.serial).state.output → Appends start (g.S.Sink.taken l.sink) (point_of l.serial).state.output;
  steady : g.S.Sink.failed l.sink ≡ g.S.Sink.failed l.fn.sink;
  leads : Leads l.fn.serial l.serial l.fn.self.findings l.self.findings;
  legal : (point_of l.serial ≡ point_of l.fn.serial) ⊎ IsLegalPoint (point_of l.fn.serial);
}
