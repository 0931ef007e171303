use Rattle.std.proofs.Common.{rules, subst, List}
use Rattle.std.specs.List.Sorted.{IsPermutation}
use Rattle.std.proofs.lemmas.List.Sorted.{IsNonDecreasingBy-from_sort_by_key}
use Rattle.races.specs.Findings.{time_of}
use Rattle.races.specs.declared.finding.Finding.{Finding}
use Rattle.races.specs.declared.freed_access.FreedAccess.{FreedAccess}
use Rattle.races.specs.declared.misuse.Misuse.{Misuse}
use Rattle.races.specs.declared.order_fault.OrderFault.{OrderFault}
use Rattle.races.specs.declared.race.Race.{Race}
use Rattle.races.proofs.finding_recorder.FindingRecorder.findings.Goals as goal

pub returns-clause-found : goal.returns-clause-found
returns-clause-found c history records =
    let races : List Race = c.in_ok-races.races.items in
    let freed : List FreedAccess = c.in_ok-freed.freed.items in
    let faults : List OrderFault = c.in_ok-faults.faults.items in
    let misuses : List Misuse = c.in_ok-misuses.misuses.items in
    let sorted : List Finding = c.sort_by_key.new.self.items in
    record {
      races = races;
      freed = freed;
      faults = faults;
      misuses = misuses;
      are_races = c.in_ok-races.ensures.races history records.races;
      are_freed = c.in_ok-freed.ensures.found history records.freed;
      are_faults = c.in_ok-faults.ensures.faults history records.order;
      are_misuses = c.in_ok-misuses.ensures.misuses history records.misuse;
      all = subst (λ (all : List Finding). IsPermutation all sorted) (rw (c.deref.ensures.value, c.deref-2.ensures.value, c.deref-3.ensures.value, c.deref-4.ensures.value) at c.in_ok-findings.ensures) c.sort_by_key.ensures.permutation;
      order = IsNonDecreasingBy-from_sort_by_key time_of _ c.in_ok-sort_by_key.ensures.sorted (λ a r f q. search rules);
    }
