use Rattle.std.proofs.Common.{◌≡◌, ◌+◌, ◌≤◌, drop}
use Rattle.trace_events.specs.Pages.{page_count, pages_after}
use Rattle.trace_events.proofs.pages.count_pages.Given as goal

abbrev pub invariant-loop-address : goal.invariant-loop-address
invariant-loop-address l = record {
  counted : l.count + pages_after l.last (drop l.address-index l.addresses) ≡ page_count l.addresses;
  within : l.count ≤ l.address-index;
}
