use Rattle.std.proofs.Common.{◌≡◌, take}
use Rattle.commit.specs.Patched.{addresses_with, patched}
use Rattle.commit.proofs.patch.changed_addresses.Given as goal

abbrev pub invariant-loop-page : goal.invariant-loop-page
invariant-loop-page l = l.addresses.items ≡ addresses_with (patched (take l.page-index l.page-items))
