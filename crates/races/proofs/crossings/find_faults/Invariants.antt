use Rattle.std.proofs.Common.{◌≡◌, map, take}
use Rattle.std.specs.Prelude.{fold}
use Rattle.races.specs.Firsts.{with_new}
use Rattle.races.specs.LockOrder.{faults_at, is_same_pair, told}
use Rattle.races.proofs.crossings.find_faults.Given as goal

abbrev pub invariant-loop-one : goal.invariant-loop-one
invariant-loop-one l = l.faults.items ≡ fold (with_new is_same_pair) l.initial.faults.items (faults_at (map told (take l.one-index l.kept)) (told l.own))
