use Rattle.gdb_monitor.proofs.Decimals.{AreDigits}
use Rattle.gdb_monitor.proofs.reading.decimal.Given as goal

abbrev pub invariant-loop-digit : goal.invariant-loop-digit
invariant-loop-digit l = AreDigits l.digits l.digit-index l.value
