use Rattle.gdb_monitor.proofs.Hexadecimals.{number_is}
use Rattle.gdb_monitor.proofs.reading.hexadecimal.Goals as goal

pub returns : goal.returns
returns c = number_is c.args.digits.now c.number.result c.number.ensures
