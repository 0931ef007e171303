use Rattle.std.proofs.Common.{◌≡◌, ◌<◌, ◌++◌, drop}
use Rattle.std.specs.String.{string_bytes}
use Rattle.disassembler.specs.Operands.{operands_after, line_of}
use Rattle.disassembler.proofs.line.write_line.Given as goal

abbrev pub invariant-loop-operand : goal.invariant-loop-operand
invariant-loop-operand l = record {
  ascii : l.before < 128;
  written : string_bytes l.text ++ operands_after l.before (drop l.operand-index l.operands) ≡ string_bytes l.fn.text ++ line_of l.name l.operands;
}
