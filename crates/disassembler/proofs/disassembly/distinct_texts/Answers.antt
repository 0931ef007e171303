use Rattle.disassembler.proofs.Distinct.{text_of-injective}
use Rattle.disassembler.proofs.disassembly.distinct_texts.Goals as goal

pub returns : goal.returns
returns c = text_of-injective
