use Rattle.std.specs.Prelude.{ℕ, List, Option, Some, None, ◌++◌, codes}
use Rattle.decoder.specs.Decoding.{decoded}
use Rattle.decoder.specs.declared.instr.Instr.{Instr}
use Rattle.text_output.specs.Digits.{hexadecimal}
use Rattle.disassembler.specs.Instructions.{instruction_text}

-- the text of a word that has this instruction or none
abbrev pub text_from : (address word : ℕ) → Option Instr → List ℕ
text_from address word (Some instr) = instruction_text address instr
text_from address word None = codes ".word 0x" ++ hexadecimal 8 word

-- the text of a word at an address
unfoldable pub text_of : (address word : ℕ) → List ℕ
text_of address word = text_from address word (decoded word)
