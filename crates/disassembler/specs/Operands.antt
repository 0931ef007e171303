use Rattle.std.specs.Prelude.{ℕ, ◌/◌, ◌^◌, List, [], ◌∷◌, ◌++◌, codes, decimal}
use Rattle.std.specs.Fmt.{signed_decimal}
use Rattle.std.specs.Int.{w32, cast_signed}
use Rattle.text_output.specs.Digits.{hexadecimal}
use Rattle.disassembler.specs.declared.operand.Operand.{Operand}
use Rattle.disassembler.specs.declared.operand.Operand.TheVariants.{Register, Unsigned, Signed, Upper, Address, Indirect}

-- a register by its number, as x31
abbrev pub register_text : ℕ → List ℕ
register_text number = codes "x" ++ decimal number

-- the signed number that a word of 32 bits stands for, in decimal
abbrev pub signed_text : ℕ → List ℕ
signed_text word = signed_decimal (cast_signed w32 word)

-- an operand as it is written
unfoldable pub operand_text : Operand → List ℕ
operand_text (Register number) = register_text number
operand_text (Unsigned number) = decimal number
operand_text (Signed word) = signed_text word
operand_text (Upper word) = codes "0x" ++ hexadecimal 5 (word / 2 ^ 12)
operand_text (Address address) = codes "0x" ++ hexadecimal 8 address
operand_text (Indirect offset base) = signed_text offset ++ codes "(" ++ register_text base ++ codes ")"

-- the operands, with a byte before the first and a comma before each other
abbrev pub operands_after : ℕ → List Operand → List ℕ
operands_after before [] = []
operands_after before (operand ∷ operands) = before ∷ operand_text operand ++ operands_after 44 operands

-- a name, a space, and the operands joined by commas; the name alone where there is no operand
abbrev pub line_of : List ℕ → List Operand → List ℕ
line_of name operands = name ++ operands_after 32 operands
