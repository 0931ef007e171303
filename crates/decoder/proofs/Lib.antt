pub mod OneInstruction
