-- The line of a trap.
use Rattle.std.specs.Prelude.{ℕ, ◌+◌, ◌&&◌, nat_le, nat_lt, Bool, if◌then◌else◌, List, ◌++◌, codes, decimal}
use Rattle.hart.specs.declared.cause.Cause.{Cause}
use Rattle.hart.specs.declared.cause.Cause.TheVariants.{TargetMisaligned, FetchDenied, IllegalInstruction, Breakpoint, LoadMisaligned, LoadDenied, StoreMisaligned, StoreDenied, BoundReached}
use Rattle.symbols.specs.Symbol.{SymbolLists}
use Rattle.text_output.specs.Digits.{hexadecimal}
use Rattle.explanations.specs.Places.{end_text}
use Rattle.explanations.specs.Words.{word_name}
use Rattle.explanations.specs.declared.trapped.Trapped.{Trapped}

-- a word between two texts
unfoldable pub word_text : (before : List ℕ) → (word : ℕ) → (after : List ℕ) → List ℕ
word_text before word after = before ++ hexadecimal 8 word ++ after

-- a word that is no instruction of RV32IM, and what it is
abbrev pub illegal_text : ℕ → List ℕ
illegal_text word = word_text (codes "the word ") word (codes ", ") ++ word_name word

-- The access is at the stack pointer or within a page above it, and the page above it, which stacks grow down from, can be stored to.
abbrev pub is_below_stack : Trapped → Bool
is_below_stack trapped =
    trapped.is_writable_above && (nat_le trapped.stack_pointer trapped.trap.value && nat_lt trapped.trap.value (trapped.stack_pointer + 4096))

-- an access that is denied
unfoldable pub denied_text : (before : List ℕ) → Trapped → (after : List ℕ) → List ℕ
denied_text before trapped after =
    if is_below_stack trapped then word_text before trapped.trap.value (codes ", below the stack of thread ") ++ decimal trapped.thread
    else word_text before trapped.trap.value after

-- a thread that executed all that it may
unfoldable pub bound_text : Trapped → List ℕ
bound_text trapped = codes "thread " ++ decimal trapped.thread ++ codes " executed all of --bound " ++ decimal trapped.bound

-- what a thread did that trapped for this cause
abbrev pub cause_text : Trapped → Cause → List ℕ
cause_text trapped TargetMisaligned = word_text (codes "jump to ") trapped.trap.value (codes ", no multiple of 4")
cause_text trapped FetchDenied = word_text (codes "fetch at ") trapped.trap.value (codes ", where no code is")
cause_text trapped IllegalInstruction = illegal_text trapped.trap.value
cause_text trapped Breakpoint = codes "ebreak"
cause_text trapped LoadMisaligned = word_text (codes "load from ") trapped.trap.value (codes ", no multiple of its size")
cause_text trapped LoadDenied = denied_text (codes "load from ") trapped (codes ", which can't be loaded")
cause_text trapped StoreMisaligned = word_text (codes "store to ") trapped.trap.value (codes ", no multiple of its size")
cause_text trapped StoreDenied = denied_text (codes "store to ") trapped (codes ", which can't be stored to")
cause_text trapped BoundReached = bound_text trapped

-- the line of a trap
unfoldable pub trap_line : SymbolLists → Trapped → List ℕ
trap_line symbols trapped = cause_text trapped trapped.trap.cause ++ end_text symbols trapped.pc
