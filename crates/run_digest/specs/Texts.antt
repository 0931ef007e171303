-- The lines of a digest.
use Rattle.std.specs.Prelude.{ℕ, List, ◌++◌, codes, decimal}
use Rattle.std.specs.List.{flat_map}
use Rattle.guest_memory.specs.Memory.{Memory}
use Rattle.hart.specs.Cause.{number_of as cause_number}
use Rattle.hart.specs.declared.trap.Trap.{Trap as Trapped}
use Rattle.text_output.specs.Digits.{hexadecimal}
use Rattle.sha2.specs.Sha256.{sha256}
use Rattle.token.specs.declared.outcome.RunOutcome.{RunOutcome}
use Rattle.token.specs.declared.outcome.RunOutcome.TheVariants.{Exit, Finished, Trap, Deadlock}
use Rattle.run_digest.specs.Memories.{memory_message}

-- why a thread trapped
unfoldable pub trap_text : Trapped → List ℕ
trap_text trap = codes "cause=" ++ decimal (cause_number trap.cause) ++ codes " value=" ++ hexadecimal 8 trap.value

-- how a run ended
unfoldable pub outcome_text : RunOutcome → List ℕ
outcome_text (Exit status) = codes "exit " ++ decimal status
outcome_text (Finished status) = codes "finished " ++ decimal status
outcome_text (Trap thread pc trap) = codes "trap thread=" ++ decimal thread ++ codes " pc=" ++ hexadecimal 8 pc ++ codes " " ++ trap_text trap
outcome_text Deadlock = codes "deadlock"

-- two hexadecimal digits for each byte
unfoldable pub hash_text : List ℕ → List ℕ
hash_text hash = flat_map (λ byte. hexadecimal 2 byte) hash

-- the lines with these hashes
abbrev pub digest_lines : RunOutcome → (output memory trace : List ℕ) → List ℕ
digest_lines outcome output memory trace =
    codes "outcome " ++ outcome_text outcome ++ codes "\noutput " ++ hash_text output ++ codes "\nmemory " ++ hash_text memory ++ codes "\ntrace " ++ hash_text trace ++ codes "\n"

-- the lines of a run that ended so, with this output, this memory and this trace
abbrev pub digest_text : RunOutcome → (output : List ℕ) → Memory → (trace : List ℕ) → List ℕ
digest_text outcome output memory trace = digest_lines outcome (sha256 output) (sha256 (memory_message memory)) (sha256 trace)
