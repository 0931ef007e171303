-- The command that shows a run of an exploration, and in what a phase of it differs.
use Rattle.std.specs.Prelude.{ℕ, ◌-◌, ◌^◌, ◌==◌, ◌&&◌, if◌then◌else◌, Option, Some, None, List, [], ◌++◌, nat_eq, codes, decimal}
use Rattle.std.specs.Borrow.{Bor}
use Rattle.std.specs.Cmp.Lexicographic.{pointwise}
use Rattle.std.specs.List.{flat_map}
use Rattle.run_digest.specs.Texts.{outcome_text}
use Rattle.shuffled_phases.specs.declared.shuffle.Shuffle.{Shuffle}
use Rattle.token.specs.declared.outcome.RunOutcome.{RunOutcome}
use Rattle.explored_text.specs.declared.setting.Setting.{Setting}

-- the phases after the number: none are named if the number shuffles all of them
abbrev pub phases_text : (first last : ℕ) → List ℕ
phases_text first last =
    if first == 1 && last == 2 ^ 64 - 1 then [] else
    codes ":" ++ (if first == 1 then [] else decimal first ++ codes "-") ++ decimal last

abbrev pub choices_text : ℕ → List ℕ
choices_text choices = if choices == 0 then [] else codes "/" ++ decimal choices

-- a schedule's number as the option --shuffle takes it
unfoldable pub shuffle_text : Shuffle → List ℕ
shuffle_text shuffle = decimal shuffle.number ++ phases_text shuffle.first shuffle.last ++ choices_text shuffle.choices

-- what a command's options add, if they are given
abbrev pub input_text : Option (Bor (List ℕ)) → List ℕ
input_text None = []
input_text (Some path) = codes " --input " ++ path.now

abbrev pub bound_text : ℕ → List ℕ
bound_text bound = if bound == 1000000000 then [] else codes " --bound " ++ decimal bound

abbrev pub quantum_text : Option ℕ → List ℕ
quantum_text None = []
quantum_text (Some quantum) = codes " --quantum " ++ decimal quantum

unfoldable pub options_text : Setting → List ℕ
options_text setting = input_text setting.input ++ bound_text setting.bound ++ quantum_text setting.quantum

-- how a run ended, and the command's first words
abbrev pub run_text : (file : List ℕ) → RunOutcome → List ℕ
run_text file outcome = outcome_text outcome ++ codes ": dthreads run " ++ file

-- how a run ended, and the command that shows it
unfoldable pub command_text : Setting → RunOutcome → Shuffle → List ℕ
command_text setting outcome shuffle = run_text setting.file.now outcome ++ codes " --shuffle " ++ shuffle_text shuffle ++ options_text setting ++ codes "\n"

-- the numbers of threads, a space before each
unfoldable pub threads_text : List ℕ → List ℕ
threads_text threads = flat_map (λ thread. codes " " ++ decimal thread) threads

-- what a phase's list is without a number, unless it is the same: then only the lengths of segments differ
abbrev pub plain_text : (drawn plain : List ℕ) → List ℕ
plain_text drawn plain = if pointwise nat_eq drawn plain then codes ", with shorter segments" else codes " in place of" ++ threads_text plain

-- in what a phase with a number differs from the same phase without it
unfoldable pub difference_text : (phase : ℕ) → (drawn plain : List ℕ) → List ℕ
difference_text phase drawn plain = codes "  phase " ++ decimal phase ++ codes ": threads" ++ threads_text drawn ++ plain_text drawn plain ++ codes "\n"

-- what stands there in place of a phase if none is shuffled
abbrev pub no_phase_text : List ℕ
no_phase_text = codes "  no phase needs to be shuffled\n"
