-- What a run is given.
use Rattle.std.specs.Prelude.{ℕ, Option, List}
use Rattle.call_table.specs.State.{State, started_state}
use Rattle.elf32_reader.specs.LoadImage.{LoadImage, memory_of}
use Rattle.guest_memory.specs.Memory.{Memory}
use Rattle.shuffled_phases.specs.Phases as phases
use Rattle.shuffled_phases.specs.declared.shuffle.Shuffle.{Shuffle}
use Rattle.thread_table.specs.declared.thread.Thread.{Thread}

-- where thread 0 begins, the memory at the start, the input, how many instructions each thread may execute, the quantum, and the number
-- of the schedule with the phases that it shuffles
pub record Setup : Type 0 where
  pub entry : ℕ
  pub memory : Memory
  pub input : List ℕ
  pub bound : ℕ
  pub quantum : Option ℕ
  pub shuffle : Option Shuffle

-- what the run of an image is given
abbrev pub setup_of : LoadImage → List ℕ → ℕ → Option ℕ → Option Shuffle → Setup
setup_of image input bound quantum shuffle =
    record { entry = image.entry; memory = memory_of image; input = input; bound = bound; quantum = quantum; shuffle = shuffle }

-- version 0: the program finds the schedule's number in x10 and how many choices it has in x11
unfoldable pub first_state : Setup → State
first_state setup = started_state setup.entry (phases.number_at_start setup.shuffle) (phases.choices_at_start setup.shuffle) setup.memory setup.input

-- the list of a phase that begins with these threads
abbrev pub list_in : Setup → (phase : ℕ) → List Thread → List ℕ
list_in setup phase threads = phases.list_of setup.shuffle phase threads

-- the quantum of a thread's fresh segment in a phase that begins with these threads
abbrev pub quantum_in : Setup → (phase thread : ℕ) → List Thread → Option ℕ
quantum_in setup phase thread threads = phases.quantum_of setup.shuffle setup.quantum phase thread threads
