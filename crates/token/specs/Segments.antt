-- The segment of a thread.
use Rattle.std.specs.Prelude.{ℕ, ◌-◌, Option, List, filter, slice_get, unwrap_or}
use Rattle.segment.specs.declared.segment.Segment.{Segment}
use Rattle.thread_table.specs.Status.{is_ready}
use Rattle.thread_table.specs.Thread.{blank}
use Rattle.thread_table.specs.declared.thread.Thread.{Thread}
use Rattle.token.specs.Setup.{Setup, quantum_in}

-- the segment of a thread with this row: it begins with its hart, and may execute what it hasn't yet of the bound
abbrev pub segment_of : ℕ → Option ℕ → Thread → Segment
segment_of bound quantum row = record { hart = row.hart; left = bound - row.executed; quantum = quantum }

-- the row of a thread
abbrev pub row_in : List Thread → ℕ → Thread
row_in rows thread = unwrap_or (slice_get rows thread) blank

-- the segment of a thread in a phase that began with these rows
abbrev pub segment_in : Setup → (phase : ℕ) → List Thread → ℕ → Segment
segment_in setup phase rows thread = segment_of setup.bound (quantum_in setup phase thread rows) (row_in rows thread)

-- the threads of a phase's list that have a segment in it: those that are ready where it begins
abbrev pub jobs_of : List Thread → List ℕ → List ℕ
jobs_of rows list = filter (λ thread. is_ready (row_in rows thread).status) list
