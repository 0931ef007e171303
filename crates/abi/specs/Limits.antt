-- How many of each thing a run has at most, how much it is given at most, and how much a call asks for at most.
use Rattle.std.specs.Prelude.{ℕ, ◌^◌}

-- threads, whose numbers are below it
abbrev pub threads : ℕ
threads = 256

-- mutexes, and as many condition variables and barriers, whose numbers are below it
abbrev pub objects : ℕ
objects = 64

-- threads that a barrier counts
abbrev pub barrier_count : ℕ
barrier_count = 256

-- bytes of one write or read
abbrev pub transfer : ℕ
transfer = 65_536

-- pages of one call for memory, or of one release
abbrev pub call_pages : ℕ
call_pages = 1024

-- bytes of the output
abbrev pub output : ℕ
output = 16_777_216

-- instructions that each thread may execute in all, and as many from one synchronisation to the next
abbrev pub instructions : ℕ
instructions = 2 ^ 40

-- host threads
abbrev pub workers : ℕ
workers = 64

-- bytes of the input
abbrev pub input : ℕ
input = 16_777_216
