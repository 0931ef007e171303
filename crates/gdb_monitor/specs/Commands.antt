-- The commands, and how their words are read.
use Rattle.std.specs.Prelude.{ℕ, ◌^◌, ◌==◌, ◌&&◌, ◌||◌, ◌-◌, Bool, not, nat_eq, nat_lt, min, drop, find, filter, if◌then◌else◌, Option, Some, None, option_and_then, option_map, unwrap_or, List, [], ◌∷◌, length, codes}
use Rattle.std.specs.Char.{digit_value, is_ascii_digit}
use Rattle.std.specs.Cmp.Lexicographic.{pointwise}
use Rattle.std.specs.List.{list_all, slice_split, starts_with}
use Rattle.std.specs.Str.Parse.{digits_value}
use Rattle.gdb_packets.specs.Numbers.{value_of}
use Rattle.gdb_monitor.specs.declared.command.Command.{Command}
use Rattle.gdb_monitor.specs.declared.command.Command.TheVariants as command
use Rattle.gdb_monitor.specs.declared.name.Name.{Name}
use Rattle.gdb_monitor.specs.declared.name.Name.TheVariants.{Help, Where, When, Turn, Go, Trace, Threads, Locks, Writers, Shared, Output}
use Rattle.gdb_monitor.specs.declared.command.Span.{Span}

-- the words of a text, with blanks (32) between
abbrev pub words_of : List ℕ → List (List ℕ)
words_of text = filter (λ word. not (length word == 0)) (slice_split (λ byte. byte == 32) text)

-- numbers

-- the number of decimal digits, none if they are none or it doesn't fit in 64 bits
abbrev pub is_decimal : List ℕ → Bool
is_decimal digits = not (length digits == 0) && list_all is_ascii_digit digits && nat_lt (digits_value 10 digits) (2 ^ 64)

abbrev pub decimal_in : List ℕ → Option ℕ
decimal_in digits = if is_decimal digits then Some (digits_value 10 digits) else None

-- the number of hexadecimal digits of either case, the greatest of 64 bits if it doesn't fit in these
abbrev pub is_hexadecimal : List ℕ → Bool
is_hexadecimal digits = not (length digits == 0) && list_all (λ digit. nat_lt (digit_value digit) 16) digits

abbrev pub hexadecimal_in : List ℕ → Option ℕ
hexadecimal_in digits = if is_hexadecimal digits then Some (min (value_of digits) (2 ^ 64 - 1)) else None

-- the number of a text: in hexadecimal digits if it begins with 0x or 0X, and else in decimal ones
abbrev pub number_in : List ℕ → Option ℕ
number_in text =
    if starts_with nat_eq text (codes "0x") || starts_with nat_eq text (codes "0X") then hexadecimal_in (drop 2 text) else decimal_in text

-- a number that is an address
abbrev pub address_by : Option ℕ → Option ℕ
address_by number = option_and_then (λ number. if nat_lt number (2 ^ 32) then Some number else None) number

abbrev pub address_in : List ℕ → Option ℕ
address_in text = address_by (number_in text)

-- the addresses that one word or two name: the first, and how many, 4 if that isn't given
abbrev pub span_of : ℕ → ℕ → Span
span_of start count = record { start = start; count = count }

abbrev pub span_in : List (List ℕ) → Option Span
span_in (start ∷ []) = option_map (λ start. span_of start 4) (address_in start)
span_in (start ∷ count ∷ []) = option_and_then (λ start. option_map (span_of start) (address_in count)) (address_in start)
span_in _ = None

-- names

-- the word of a name
abbrev pub word_of : Name → List ℕ
word_of Help = codes "help"
word_of Where = codes "where"
word_of When = codes "when"
word_of Turn = codes "turn"
word_of Go = codes "go"
word_of Trace = codes "trace"
word_of Threads = codes "threads"
word_of Locks = codes "locks"
word_of Writers = codes "writers"
word_of Shared = codes "shared"
word_of Output = codes "output"

abbrev pub names : List Name
names = Help ∷ Where ∷ When ∷ Turn ∷ Go ∷ Trace ∷ Threads ∷ Locks ∷ Writers ∷ Shared ∷ Output ∷ []

-- the name that a word is
unfoldable pub name_in : List ℕ → Option Name
name_in word = find (λ name. pointwise nat_eq (word_of name) word) names

-- commands

-- the command of a name with some arguments, none if a number of them can't be read
abbrev pub asked_by : Name → List (List ℕ) → Option Command
asked_by Help [] = Some command.Help
asked_by Where [] = Some command.Where
asked_by When [] = Some command.Where
asked_by Turn (turn ∷ []) = option_map (λ turn. command.Turn turn 0) (decimal_in turn)
asked_by Turn (turn ∷ count ∷ []) = option_and_then (λ turn. option_map (command.Turn turn) (decimal_in count)) (decimal_in turn)
asked_by Go (step ∷ []) = option_map command.Go (decimal_in step)
asked_by Trace [] = Some (command.Trace 1 (2 ^ 64 - 1))
asked_by Trace (first ∷ []) = option_map (λ first. command.Trace first (2 ^ 64 - 1)) (decimal_in first)
asked_by Trace (first ∷ last ∷ []) = option_and_then (λ first. option_map (command.Trace first) (decimal_in last)) (decimal_in first)
asked_by Threads [] = Some command.Threads
asked_by Locks [] = Some command.Locks
asked_by Writers span = option_map command.Writers (span_in span)
asked_by Shared span = option_map command.Shared (span_in span)
asked_by Output [] = Some command.Output
asked_by _ _ = Some command.Unknown

abbrev pub asked_of : Option Name → List (List ℕ) → Option Command
asked_of None arguments = Some command.Unknown
asked_of (Some name) arguments = asked_by name arguments

-- the command of some words, the list of the commands if there are none
abbrev pub command_read : List (List ℕ) → Option Command
command_read [] = Some command.Help
command_read (first ∷ arguments) = asked_of (name_in first) arguments

-- the command of a text
abbrev pub command_in : List ℕ → Command
command_in text = unwrap_or (command_read (words_of text)) command.NoNumber
