use Rattle.std.proofs.Common.{◌≡◌, ◌++◌, drop, map}
use Rattle.std.specs.String.{string_bytes}
use Rattle.command_words.specs.Numbers.{with_numbers, words_from}
use Rattle.command_words.proofs.numbers.with_numbers.Given as goal

abbrev pub invariant-loop-word : goal.invariant-loop-word
invariant-loop-word g l =
    map string_bytes l.plain.items ++ words_from l.is_number (map g.S.AsStr.text (drop l.word-index l.words))
    ≡ with_numbers (map g.S.AsStr.text l.words)
