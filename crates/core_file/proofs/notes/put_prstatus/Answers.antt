use Rattle.std.proofs.Common.{◌++◌, ◌∙◌, ℕ, List, [], ◌∷◌, ap, replicate}
use Rattle.core_file.proofs.Parts.{four_parts}
use Rattle.core_file.specs.Fields.{word, words}
use Rattle.core_file.specs.Notes.{prstatus, registers_of}
use Rattle.core_file.proofs.notes.put_prstatus.Goals as goal

pub returns : goal.returns
unfolding prstatus
returns c =
    let old : List ℕ = c.args.notes.now.items in
    four_parts c.put_words-3.result old c.put_words.new.bytes.items c.put_words-2.new.bytes.items c.put_registers.new.notes.items c.put_words-3.new.bytes.items
    (words (0 ∷ 0 ∷ 0 ∷ c.args.thread.now.signal ∷ 0 ∷ 0 ∷ c.args.thread.now.pid ∷ [])) (words (replicate 11 0)) (words (registers_of c.args.thread.now.hart)) (word 0)
    (c.in_ok-put_words.ensures ∙ ap (λ (signal : ℕ). old ++ words (0 ∷ 0 ∷ 0 ∷ signal ∷ 0 ∷ 0 ∷ c.args.thread.now.pid ∷ [])) c.from.ensures)
    c.in_ok-put_words-2.ensures c.in_ok-put_registers.ensures c.put_words-3.ensures
