use Rattle.std.proofs.Common.{◌++◌, ◌∙◌, ℕ, [], ◌∷◌, ap}
use Rattle.std.specs.List.{flat_map}
use Rattle.core_file.proofs.Parts.{four_parts}
use Rattle.core_file.specs.Fields.{elf_header, half, words}
use Rattle.core_file.proofs.heads.put_elf_header.Goals as goal

pub returns : goal.returns
unfolding elf_header
returns c =
    four_parts c.put_halves-2.result c.args.head.now.items c.extend_from_slice.new.self.items c.put_halves.new.bytes.items c.put_words.new.bytes.items c.put_halves-2.new.bytes.items
    (0x7F ∷ 0x45 ∷ 0x4C ∷ 0x46 ∷ 1 ∷ 1 ∷ 1 ∷ 0 ∷ 0 ∷ 0 ∷ 0 ∷ 0 ∷ 0 ∷ 0 ∷ 0 ∷ 0 ∷ []) (flat_map half (4 ∷ 243 ∷ [])) (words (1 ∷ 0 ∷ 52 ∷ 0 ∷ 0 ∷ []))
    (flat_map half (52 ∷ 32 ∷ c.args.count ∷ 0 ∷ 0 ∷ 0 ∷ []))
    c.in_ok-extend_from_slice.ensures.items c.in_ok-put_halves.ensures
    (c.in_ok-put_words.ensures ∙ ap (λ (size : ℕ). c.put_halves.new.bytes.items ++ words (1 ∷ 0 ∷ size ∷ 0 ∷ 0 ∷ [])) c.from.ensures)
    c.put_halves-2.ensures
