use Rattle.std.proofs.Common.{◌≡◌, ◌++◌, ◌∙◌, ℕ, List, ap, take, arith}
use Rattle.std.specs.List.{flat_map}
use Rattle.std.specs.String.{string_bytes}
use Rattle.std.proofs.lemmas.List.{take_all}
use Rattle.text_output.specs.Digits.{hexadecimal}
use Rattle.run_digest.specs.Texts.{hash_text}
use Rattle.explored_text.proofs.hashes.push_digits.Goals as goal

pub returns : goal.returns
unfolding hash_text
returns c =
    let digits : List ℕ = take 8 c.args.hash.now in
    let whole : take c.loop-byte.byte-index digits ≡ digits = take_all c.loop-byte.byte-index digits (omega arith) in
    c.loop-byte.invariant ∙ ap (λ (all : List ℕ). string_bytes c.args.text.now ++ flat_map (λ byte. hexadecimal 2 byte) all) whole
