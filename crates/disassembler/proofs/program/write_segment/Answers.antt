use Rattle.std.proofs.Common.{◌≡◌, ℕ, ◌+◌, ◌++◌, length, arith, ap, append_assoc, ◌∙◌, true, false}
use Rattle.std.specs.String.{string_bytes}
use Rattle.std.proofs.lemmas.Grind.{common_steps}
use Rattle.disassembler.specs.Listings.{segment_listing, has_word}
use Rattle.disassembler.proofs.Listings.{listed, listed-word, listed-none}
use Rattle.disassembler.proofs.program.write_segment.Goals as goal
use Rattle.disassembler.proofs.program.write_segment.Goals.{then-begins_word+in_ok-write_word, else-begins_word}

pub loop-index-preserved : goal.loop-index-preserved
loop-index-preserved c =
    let segment = c.args.segment.now in
    let index = c.loop-index.index in
    elim c.if-begins_word.branch [
      | then-begins_word+in_ok-write_word w ↦
          let begins : has_word segment (segment.vaddr + index) ≡ true = cc in
          rw (w.text-is, listed-word segment index begins) (grind (arith, common_steps, append_assoc))
      | else-begins_word w ↦
          let passed : has_word segment (segment.vaddr + index) ≡ false = cc in
          rw (w.text-is, listed-none segment index passed) c.loop-index.invariant
    ]

pub returns : goal.returns
unfolding segment_listing
returns c =
    let whole : c.loop-index.index ≡ length c.args.segment.now.bytes = omega (arith, ap length c.bytes-bytes.ensures) in
    c.loop-index.invariant ∙ ap (λ (n : ℕ). string_bytes c.args.text.now ++ listed c.args.segment.now n) whole
