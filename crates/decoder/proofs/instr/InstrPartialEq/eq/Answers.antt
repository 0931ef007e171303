use Rattle.std.proofs.Common.{◌∙◌, ℕ, sym, ap, subst}
use Rattle.std.proofs.lemmas.Bool.{eqb-true, eq-eqb}
use Rattle.decoder.specs.Encoded.{encoded}
use Rattle.decoder.specs.Encoding.{Encodes}
use Rattle.decoder.proofs.OneInstruction.{one_instruction}
use Rattle.decoder.proofs.instr.InstrPartialEq.eq.Goals as goal

-- equal words have one instruction, and equal instructions one word
pub returns-clause-same : goal.returns-clause-same
returns-clause-same c =
    let mine = c.encode.ensures in
    let theirs = c.encode-2.ensures in (
      (λ same. one_instruction _ _ _ mine.value (subst (λ (w : ℕ). Encodes w c.args.other.now) (sym (eqb-true _ _ same)) theirs.value)),
      (λ same. eq-eqb _ _ (mine.computed ∙ ap encoded same ∙ sym theirs.computed)),
    )
