use Rattle.std.proofs.Common.{◌≡◌, ◌∙◌, ◌++◌, ◌-◌, ℕ, ap, take, length, min, arith, sym, List, ⊎_elim}
use Rattle.std.specs.List.{flat_map}
use Rattle.std.proofs.lemmas.Bool.{cases_lt}
use Rattle.std.proofs.lemmas.List.{take_all}
use Rattle.races.specs.FindingTexts.{finding_text, text_of}
use Rattle.races.specs.Texts.{left_text}
use Rattle.races.specs.declared.finding.Finding.{Finding}
use Rattle.races.proofs.text.findings_text.Goals as goal

take_upto : (most count : ℕ) (findings : List Finding) → count ≡ min (length findings) most → take count findings ≡ take most findings
take_upto most count findings is = ⊎_elim
    (λ few. take_all count findings (omega arith) ∙ sym (take_all most findings (omega arith)))
    (λ many. let same : count ≡ most = omega arith in ap (λ (n : ℕ). take n findings) same)
    (cases_lt (length findings) most)

pub returns : goal.returns
unfolding text_of
returns c =
    let findings : List Finding = c.args.findings.now in
    let shown : List Finding = c.split_at.result.0.now in
    let left : List Finding = c.split_at.result.1.now in
    let whole : take c.loop-finding.finding-index shown ≡ shown = take_all c.loop-finding.finding-index shown c.loop-finding-test.false in
    let first : shown ≡ take 10000 findings = c.split_at.ensures.front ∙ take_upto 10000 c.min.result findings c.min.ensures in
    let least = c.min.ensures in
    let parts = c.split_at.ensures.back_len in
    let count : length left ≡ length findings - 10000 = omega arith in
    c.in_ok-write_left.ensures
    ∙ ap (λ (text : List ℕ). text ++ left_text (length left)) (c.loop-finding.invariant ∙ ap (flat_map (finding_text c.args.symbols.now)) (whole ∙ first))
    ∙ ap (λ (n : ℕ). flat_map (finding_text c.args.symbols.now) (take 10000 findings) ++ left_text n) count
