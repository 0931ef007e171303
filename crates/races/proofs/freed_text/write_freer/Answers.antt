use Rattle.std.proofs.Common.{◌≡◌, ◌∙◌, ◌++◌, ℕ, List, ap, codes, decimal, append_assoc}
use Rattle.std.specs.String.{string_bytes}
use Rattle.std.proofs.lemmas.Result.{on_ok_weaker}
use Rattle.races.specs.FreedTexts.{death_text, freer_text}
use Rattle.races.proofs.freed_text.write_freer.Goals as goal

regroup : (t a b c : List ℕ) → ((t ++ a) ++ b) ++ c ≡ t ++ ((a ++ b) ++ c)
regroup t a b c = simp append_assoc

pub returns : goal.returns
unfolding freer_text
returns c =
    let old : List ℕ = string_bytes c.args.text.now in
    let name : List ℕ = codes " freed-by thread=" in
    let death : List ℕ = death_text c.args.site in
    on_ok_weaker c.write_death.result
    (λ done. done ∙ ap (λ (text : List ℕ). text ++ death) (c.in_ok-write_number.ensures ∙ ap (λ (n : ℕ). (old ++ name) ++ decimal n) c.from.ensures) ∙ regroup old name (decimal c.args.site.thread) death)
    c.write_death.ensures
