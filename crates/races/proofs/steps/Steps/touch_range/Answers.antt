use Rattle.std.proofs.Common.{◌++◌, ◌∙◌, List, ap, append_assoc, subst}
use Rattle.std.proofs.lemmas.Result.{on_ok_weaker}
use Rattle.races.specs.Recording.{Adds, KnowsSteps}
use Rattle.races.specs.Steps.{Step}
use Rattle.races.specs.declared.steps.Steps.{Steps}
use Rattle.races.proofs.steps.Steps.touch_range.Goals as goal

-- steps that are added one after another
added_thrice : (old one two new : Steps) (first second third : List Step) → Adds old first one → Adds one second two → Adds two third new → Adds old (first ++ second ++ third) new
added_thrice old one two new first second third begin next last steps knows =
    subst (KnowsSteps new) (ap (λ (some : List Step). some ++ third) (append_assoc steps first second) ∙ append_assoc steps (first ++ second) third) (last ((steps ++ first) ++ second) (next (steps ++ first) (begin steps knows)))

pub returns : goal.returns
returns c =
    let first = rw c.of_range.ensures at c.in_ok-touch_some.ensures in
    let second = rw c.of_range-2.ensures at c.in_ok-touch_some-2.ensures in
    on_ok_weaker c.touch_some-3.result (λ third. added_thrice _ _ _ _ _ _ _ first second (rw c.of_range-3.ensures at third)) c.touch_some-3.ensures
