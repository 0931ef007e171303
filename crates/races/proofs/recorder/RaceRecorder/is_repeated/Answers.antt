use Rattle.std.proofs.Common.{◌++◌, ◌∙◌, List, refl, subst, sym}
use Rattle.races.specs.Recording.{KnowsSteps, depth_of}
use Rattle.races.specs.Steps.{Step}
use Rattle.races.specs.Steps.Step.{Touch}
use Rattle.races.specs.declared.steps.Steps.{Steps}
use Rattle.races.proofs.Telling.{outside_is, told_access, told_same}
use Rattle.races.proofs.recorder.RaceRecorder.is_repeated.Goals as goal

pub returns-clause-recorded : goal.returns-clause-recorded
returns-clause-recorded c = λ again.
    let old = c.args.self.now in
    let access = c.args.access.now in
    let step : Step = Touch access in
    told_access old (record old { steps = c.is_repeated.new.self }) access refl
    (λ steps knows.
    subst (λ (more : List Step). KnowsSteps c.is_repeated.new.self (steps ++ more)) (sym (outside_is (depth_of old.depths) access.site.thread step (sym c.is_outside.ensures ∙ c.if-not-is_outside.false)))
    (c.is_repeated.ensures.again again steps knows))

pub returns-clause-stays : goal.returns-clause-stays
returns-clause-stays c = λ other.
    let old = c.args.self.now in
    told_same old (record old { steps = c.is_repeated.new.self }) refl (λ steps knows. subst (λ (kept : Steps). KnowsSteps kept steps) (sym (c.is_repeated.ensures.stays other)) knows)
