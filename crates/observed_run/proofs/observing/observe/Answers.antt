use Rattle.std.proofs.Common.{◌≡◌, ◌∙◌, ℕ, ap, sym, subst, arith}
use Rattle.std.proofs.lemmas.Result.{IfOk-weaker}
use Rattle.decoded_code.specs.Code.{HasCode}
use Rattle.guest_memory.specs.Memory.{Memory}
use Rattle.hart.proofs.Segments.{begun}
use Rattle.hart.specs.Slice.{Runs}
use Rattle.hart.specs.declared.stop.Stop.{Stop}
use Rattle.paged_memory.specs.PageMap.{memory_of_pages}
use Rattle.paged_memory.specs.Snapshot.{cells_of}
use Rattle.twins.specs.View as views
use Rattle.observed_run.specs.Events.{events_upto, steps_before}
use Rattle.observed_run.specs.Told.{IsTold}
use Rattle.observed_run.proofs.Told.{none_done, not_used_up, told_none}
use Rattle.segment.proofs.Ending.{end_of}
use Rattle.observed_run.proofs.observing.observe.Goals as goal

pub loop-view-init : goal.loop-view-init
unfolding events_upto
loop-view-init c =
    let opened = c.open-memory.ensures in
    let segment = c.args.segment in
    let cells : views.cells_of c.open-memory.result ≡ cells_of c.args.base.now = ap memory_of_pages (opened.pages ∙ c.in_ok-try_clone.ensures.pages) in
    let below : cells_of (views.base_of c.open-memory.result) ≡ cells_of c.args.base.now = ap cells_of opened.base ∙ ap memory_of_pages c.in_ok-try_clone.ensures.pages in
    record {
      runs = subst (λ (memory : Memory). Runs c.args.segment.hart (cells_of c.args.base.now) c.args.segment.left c.args.segment.quantum 0 c.args.segment.hart memory) (sym cells) (begun _ _ _ _);
      may = record { bound = omega arith; quantum = none_done segment.quantum };
      base = below;
      code = subst (λ (memory : Memory). HasCode c.code-code.result.start c.code-code.result.entries.now memory) (sym cells) c.code-code.ensures;
      told = told_none c.args.recorder.now;
    }

pub loop-view-preserved : goal.loop-view-preserved
loop-view-preserved c =
    let copy : Memory = cells_of c.args.base.now in
    let segment = c.args.segment in
    let so_far = c.loop-view.invariant in
    let observed = rw c.in-Unfinished.is at c.in_ok-end.ensures.observed in
    record {
      runs = observed.ends segment.hart copy so_far.runs;
      may = record { bound = omega (arith, observed.ahead.1); quantum = not_used_up segment.quantum c.in-Unfinished.count observed.ahead.2 };
      base = c.observe_some.ensures.base ∙ so_far.base;
      code = c.observe_some.ensures.code;
      told = observed.told segment.hart copy c.args.recorder.now so_far.runs so_far.told;
    }

pub returns-in-Stopped-clause-end : goal.returns-in-Stopped-clause-end
returns-in-Stopped-clause-end c =
    let copy : Memory = cells_of c.args.base.now in
    let view = c.observe_some.new.view.memory.memory in
    let so_far = c.loop-view.invariant in
    let observed = rw c.in-Stopped.is at c.in_ok-end.ensures.observed in
    let there = observed.ends c.args.segment.hart copy so_far.runs in
    let base = c.observe_some.ensures.base ∙ so_far.base in
    IfOk-weaker c.of.result _ _ (λ end is. end_of c.args.segment copy c.in-Stopped.stop c.in-Stopped.count c.observe_some.new.hart view end base there is) c.of.ensures

pub returns-in-Stopped-clause-told : goal.returns-in-Stopped-clause-told
returns-in-Stopped-clause-told c =
    let copy : Memory = cells_of c.args.base.now in
    let segment = c.args.segment in
    let so_far = c.loop-view.invariant in
    let observed = rw c.in-Stopped.is at c.in_ok-end.ensures.observed in
    let told = observed.told segment.hart copy c.args.recorder.now so_far.runs so_far.told in
    IfOk-weaker c.of.result _ _
    (λ end is.
    subst (λ (stop : Stop). IsTold c.args.recorder.now c.observe_some.new.recorder (events_upto c.args.actor segment.hart copy (steps_before stop end.count))) (sym is.stop_is)
    (subst (λ (count : ℕ). IsTold c.args.recorder.now c.observe_some.new.recorder (events_upto c.args.actor segment.hart copy (steps_before c.in-Stopped.stop count))) (sym is.count_is) told))
    c.of.ensures
