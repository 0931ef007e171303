use Rattle.std.proofs.Common.{◌≡◌, ◌∙◌, ap, sym, subst, arith, length, ◌<◌, ℕ, List}
use Rattle.std.proofs.lemmas.Grind.{common_steps}
use Rattle.std.proofs.lemmas.List.Elements.{All-get_or}
use Rattle.std.specs.Prelude.{All, slice_index}
use Rattle.paged_memory.specs.PageMap.{memory_of_pages}
use Rattle.schedule_core.specs.Jobs.{jobs_of, work_at, work_of}
use Rattle.schedule_core.specs.Scene.{start_in}
use Rattle.schedule_core.proofs.scene.Scene.next_seat.Goals as goal

pub bounds-as_slice-self : goal.bounds-as_slice-self
unfolding jobs_of
bounds-as_slice-self c =
    let list : c.as_slice.result.now ≡ jobs_of (start_in c.args.self.now) = c.as_slice.ensures.value ∙ c.jobs-jobs.ensures.jobs in
    let jobs = c.requires.desk.jobs in
    let below : c.args.self.now.drawn < length c.args.self.now.slots.items = grind (arith, common_steps) in
    omega (arith, ap length list)

pub work_of-work-requires : goal.work_of-work-requires
unfolding jobs_of
work_of-work-requires c =
    let list : c.as_slice.result.now ≡ jobs_of (start_in c.args.self.now) = c.as_slice.ensures.value ∙ c.jobs-jobs.ensures.jobs in
    let jobs = c.requires.desk.jobs in
    let below : c.args.self.now.drawn < length c.args.self.now.slots.items = grind (arith, common_steps) in
    let within : c.args.self.now.drawn < length c.as_slice.result.now = omega (arith, ap length list) in
    let all : All (λ n. n < length (start_in c.args.self.now).threads) c.as_slice.result.now =
    subst (All (λ n. n < length (start_in c.args.self.now).threads)) (sym c.as_slice.ensures.value) c.jobs-jobs.ensures.made in
    All-get_or (λ n. n < length (start_in c.args.self.now).threads) c.as_slice.result.now c.args.self.now.drawn 0 within all

pub returns-clause-seat : goal.returns-clause-seat
unfolding jobs_of work_at
returns-clause-seat c =
    let start = start_in c.args.self.now in
    let list : c.as_slice.result.now ≡ jobs_of (start_in c.args.self.now) = c.as_slice.ensures.value ∙ c.jobs-jobs.ensures.jobs in
    let jobs = c.requires.desk.jobs in
    let below : c.args.self.now.drawn < length c.args.self.now.slots.items = grind (arith, common_steps) in
    record {
      underway = c.begin.ensures.underway;
      job = omega arith;
      work = c.begin.ensures.work ∙ c.work_of-work.ensures ∙ ap (λ (list : List ℕ). work_of (start_in c.args.self.now) (slice_index list c.args.self.now.drawn)) list;
      memory = c.begin.ensures.memory ∙ ap memory_of_pages c.in_ok-base.ensures.pages ∙ c.base.ensures;
    }
