use Rattle.std.proofs.Common.{◌≡◌, ◌∙◌, ◌≤◌, ℕ, ap, arith, refl, length}
use Rattle.std.proofs.lemmas.Grind.{common_steps}
use Rattle.schedule.specs.Phase.{opened}
use Rattle.schedule_core.proofs.Turning.{opened_desk, opened_told}
use Rattle.schedule_core.specs.Jobs.{jobs_of}
use Rattle.schedule_core.specs.Scene.{start_in}
use Rattle.schedule_core.proofs.scene.Scene.open_phase.Goals as goal

pub returns : goal.returns
unfolding jobs_of
returns c =
    let jobs : c.len-jobs.result ≡ length (jobs_of (start_in c.args.self.now)) = c.len-jobs.ensures.value ∙ ap length c.jobs.ensures.jobs in
    let few : c.len-workers.result ≤ 64 = grind (arith, common_steps) in
    let fits = c.len-jobs.ensures.fits in
    let workers : c.len-workers.result ≡ length c.args.self.now.seats.items = grind (arith, common_steps) in
    record {
      sound = record {
        desk = opened_desk (start_in c.args.self.now) c.len-jobs.result c.len-workers.result _ _ c.add_idle.ensures.items c.add_open.ensures.items jobs few (omega arith);
        keeper = rw c.requires.keeper tt;
        outcome = c.requires.outcome;
        room = record { slots = grind (arith, common_steps); seats = grind (arith, common_steps) };
      };
      serial = refl;
      keeper = c.requires.keeper;
      counts =
          opened_told c.len-jobs.result c.len-workers.result _ _ c.add_idle.ensures.items c.add_open.ensures.items
          ∙ ap (λ (jobs : ℕ). opened jobs c.len-workers.result) jobs ∙ ap (λ (workers : ℕ). opened (length (jobs_of (start_in c.args.self.now))) workers) workers;
    }
