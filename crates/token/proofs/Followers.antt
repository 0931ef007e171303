-- Which step follows a history, by who is due.
use Rattle.std.proofs.Common.{◌≡◌, ℕ, None, refl}
use Rattle.token.specs.Due.{PrivateRun}
use Rattle.token.specs.History.{History, last_outcome, present, version}
use Rattle.token.specs.Legal.{Follows, IsDue, RunsPrivately, base_of, step_of}
use Rattle.token.specs.Setup.{Setup}
use Rattle.token.specs.Turns.{Step, run_step, wake_step}
use Rattle.token.specs.declared.due.Due.{Due}
use Rattle.token.specs.declared.due.Due.TheVariants as due

-- the step of who is due
abbrev pub step_from : Setup → History → ℕ → (who : Due) → PrivateRun who → Step
step_from setup history phase who ran =
    let number : ℕ = base_of history phase who in
    step_of (present setup history) (version setup history number) phase number who ran

pub follower : (setup : Setup) (history : History) (phase : ℕ) (who : Due) (ran : PrivateRun who) → IsDue setup history phase who
    → RunsPrivately setup (version setup history (base_of history phase who)) phase who ran → last_outcome history ≡ None → Follows setup history (step_from setup history phase who ran)
unfolding run_step wake_step
follower setup history phase (due.Fresh thread) ran is runs cut =
    record { who = due.Fresh thread; ran = ran; order = is; base = refl; private_memory = runs; commit_then_call = refl; cut = cut }
follower setup history phase (due.Keeper thread) ran is runs cut =
    record { who = due.Keeper thread; ran = ran; order = is; base = refl; private_memory = runs; commit_then_call = refl; cut = cut }
follower setup history phase (due.Woken thread mutex) ran is runs cut =
    record { who = due.Woken thread mutex; ran = ran; order = is; base = refl; private_memory = runs; commit_then_call = refl; cut = cut }
