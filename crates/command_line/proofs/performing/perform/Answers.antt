use Rattle.std.proofs.Common.{◌≡◌, ◌∙◌, ap, inl, inr, refl}
use Rattle.clap.specs.declared.error.kind.ErrorKind.TheVariants.{OutOfMemory}
use Rattle.command_requests.specs.Status.{failure_status}
use Rattle.command_line.proofs.performing.perform.Goals as goal

-- the words were made plain
pub returns-in-Ok : goal.returns-in-Ok
returns-in-Ok g c = rw (c.as_slice.ensures.value, c.in-Ok.ensures) at c.perform_words.ensures

-- or memory ran out for them
pub returns-in-Err : goal.returns-in-Err
returns-in-Err g c =
    let status : c.fail.result ≡ 125 = c.fail.ensures ∙ ap failure_status c.from.ensures in
    inr (
      inl (OutOfMemory, inl refl, record { memory = λ e. status; help = λ e. cc; version = λ e. cc; wrong = λ n a b. absurd (n refl) }),
      record { kept = λ n a. refl; printed = λ e. cc },
      refl,
    )
