use Rattle.std.proofs.Common.{◌≡◌, ◌⊎◌, ℕ, Result, Ok, Err, IfErr, OnOk, inl, inr, refl}
use Rattle.command_requests.specs.Status.{failure_status}
use Rattle.command_requests.specs.declared.failure.Failure.{Failure}
use Rattle.command_line.proofs.performing.perform_request.Goals as goal

-- a listing was printed, or it wasn't, and so is the status
concluded : {T : Type 0} (answer : Result T Failure) (status : ℕ) (Listed : Type 0) (Unlisted : Failure → Type 0) → OnOk answer Listed → IfErr answer Unlisted
    → OnOk answer (status ≡ 0) → IfErr answer (λ failure. status ≡ failure_status failure)
    → ((status ≡ 0) × Listed) ⊎ ((failure : Failure) × (status ≡ failure_status failure) × Unlisted failure)
concluded (Ok done) status Listed Unlisted listed unlisted good failed = inl (good, listed)
concluded (Err failure) status Listed Unlisted listed unlisted good failed = inr (failure, failed, unlisted)

pub returns-in-Info-clause-performed : goal.returns-in-Info-clause-performed
returns-in-Info-clause-performed g c =
    rw c.in-Info.is (
      concluded c.info.result c.conclude_listing-in-Info.result _ _ c.info.ensures.printed c.info.ensures.failed c.conclude_listing-in-Info.ensures.printed c.conclude_listing-in-Info.ensures.failed,
      refl,
    )

pub returns-in-Disasm-clause-performed : goal.returns-in-Disasm-clause-performed
returns-in-Disasm-clause-performed g c =
    rw c.in-Disasm.is (
      concluded c.disasm.result c.conclude_listing.result _ _ c.disasm.ensures.printed c.disasm.ensures.failed c.conclude_listing.ensures.printed c.conclude_listing.ensures.failed,
      refl,
    )
