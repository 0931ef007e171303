-- What a motion of a run that tells nobody comes to.
use Rattle.std.proofs.Common.{◌≡◌, Result, Ok, Err}
use Rattle.std.specs.Result.{IfOk, OnErr, result_ok}

pub if_moved : {A E F : Type 0} (outcome : Result A E) (result : Result A F) (P : Type 0) → result_ok result ≡ result_ok outcome → IfOk outcome (λ value. P) → IfOk result (λ value. P)
if_moved outcome (Err error) P same is = tt
if_moved (Ok value) (Ok other) P same is = is
if_moved (Err error) (Ok other) P same is = absurd (cc)

pub if_refused : {A E F : Type 0} (outcome : Result A E) (result : Result A F) (P : Type 0) → result_ok result ≡ result_ok outcome → OnErr outcome P → OnErr result P
if_refused outcome (Ok value) P same is = tt
if_refused (Err error) (Err other) P same is = is
if_refused (Ok value) (Err other) P same is = absurd (cc)

pub on_err : {A E : Type 0} (result : Result A E) (P : Type 0) → P → OnErr result P
on_err (Ok value) P is = tt
on_err (Err error) P is = is
