-- What follows where a call went well.
use Rattle.std.proofs.Common.{Result, Ok, Err, OnOk}

pub where_ok : {T E : Type 0} (result : Result T E) (P Q : Type 0) → (P → Q) → OnOk result P → OnOk result Q
where_ok (Ok value) P Q follows is = follows is
where_ok (Err fault) P Q follows is = tt

pub always : {T E : Type 0} (result : Result T E) (P : Type 0) → P → OnOk result P
always (Ok value) P is = is
always (Err fault) P is = tt
