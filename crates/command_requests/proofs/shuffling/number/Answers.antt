use Rattle.std.proofs.Common.{false, arith}
use Rattle.std.proofs.lemmas.Str.Pattern.{starts_char}
use Rattle.std.specs.Prelude.{◌≢◌, slice_index}
use Rattle.command_requests.proofs.Numerals.{read, unread}
use Rattle.command_requests.proofs.shuffling.number.Goals as goal

pub returns-in-Ok : goal.returns-in-Ok
returns-in-Ok c =
    let plain : slice_index c.args.text.now 0 ≢ 43 = λ plus. (let begins = (starts_char 43 c.args.text.now false c.if-starts_with.ensures.cases (omega arith) (omega arith)).1 plus in cc) in
    read 64 c.args.least c.args.text.now c.in-Ok.number c.in-Ok.ensures.value.0 plain (omega arith)

pub returns-in_default-2 : goal.returns-in_default-2
returns-in_default-2 c =
    let plain : slice_index c.args.text.now 0 ≢ 43 = λ plus. (let begins = (starts_char 43 c.args.text.now false c.if-starts_with.ensures.cases (omega arith) (omega arith)).1 plus in cc) in
    unread _ 64 c.args.least c.args.text.now c.in_default.field-0 c.in_default.ensures.value.0 plain
