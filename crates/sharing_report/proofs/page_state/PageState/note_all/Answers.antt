use Rattle.std.proofs.Common.{◌≡◌, ◌<◌, ◌+◌, ◌*◌, ◌/◌, ◌++◌, ◌∷◌, ◌∙◌, [], ℕ, List, length, take, get_or, ap, sym, subst, arith, length-append}
use Rattle.std.proofs.lemmas.List.{append-nil, length-map, length-take-le, take_all, take_more}
use Rattle.sharing_report.specs.ByteChanges.{byte_by, bytes_by}
use Rattle.sharing_report.specs.Pages.{Knows}
use Rattle.sharing_report.specs.declared.byte_change.ByteChange.{ByteChange}
use Rattle.sharing_report.proofs.Noting.{by_append, upto_more}
use Rattle.sharing_report.proofs.page_state.PageState.note_all.Goals as goal

pub loop-address-init : goal.loop-address-init
loop-address-init c page bytes has upto of few = subst (Knows c.args.self.now page) (sym (append-nil bytes)) has

pub loop-address-preserved : goal.loop-address-preserved
loop-address-preserved c page bytes has upto of few =
    let addresses : List ℕ = c.args.addresses.now in
    let index : ℕ = c.loop-address.address-index in
    let prefix : List ℕ = take index addresses in
    let address : ℕ = get_or addresses index 0 in
    let before : List ByteChange = bytes ++ bytes_by c.args.turn c.args.phase c.args.thread prefix in
    let knows = c.loop-address.invariant page bytes has upto of few in
    let is : address / 4096 * 4096 ≡ page = of index 0 (omega arith) in
    let short : length before < 18446744073709551615 = omega (arith, length-append bytes (bytes_by c.args.turn c.args.phase c.args.thread prefix), length-map prefix (byte_by c.args.turn c.args.phase c.args.thread), length-take-le index addresses (omega arith)) in
    let inside : index < length addresses = omega arith in
    let noted = c.note.ensures page before knows (upto_more c.args.turn c.args.phase c.args.thread bytes prefix upto) is short in
    let last = subst (λ (p : ℕ). Knows c.note.new.self page (before ++ record { turn = c.args.turn; phase = c.args.phase; thread = c.args.thread; address = address; page = p } ∷ [])) (sym is) noted in
    subst (Knows c.note.new.self page)
    (sym (ap (λ (all : List ℕ). bytes ++ bytes_by c.args.turn c.args.phase c.args.thread all) (take_more addresses index 0 inside) ∙ by_append c.args.turn c.args.phase c.args.thread bytes prefix (address ∷ [])))
    last

pub returns : goal.returns
returns c page bytes has upto of few =
    let addresses : List ℕ = c.args.addresses.now in
    let whole : take c.loop-address.address-index addresses ≡ addresses = take_all c.loop-address.address-index addresses (omega arith) in
    subst (λ (all : List ℕ). Knows c.loop-address.self page (bytes ++ bytes_by c.args.turn c.args.phase c.args.thread all)) whole (c.loop-address.invariant page bytes has upto of few)
