use Rattle.std.proofs.Common.{◌≡◌, ℕ, ◌+◌, ◌*◌, ◌≤◌, List, ◌++◌, Result, Ok, Err, length, ◌∙◌, ap, ap₂, arith}
use Rattle.std.specs.Prelude.{OnOk}
use Rattle.std.specs.Arc.{arc_value}
use Rattle.paged_memory.specs.Page.{PageValue}
use lib.Lanes.{chunk}
use Rattle.commit.specs.Bytes.{differing_from}
use Rattle.commit.specs.Mine.{bytes_left}
use Rattle.commit.proofs.Parts.{differing-part, length-part}
use Rattle.commit.proofs.changed_page.ChangedPage.push_addresses.Goals as goal

on-ok : {A E : Type 0} (answer : Result A E) {P Q : Type 0} → (P → Q) → OnOk answer P → OnOk answer Q
on-ok (Ok done) then held = then held
on-ok (Err error) then held = tt

pub returns-in-Group-clause-pushed : goal.returns-in-Group-clause-pushed
unfolding bytes_left
returns-in-Group-clause-pushed c =
    let copy : List ℕ = (arc_value c.self.inside.copy).bytes in
    let at : ℕ = c.in-Group.group.at in
    let bytes : List ℕ = c.in-Group.group.bytes in
    let copied : c.bytes.result.now ≡ copy = c.bytes.ensures.bytes ∙ ap (λ (value : PageValue). value.bytes) c.deref.ensures in
    let size : length copy ≡ 4096 = rw (← c.deref.ensures) c.bytes.ensures.size in
    let within : at + 128 ≤ length copy = omega (arith, c.in-Group.group.inside, size) in
    let first : c.self.inside.number * 4096 ≡ 4096 * c.self.inside.number = omega arith in
    rw (← c.self.view_is, c.in-Group.is)
    (on-ok c.push_differing.result (λ pushed. pushed ∙ ap (λ (more : List ℕ). c.args.addresses.now.items ++ more)
    (ap₂ (λ (n : ℕ) (found : List ℕ). differing_from (n + at) (chunk at 128 found) bytes) first copied
    ∙ differing-part copy at 128 within bytes c.in-Group.group.full (4096 * c.self.inside.number))) c.push_differing.ensures)

pub returns-in-Group-clause-mine : goal.returns-in-Group-clause-mine
unfolding bytes_left
returns-in-Group-clause-mine c =
    let copy : List ℕ = (arc_value c.self.inside.copy).bytes in
    let size : length copy ≡ 4096 = rw (← c.deref.ensures) c.bytes.ensures.size in
    rw (← c.self.view_is, c.in-Group.is) (length-part copy c.in-Group.group.at 128 (omega (arith, c.in-Group.group.inside, size)) c.in-Group.group.bytes c.in-Group.group.full ∙ size)

pub returns-in-Page-clause-pushed : goal.returns-in-Page-clause-pushed
unfolding bytes_left
returns-in-Page-clause-pushed c =
    let first : c.self.inside.number * 4096 ≡ 4096 * c.self.inside.number = omega arith in
    rw (← c.self.view_is, c.in-Page.is) (rw (← c.deref-in-Page.ensures, ← c.deref-in-Page-2.ensures, ← c.bytes-in-Page.ensures.bytes, ← c.bytes-in-Page-2.ensures.bytes, ← first) c.push_differing-in-Page.ensures)

pub returns-in-Page-clause-mine : goal.returns-in-Page-clause-mine
unfolding bytes_left
returns-in-Page-clause-mine c = rw (← c.self.view_is, c.in-Page.is) (rw (← c.deref-in-Page-2.ensures) c.bytes-in-Page-2.ensures.size)
