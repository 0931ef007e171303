use Rattle.std.proofs.Common.{◌≡◌, ◌<◌, ◌+◌, ◌%◌, ◌++◌, ◌∷◌, ◌∙◌, [], ℕ, List, length, ap, sym, subst, arith, length-append}
use Rattle.std.proofs.lemmas.List.{length-map}
use Rattle.token.specs.Change.{Change, change_by}
use Rattle.sharing_report.specs.ByteChanges.{byte_change, bytes_by, bytes_of, bytes_of_turn}
use Rattle.sharing_report.specs.Pages.{AreKnown, AreUpTo, HasPages}
use Rattle.sharing_report.specs.declared.byte_change.ByteChange.{ByteChange}
use Rattle.sharing_report.proofs.Recorded.{bytes_of-snoc, order_before, phases_upto, thread_small, upto_all}
use Rattle.sharing_report.proofs.sharing_recorder.SharingRecorderRecorder.record.Goals as goal

pub returns : goal.returns
returns c addresses turns changes ready has =
    let recorder = c.args.self.now in
    let turn = c.args.turn in
    let change : Change = change_by turn addresses in
    let told : List ℕ = c.deref.result.now in
    let at_hand : told ≡ addresses = c.deref.ensures.value ∙ ready.at_hand in
    let more = ap length (bytes_of-snoc changes change) in
    let long = ap length at_hand in
    let counted = has.counted in
    let room = ready.room in
    let turns = has.turns in
    let longer = length-append changes (change ∷ []) in
    let bytes_longer = length-append (bytes_of changes) (bytes_of_turn (length changes) change) in
    let changed = length-map addresses (byte_change (length changes) change) in
    record {
      turns = let added = c.saturating_add-self.ensures in omega (arith, longer);
      counted = let added = c.saturating_add-self-2.ensures in let further = c.saturating_add.ensures in omega (arith, longer, bytes_longer, changed);
      pages = λ order.
          let known = has.pages (order_before changes change order) in
          let small : turn.thread < 256 = thread_small changes change order in
          let same : turn.thread % 256 ≡ turn.thread = omega arith in
          let upto : AreUpTo recorder.turns turn.phase (bytes_of changes) = subst (λ (n : ℕ). AreUpTo n turn.phase (bytes_of changes)) (sym turns) (upto_all changes turn.phase (phases_upto changes change order)) in
          let pages : HasPages recorder.pages told = subst (HasPages recorder.pages) (sym at_hand) ready.pages in
          let short : length (bytes_of changes) + length told < 18446744073709551615 = omega (arith, longer, bytes_longer, changed) in
          let noted = c.note_turn.ensures (bytes_of changes) known pages upto short in
          let whole =
          ap (λ (all : List ℕ). bytes_of changes ++ bytes_by recorder.turns turn.phase (turn.thread % 256) all) at_hand
          ∙ ap (λ (n : ℕ). bytes_of changes ++ bytes_by n turn.phase (turn.thread % 256) addresses) turns
          ∙ ap (λ (thread : ℕ). bytes_of changes ++ bytes_by (length changes) turn.phase thread addresses) same
          ∙ sym (bytes_of-snoc changes change) in
          subst (AreKnown c.note_turn.new.pages) whole noted;
    }
