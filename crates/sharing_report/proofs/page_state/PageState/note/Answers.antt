use Rattle.std.proofs.Common.{◌≡◌, ◌≤◌, ◌+◌, ◌%◌, ◌++◌, ◌∷◌, [], ℕ, List, map, length, sym, subst, ap, arith, length-append}
use Rattle.std.proofs.lemmas.List.{length-map, map_push}
use Rattle.std.proofs.lemmas.List.Elements.{All-map}
use Rattle.sharing_report.specs.Sharing.{phase_mark, spot_mark}
use Rattle.sharing_report.specs.Tallies.{CountsClashes, CountsShared, CountsTurns, IsThreadSet}
use Rattle.sharing_report.specs.declared.byte_change.ByteChange.{ByteChange}
use Rattle.sharing_report.specs.declared.mark.Mark.{Mark}
use Rattle.sharing_report.specs.declared.mark.PhaseAddress.{PhaseAddress}
use Rattle.sharing_report.proofs.page_state.PageState.note.Goals as goal

pub returns : goal.returns
returns c page bytes has upto is few =
    let byte : ByteChange = record { turn = c.args.turn; phase = c.args.phase; thread = c.args.thread; address = c.args.address; page = page } in
    let turn_of : ByteChange → ℕ = λ one. one.turn in
    let thread_of : ByteChange → ℕ = λ one. one.thread in
    let was = has.count in
    let added = c.saturating_add-self.ensures in
    let spot : page + c.args.address % 4096 ≡ c.args.address = omega (arith, is) in
    let clash = c.add-4.ensures page (map spot_mark bytes) has.clashes (All-map (λ (mark : Mark PhaseAddress). mark.place.phase ≤ c.args.phase) spot_mark bytes (λ k d inside. (upto k d inside).1)) (omega (arith, length-map bytes spot_mark)) in
    record {
      turns = subst (CountsTurns c.add.new.self) (sym (map_push turn_of bytes byte))
          (c.add.ensures (map turn_of bytes) has.turns (All-map (λ other. other ≤ c.args.turn) turn_of bytes (λ k d inside. (upto k d inside).0)) (omega (arith, length-map bytes turn_of)));
      count = omega (arith, length-append bytes (byte ∷ []));
      threads = subst (IsThreadSet c.add-2.new.self) (sym (map_push thread_of bytes byte))
          (c.add-2.ensures (map thread_of bytes) has.threads (omega (arith, length-map bytes thread_of)));
      shared = subst (CountsShared c.add-3.new.self) (sym (map_push phase_mark bytes byte))
          (c.add-3.ensures (map phase_mark bytes) has.shared (All-map (λ (mark : Mark ℕ). mark.place ≤ c.args.phase) phase_mark bytes (λ k d inside. (upto k d inside).1)) (omega (arith, length-map bytes phase_mark)));
      clashes = subst (CountsClashes c.add-4.new.self page) (sym (map_push spot_mark bytes byte))
          (subst (λ (address : ℕ). CountsClashes c.add-4.new.self page (map spot_mark bytes ++ record { place = record { phase = c.args.phase; address = address }; thread = c.args.thread } ∷ [])) spot clash);
    }
