use Rattle.std.proofs.Common.{◌≡◌, ◌<◌, ◌+◌, ◌*◌, ◌/◌, ◌++◌, ◌∙◌, ℕ, List, [], length, get_or, ap, refl, subst, sym, arith, rules, append_assoc, length-append}
use Rattle.std.specs.Prelude.{IsSome}
use Rattle.std.specs.Ordering.{nat_cmp}
use Rattle.std.specs.BTreeMap.{get}
use Rattle.std.proofs.lemmas.List.{append-nil, get_or-append-add, length-map}
use Rattle.sharing_report.specs.ByteChanges.{byte_by, bytes_by}
use Rattle.sharing_report.specs.Pages.{AreKnown, AreOfPage}
use Rattle.sharing_report.specs.declared.byte_change.ByteChange.{ByteChange}
use Rattle.sharing_report.proofs.Noting.{by_append, upto_more}
use Rattle.sharing_report.proofs.page_states.note_turn.Goals as goal

pub pages-init : goal.pages-init
pages-init c = ([], refl, λ bytes known has upto few. (subst (AreKnown c.args.pages.now) (sym (append-nil bytes)) known, has))

pub pages-preserved : goal.pages-preserved
pages-preserved c =
    let prefix : List ℕ = c.pages.invariant.0 in
    let split = c.pages.invariant.1 in
    let rest : List ℕ = c.pages.rest.now in
    let run : List ℕ = c.split_at.result.0.now in
    let later : List ℕ = c.split_at.result.1.now in
    let addresses : List ℕ = c.args.addresses.now in
    let page : ℕ = c.page_of-page.result in
    let turn = c.args.turn in
    let phase = c.args.phase in
    let thread = c.args.thread in
    let some : 0 < length rest = search rules in
    let long : length addresses ≡ length prefix + length rest = ap length (sym split) ∙ length-append prefix rest in
    let parts : length rest ≡ length run + length later = ap length c.split_at.ensures.by_index.0 ∙ length-append run later in (
      prefix ++ run,
      append_assoc prefix run later ∙ ap (λ (one : List ℕ). prefix ++ one) (sym c.split_at.ensures.by_index.0) ∙ split,
      λ bytes known has upto few.
          let were = c.pages.invariant.2 bytes known has upto few in
          let before : List ByteChange = bytes ++ bytes_by turn phase thread prefix in
          let at : get_or addresses (length prefix + 0) 0 ≡ get_or rest 0 0 = ap (λ (all : List ℕ). get_or all (length prefix + 0) 0) (sym split) ∙ get_or-append-add prefix rest 0 0 in
          let there : IsSome (get nat_cmp c.pages.pages page) =
          subst (λ (one : ℕ). IsSome (get nat_cmp c.pages.pages one)) (ap (λ (address : ℕ). address / 4096 * 4096) at ∙ sym c.page_of-page.ensures) (were.1 (length prefix + 0) 0 (omega arith)) in
          let short : length before + length run < 18446744073709551615 =
          omega (arith, length-append bytes (bytes_by turn phase thread prefix), length-map prefix (byte_by turn phase thread)) in (
            subst (AreKnown c.note_page.new.pages) (sym (by_append turn phase thread bytes prefix run))
                (c.note_page.ensures.known before were.0 there (upto_more turn phase thread bytes prefix upto) short),
            λ k d inside. c.note_page.ensures.kept _ (were.1 k d inside),
          ),
    )
