use Rattle.std.proofs.Common.{◌≡◌, ◌++◌, ◌+◌, ◌∙◌, ℕ, List, Some, ap, sym, subst, arith, rules}
use Rattle.std.specs.Arc.{arc_value}
use Rattle.std.proofs.lemmas.List.{append-nil}
use Rattle.guest_memory.specs.Memory.{Memory}
use Rattle.paged_memory.specs.Page.{PageValue}
use Rattle.paged_memory.specs.PageMap.{PageMap}
use Rattle.paged_memory.specs.Snapshot.{cells_of, pages_of}
use Rattle.sha2.specs.Hashers.{Holds256}
use Rattle.sha2.specs.Sha256.{sha256}
use Rattle.sha2.specs.declared.Sha256.{Sha256}
use Rattle.run_digest.specs.Memories.{memory_message, message_below, page_message}
use Rattle.run_digest.proofs.PageBytes.{message_more, message_nowhere, message_there}
use Rattle.run_digest.proofs.memory_hash.memory_hash.Goals as goal
use Rattle.run_digest.proofs.memory_hash.memory_hash.Goals.{in-Some+in_ok-add_page-in-Some, in-None}

pub loop-number-init : goal.loop-number-init
unfolding message_below
loop-number-init c = c.new-hasher.ensures

pub loop-number-preserved : goal.loop-number-preserved
loop-number-preserved c =
    let memory : Memory = cells_of c.args.memory.now in
    let pages : PageMap = pages_of c.args.memory.now in
    let number : ℕ = c.loop-number.number in
    elim c.match-page.branch [
      | in-Some+in_ok-add_page-in-Some w ↦
          let found = rw w.in-Some.is at c.page.ensures in
          let page : PageValue = w.deref.result.now in
          let same : page ≡ arc_value w.in-Some.page.now = search rules in
          let is : pages number ≡ Some page = sym found ∙ ap Some (sym same) in
          let added = w.in_ok-add_page-in-Some.ensures.added (message_below memory number) c.loop-number.invariant in
          let more : message_below memory number ++ page_message number page ≡ message_below memory (number + 1) =
          ap (λ (message : List ℕ). message_below memory number ++ message) (sym (message_there pages number page is w.add_page.ensures.size)) ∙ sym (message_more memory number) in
          subst (λ (hasher : Sha256). Holds256 hasher (message_below memory (number + 1))) (sym w.hasher-is)
          (subst (λ (message : List ℕ). Holds256 w.add_page.new.hasher message) more added)
      | in-None w ↦
          let found = rw w.in-None.is at c.page.ensures in
          let more : message_below memory number ≡ message_below memory (number + 1) = sym (message_more memory number ∙ ap (λ (message : List ℕ). message_below memory number ++ message) (message_nowhere pages number (sym found)) ∙ append-nil _) in
          subst (λ (hasher : Sha256). Holds256 hasher (message_below memory (number + 1))) (sym w.hasher-is)
          (subst (λ (message : List ℕ). Holds256 c.loop-number.hasher message) more c.loop-number.invariant)
    ]

pub returns : goal.returns
unfolding memory_message
returns c =
    let memory : Memory = cells_of c.args.memory.now in
    let all : c.loop-number.number ≡ 1048576 = omega arith in
    c.finalize.ensures (message_below memory c.loop-number.number) c.loop-number.invariant ∙ ap (λ (number : ℕ). sha256 (message_below memory number)) all
