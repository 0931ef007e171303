use Rattle.std.proofs.Common.{◌≡◌, ◌%◌, ◌^◌, ◌≤◌, ◌∷◌, [], ◌++◌, length, refl, ap, sym, ◌∙◌, arith}
use Rattle.std.specs.Arc.{arc_value}
use Rattle.paged_memory.specs.Page.{PageValue}
use Rattle.commit.specs.Bytes.{differing_count}
use Rattle.commit.specs.Merge.{changed_byte}
use Rattle.std.specs.Prelude.{slice_index}
use Rattle.commit.specs.Patched.{PageChange, addresses_with, patched, AreBelow}
use Rattle.commit.proofs.Growing.{AreBelow-more, AreCounted-more, patched-more, changed_byte-none, length-addresses_with}
use Rattle.commit.proofs.Comparing.{patched-same}
use Rattle.commit.proofs.changed_pages.ChangedPages.add.Goals as goal

pub overflow_add-self : goal.overflow_add-self
overflow_add-self c =
    let all : length (addresses_with (patched c.self.inside.pages.items)) ≤ 2 ^ 32 = length-addresses_with (patched c.self.inside.pages.items) in
    record { fits = omega arith }

pub invariant_of-self-then-found-gt0 : goal.invariant_of-self-then-found-gt0
invariant_of-self-then-found-gt0 c =
    let change : PageChange = record { number = c.args.number; copy = (arc_value c.args.copy.now).bytes; mine = c.args.mine.now.bytes } in
    let items : c.push.new.self.items ≡ c.self.inside.pages.items ++ change ∷ [] =
    c.in_ok-push.ensures.items ∙ ap (λ (one : PageChange). c.self.inside.pages.items ++ one ∷ []) c.in_ok-page.ensures in
    let copied : c.bytes.result.now ≡ change.copy = c.bytes.ensures.bytes ∙ ap (λ (value : PageValue). value.bytes) c.deref.ensures in
    let count : c.from.result ≡ differing_count change.copy change.mine = rw (c.from.ensures, c.compare_page-found.ensures.count_is, copied, c.bytes-2.ensures.bytes) refl in
    rw (items, count)
    (AreCounted-more c.self.inside.pages.items change c.self.inside.count c.self.invariant (rw c.self.view_is c.requires.below) c.requires.number
    (rw (← c.deref.ensures) c.bytes.ensures.size) c.bytes-2.ensures.size)

pub returns-in_ok-push : goal.returns-in_ok-push
returns-in_ok-push c =
    let change : PageChange = record { number = c.args.number; copy = (arc_value c.args.copy.now).bytes; mine = c.args.mine.now.bytes } in
    let items : c.push.new.self.items ≡ c.self.inside.pages.items ++ change ∷ [] =
    c.in_ok-push.ensures.items ∙ ap (λ (one : PageChange). c.self.inside.pages.items ++ one ∷ []) c.in_ok-page.ensures in
    let below : AreBelow c.self.inside.pages.items c.args.number = rw c.self.view_is c.requires.below in
    record {
      added = λ address. rw (items, ← c.self.view_is) (patched-more c.self.inside.pages.items change below address);
      below = rw items (AreBelow-more c.self.inside.pages.items change below);
    }

pub returns-else-found-gt0 : goal.returns-else-found-gt0
returns-else-found-gt0 c =
    let copied : c.bytes.result.now ≡ (arc_value c.args.copy.now).bytes = c.bytes.ensures.bytes ∙ ap (λ (value : PageValue). value.bytes) c.deref.ensures in
    let none : differing_count (arc_value c.args.copy.now).bytes c.args.mine.now.bytes ≡ 0 = rw (← copied, ← c.bytes-2.ensures.bytes, ← c.compare_page-found.ensures.count_is) (omega arith) in
    let size : length (arc_value c.args.copy.now).bytes ≡ 4096 = rw (← c.deref.ensures) c.bytes.ensures.size in
    record {
      added = patched-same c.args.self.now c.args.number (λ place. changed_byte (slice_index (arc_value c.args.copy.now).bytes (place % 4096)) (slice_index c.args.mine.now.bytes (place % 4096)))
          c.requires.below (λ place here. changed_byte-none (arc_value c.args.copy.now).bytes c.args.mine.now.bytes (size ∙ sym c.bytes-2.ensures.size) none (place % 4096));
      below = λ place inside. omega (arith, c.requires.below place inside);
    }
