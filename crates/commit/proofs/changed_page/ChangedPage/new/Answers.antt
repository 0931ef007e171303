use Rattle.std.proofs.Common.{ℕ, List, sym, ◌∙◌, ap}
use Rattle.std.specs.Arc.{arc_value}
use Rattle.paged_memory.specs.Page.{PageValue}
use Rattle.commit.specs.Mine.{bytes_left}
use Rattle.commit.proofs.changed_page.ChangedPage.new.Goals as goal

pub returns : goal.returns
returns c =
    ap (λ (page : PageValue). record { number = c.args.number; copy = page.bytes; mine = bytes_left page.bytes c.in_ok-mine.mine }) c.in_ok-try_clone.ensures
    ∙ ap (λ (bytes : List ℕ). record { number = c.args.number; copy = (arc_value c.args.copy.now).bytes; mine = bytes })
    (ap (λ (page : PageValue). bytes_left page.bytes c.in_ok-mine.mine) (sym c.deref.ensures) ∙ c.in_ok-mine.ensures.left)
