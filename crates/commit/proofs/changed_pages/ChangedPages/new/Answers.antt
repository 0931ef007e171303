use Rattle.commit.proofs.Growing.{AreCounted-none}
use Rattle.commit.proofs.changed_pages.ChangedPages.new.Goals as goal

pub invariant_of-result : goal.invariant_of-result
invariant_of-result c = rw c.new.ensures.items AreCounted-none
