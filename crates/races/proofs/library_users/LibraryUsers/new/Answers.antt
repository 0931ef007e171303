use Rattle.std.proofs.Common.{◌∙◌, List, ap, get_or}
use Rattle.races.specs.LibraryUsers.{nobody}
use Rattle.races.specs.declared.library_user.LibraryUser.{LibraryUser}
use Rattle.races.proofs.Locking.{nobody_there}
use Rattle.races.proofs.library_users.LibraryUsers.new.Goals as goal

pub returns : goal.returns
returns c thread =
    let made = c.in_ok-vec.ensures.items_if_clones_equal (λ y same. same) in
    ap (λ (all : List LibraryUser). get_or all thread nobody) made ∙ nobody_there 256 thread
