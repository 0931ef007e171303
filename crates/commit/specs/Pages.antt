-- The merge of a page.
use Rattle.std.specs.Prelude.{◌≡◌, length}
use Rattle.guest_memory.specs.Layout.{page_size}
use Rattle.paged_memory.specs.Page.{PageValue}
use Rattle.commit.specs.Bytes.{merged_bytes}

-- the present page, with the bytes that were left where they differ from those that were found
abbrev pub merged_page : PageValue → PageValue → PageValue → PageValue
merged_page present found left = record { perm = present.perm; bytes = merged_bytes present.bytes found.bytes left.bytes }

-- The three have as many bytes as a page.
pub record AreWhole (present found left : PageValue) : Type 0 where
  pub now : length present.bytes ≡ page_size
  pub copy : length found.bytes ≡ page_size
  pub mine : length left.bytes ≡ page_size
