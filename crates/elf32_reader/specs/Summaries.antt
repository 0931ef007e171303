use Rattle.std.specs.Prelude.{ℕ, ◌+◌, ◌&&◌, ◌||◌, Some, None, option_map, List, sum_by}
use Rattle.std.specs.List.{last_or, list_any}
use Rattle.elf32_reader.specs.declared.summary.Summary.{Summary}
use Rattle.elf32_reader.specs.LoadSegment.{LoadSegment, last_page, page_count, covers}

-- what is kept of segments that are looked at, and not yet copied
unfoldable pub summary_of : ℕ → List LoadSegment → Summary
summary_of entry segments =
    record {
      last_page = option_map last_page (last_or None segments);
      pages = sum_by page_count segments;
      entry_is_executable = list_any (λ segment. covers entry segment && segment.perm.execute) segments;
    }

-- a summary with a segment added
abbrev pub with_segment : ℕ → Summary → LoadSegment → Summary
with_segment entry summary segment =
    record {
      last_page = Some (last_page segment);
      pages = summary.pages + page_count segment;
      entry_is_executable = summary.entry_is_executable || (covers entry segment && segment.perm.execute);
    }
