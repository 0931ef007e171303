use Rattle.std.proofs.Common.{◌≡◌, filter, take}
use Rattle.std.specs.List.{flat_map}
use Rattle.std.specs.String.{string_bytes}
use Rattle.disassembler.specs.Listings.{segment_listing}
use Rattle.disassembler.proofs.program.listing.Given as goal

abbrev pub invariant-loop-segment : goal.invariant-loop-segment
invariant-loop-segment l =
    string_bytes l.text ≡ flat_map segment_listing (filter (λ segment. segment.perm.execute) (take l.segment-index l.image.segments))
