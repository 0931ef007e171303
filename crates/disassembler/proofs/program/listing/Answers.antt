use Rattle.std.proofs.Common.{◌≡◌, ◌∙◌, ap, length, take, filter, List, arith}
use Rattle.std.specs.List.{flat_map}
use Rattle.std.proofs.lemmas.List.{take_all}
use Rattle.elf32_reader.specs.LoadSegment.{LoadSegment}
use Rattle.disassembler.specs.Listings.{listing_of, segment_listing}
use Rattle.disassembler.proofs.program.listing.Goals as goal

pub returns : goal.returns
unfolding listing_of
returns c =
    let segments : List LoadSegment = c.args.image.now.segments in
    let whole : take c.loop-segment.segment-index segments ≡ segments = take_all c.loop-segment.segment-index segments (omega (arith, ap length c.segments-segment-items.ensures.segments)) in
    c.loop-segment.invariant ∙ ap (λ (all : List LoadSegment). flat_map segment_listing (filter (λ segment. segment.perm.execute) all)) whole
