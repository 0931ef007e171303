-- What is known of the end of a segment, whichever host thread executed it.
use Rattle.std.specs.Prelude.{◌≡◌, ℕ}
use Rattle.segment.specs.Ends.{IsEndOf}
use Rattle.segment.specs.declared.segment_end.SegmentEnd.{SegmentEnd}
use Rattle.token.specs.History.{History}
use Rattle.token.specs.Point.{Point}
use Rattle.token.specs.Segments.{segment_in}
use Rattle.token.specs.Serial.{StandsAfter}
use Rattle.token.specs.Setup.{Setup}

-- Wherever in a phase a run of this setup stands, the end is that of a thread's segment on the memory that the phase began with.
abbrev pub IsEndIn : Setup → ℕ → ℕ → SegmentEnd → Type 0
IsEndIn setup phase thread end =
    (point : Point) (history : History) → StandsAfter point history → point.setup ≡ setup → point.phase ≡ phase → IsEndOf point.base (segment_in setup phase point.base_threads thread) end
