-- The text of a written schedule.
use Rattle.std.specs.Prelude.{◌≡◌, ◌≢◌, ℕ, ◌+◌, ◌/◌, ◌%◌, ◌<◌, nat_lt, if◌then◌else◌, Option, Some, None, List, [], ◌∷◌, ◌++◌, All, codes, length}
use Rattle.abi.specs.Limits as limit
use Rattle.schedule.specs.Phase.{worker_of}
use Rattle.schedule.specs.declared.event.Event.{Event}
use Rattle.schedule.specs.declared.event.Event.TheVariants.{Draw, Step, Note, Skip, Post, Hold, Turn}

-- the decimal digits of a number below 100, without a leading zero
abbrev pub decimal : ℕ → List ℕ
decimal number = if nat_lt number 10 then (48 + number) ∷ [] else (48 + number / 10) ∷ (48 + number % 10) ∷ []

-- an event as it is written
unfoldable pub words_of : Event → List ℕ
words_of (Draw worker) = codes "draw " ++ decimal worker
words_of (Step worker) = codes "step " ++ decimal worker
words_of (Note worker) = codes "note " ++ decimal worker
words_of (Skip worker) = codes "skip " ++ decimal worker
words_of (Post worker) = codes "post " ++ decimal worker
words_of Hold = codes "hold"
words_of Turn = codes "turn"

-- a worker of an event is one of those that there may be
abbrev pub IsNumber : Option ℕ → Type 0
IsNumber None = Unit {0}
IsNumber (Some worker) = worker < limit.workers

-- an event that can be written
abbrev pub IsWritable : Event → Type 0
IsWritable event = IsNumber (worker_of event)

-- A line is an event.
pub record IsEvent (line : List ℕ) (event : Event) : Type 0 where
  pub writable : IsWritable event
  pub words : line ≡ words_of event

-- A text begins with the line of this event, and this follows.
pub record IsFirstLine (text : List ℕ) (event : Event) (rest : List ℕ) : Type 0 where
  pub writable : IsWritable event
  pub parts : text ≡ words_of event ++ 10 ∷ rest

-- a line each, with the newline (10) that ends it
unfoldable pub text_of : List Event → List ℕ
text_of [] = []
text_of (event ∷ events) = words_of event ++ 10 ∷ text_of events

-- The text is that of these events.
pub record IsText (text : List ℕ) (events : List Event) : Type 0 where
  pub writable : All IsWritable events
  pub is : text ≡ text_of events

-- The line of this number is the first that is no event: the lines before it are events, and what follows them begins with no event's line.
pub record IsFirstBadLine (text : List ℕ) (line : ℕ) : Type 0 where
  pub events : List Event
  pub rest : List ℕ
  pub before : All IsWritable events
  pub parts : text ≡ text_of events ++ rest
  pub number : line ≡ length events + 1
  pub more : rest ≢ []
  pub bad : (event : Event) (after : List ℕ) → IsWritable event → rest ≡ words_of event ++ 10 ∷ after → ⊥
