-- What the text of a packet asks for.
use Rattle.std.specs.Prelude.{◌≡◌, ◌≢◌, ◌⊎◌, ℕ, List, [], ◌∷◌, ◌++◌, codes}
use Rattle.gdb_packets.specs.Numbers.{AreNumbers, IsNumber}
use Rattle.gdb_packets.specs.declared.action.Motion.{Motion}
use Rattle.gdb_packets.specs.declared.action.Motion.TheVariants.{Continue, Step, Range}
use Rattle.gdb_packets.specs.declared.packet_request.PointKind.{PointKind}
use Rattle.gdb_packets.specs.declared.packet_request.PointKind.TheVariants.{Software, Hardware, Write, Read, Access}
use Rattle.gdb_packets.specs.declared.packet_request.PacketRequest.{PacketRequest}
use Rattle.gdb_packets.specs.declared.packet_request.PacketRequest.TheVariants as request
use Rattle.gdb_packets.specs.declared.thread_id.ThreadId.{ThreadId}
use Rattle.gdb_packets.specs.declared.thread_id.ThreadId.TheVariants.{Any, All, One}
use Rattle.gdb_packets.specs.declared.window.Window.{Window}

-- a text START,LENGTH names this window
abbrev pub IsWindow : List ℕ → Window → Type 0
IsWindow text window = AreNumbers text window.start window.length

-- A text names this thread: 0 any, -1 all.
abbrev pub Names : List ℕ → ThreadId → Type 0
Names text Any = IsNumber text 0
Names text All = text ≡ codes "-1"
Names text (One id) = IsNumber text id × (id ≢ 0)

-- the digit of a kind of point
abbrev pub digit_of_kind : PointKind → ℕ
digit_of_kind Software = 48
digit_of_kind Hardware = 49
digit_of_kind Write = 50
digit_of_kind Read = 51
digit_of_kind Access = 52

-- a text that is one byte, or begins with another and a signal's number
abbrev pub IsOrSignal : List ℕ → (one other : ℕ) → Type 0
IsOrSignal text one other = (text ≡ one ∷ []) ⊎ ((signal : List ℕ) × (number : ℕ) × (text ≡ other ∷ signal) × IsNumber signal number)

-- the motion of c (99) or C (67), and of s (115) or S (83)
abbrev pub AsksMotion : List ℕ → Motion → Type 0
AsksMotion text Continue = IsOrSignal text 99 67
AsksMotion text Step = IsOrSignal text 115 83
AsksMotion text (Range start end) = ⊥

-- A packet of this text asks for this. Of the other requests nothing is said: they change nothing of the run or of what is meant.
abbrev pub Asks : List ℕ → PacketRequest → Type 0
Asks text request.Registers = text ≡ 103 ∷ []
Asks text request.WhyStopped = text ≡ 63 ∷ []
Asks text request.Extend = text ≡ 33 ∷ []
Asks text request.End = text ≡ 107 ∷ []
Asks text request.StepBack = text ≡ 98 ∷ 115 ∷ []
Asks text request.ContinueBack = text ≡ 98 ∷ 99 ∷ []
Asks text (request.ResumeSelected motion) = AsksMotion text motion
Asks text request.Detach = (rest : List ℕ) × (text ≡ 68 ∷ rest)
Asks text request.CurrentThread = text ≡ codes "qC"
Asks text request.FirstThreads = text ≡ codes "qfThreadInfo"
Asks text (request.Command digits) = text ≡ codes "qRcmd," ++ digits.now
Asks text (request.ThreadText id) = (rest : List ℕ) × (text ≡ codes "qThreadExtraInfo," ++ rest) × Names rest id
Asks text request.ActionKinds = text ≡ codes "vCont?"
Asks text (request.Resume actions) = text ≡ codes "vCont;" ++ actions.now
Asks text (request.Restart arguments) = text ≡ codes "vRun;" ++ arguments.now
Asks text request.Kill = (rest : List ℕ) × (text ≡ codes "vKill;" ++ rest)
Asks text (request.Memory window) = (rest : List ℕ) × (text ≡ 109 ∷ rest) × IsWindow rest window
Asks text (request.Register number) = (rest : List ℕ) × (text ≡ 112 ∷ rest) × IsNumber rest number
Asks text (request.IsThread id) = (rest : List ℕ) × (text ≡ 84 ∷ rest) × Names rest id
Asks text (request.SelectGeneral id) = (rest : List ℕ) × (text ≡ 72 ∷ 103 ∷ rest) × Names rest id
Asks text (request.SelectMoving id) = (rest : List ℕ) × (text ≡ 72 ∷ 99 ∷ rest) × Names rest id
Asks text (request.SetPoint kind window) = (rest : List ℕ) × (text ≡ 90 ∷ digit_of_kind kind ∷ 44 ∷ rest) × IsWindow rest window
Asks text (request.ClearPoint kind window) = (rest : List ℕ) × (text ≡ 122 ∷ digit_of_kind kind ∷ 44 ∷ rest) × IsWindow rest window
Asks text _ = Unit {0}

-- a command of the user's with these digits
abbrev pub IsCommand : List ℕ → PacketRequest → Type 0
IsCommand digits (request.Command given) = given.now ≡ digits
IsCommand digits _ = ⊥

-- A text without parts that asks for registers, or to change registers or memory, is taken for that.
pub record IsReadShort (text : List ℕ) (asked : PacketRequest) : Type 0 where
  pub registers : text ≡ codes "g" → asked ≡ request.Registers
  pub change : (rest : List ℕ) → (text ≡ 71 ∷ rest) ⊎ (text ≡ 80 ∷ rest) → asked ≡ request.ChangeRegisters
  pub store : (rest : List ℕ) → (text ≡ 77 ∷ rest) ⊎ (text ≡ 88 ∷ rest) → asked ≡ request.ChangeMemory

-- One that asks for a register or for memory is taken for that.
pub record IsReadLong (text : List ℕ) (asked : PacketRequest) : Type 0 where
  pub register : (digits : List ℕ) (number : ℕ) → text ≡ 112 ∷ digits → IsNumber digits number → asked ≡ request.Register number
  pub memory : (part : List ℕ) (window : Window) → text ≡ 109 ∷ part → IsWindow part window → asked ≡ request.Memory window

-- A text that asks for registers, for memory, to change them, or for a command of the user's is taken for that.
pub record IsRead (text : List ℕ) (asked : PacketRequest) : Type 0 where
  pub short : IsReadShort text asked
  pub long : IsReadLong text asked
  pub command : (digits : List ℕ) → text ≡ codes "qRcmd," ++ digits → IsCommand digits asked
