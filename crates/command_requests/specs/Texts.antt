-- The texts that a run can leave beside its outcome.
use Rattle.std.specs.Prelude.{ℕ, Bool, true, false, ◌||◌, List, [], ◌∷◌, codes}
use Rattle.command_requests.specs.declared.text.Text.{Text}
use Rattle.command_requests.specs.declared.text.Text.TheVariants.{Trace, Timeline, Report, Findings, Core, Digest}
use Rattle.command_requests.specs.declared.requested_text.RequestedText.{RequestedText}

-- all of them, in the order in which a run begins them and puts them where they are to be
abbrev pub texts : List Text
texts = Trace ∷ Timeline ∷ Report ∷ Findings ∷ Core ∷ Digest ∷ []

-- the name of the option that says where a text goes
abbrev pub name_of : Text → List ℕ
name_of Trace = codes "trace"
name_of Timeline = codes "timeline"
name_of Report = codes "report"
name_of Findings = codes "check"
name_of Core = codes "core"
name_of Digest = codes "digest"

-- it is the findings, for which a run is observed
abbrev pub is_findings : Text → Bool
is_findings Findings = true
is_findings other = false

-- the findings are wanted
abbrev pub wants_findings : List RequestedText → Bool
wants_findings [] = false
wants_findings (one ∷ others) = is_findings one.text || wants_findings others
