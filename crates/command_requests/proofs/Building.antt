-- What the commands and their arguments are, built up step by step.
use Rattle.std.proofs.Common.{◌≡◌, ◌∙◌, [], ◌∷◌, Option, Some, true, ap, ap₂}
use Rattle.std.specs.Borrow.{Bor}
use Rattle.std.specs.Prelude.{◌||◌, false}
use Rattle.clap.specs.Simple.{app_of_fields, new_shape}
use Rattle.clap.specs.Words.{AddsArg, AddsSubcommand, App, Rule, Shape, Text, app_of, new_app, rule_of, with_rule, with_subcommand}
use Rattle.clap.specs.declared.builder.arg.Arg.{Arg}
use Rattle.clap.specs.declared.builder.command.Command.{Command}
use Rattle.clap.specs.declared.builder.texts.Texts.TheVariants.{One}
use Rattle.clap.specs.declared.builder.command.Command.TheOpen.{Command-F}
use Rattle.clap.specs.declared.builder.command.Command.TheViews.{out-Command}
use Rattle.command_requests.specs.Commands.{Is, Takes, with_rules}

-- a command that takes nothing yet, with a text on it
pub begun : (name : Text) (about : Option (Bor Text)) (old new : Command) → app_of old ≡ new_app name → (out-Command old).has_globals ≡ false
    → out-Command new ≡ record (out-Command old) { about = about } → Takes (new_shape name) new
begun name about old new app local described = record {
  shape_is = ap app_of_fields described ∙ app;
  local = ap (λ (fields : Command-F Command). fields.has_globals) described ∙ local;
}

-- one more argument
pub adds : (shape : Shape) (rule : Rule) (old : Command) (arg : Arg) (new : Command) → Takes shape old → Is rule arg → AddsArg old arg new
    → Takes (with_rules shape (rule ∷ [])) new
adds shape rule old arg new takes is added = record {
  shape_is = added.shape is.local ∙ ap₂ with_rule takes.shape_is is.rule_is;
  local = added.globals ∙ ap₂ (λ one other. one || other) takes.local is.local;
}

-- an argument with a default, and one that must be there
pub defaulted : (rule : Rule) (arg : Arg) (text : Bor Text) (new : Arg) → Is rule arg → new ≡ record arg { default_vals = One text }
    → Is (record rule { defaults = text.now ∷ [] }) new
defaulted rule arg text new is given = record {
  rule_is = ap rule_of given ∙ ap (λ (rule : Rule). record rule { defaults = text.now ∷ [] }) is.rule_is;
  local = ap (λ (arg : Arg). arg.global) given ∙ is.local;
}

pub required : (rule : Rule) (arg new : Arg) → Is rule arg → new ≡ record arg { required = true } → Is (record rule { required = true }) new
required rule arg new is given = record {
  rule_is = ap rule_of given ∙ ap (λ (rule : Rule). record rule { required = true }) is.rule_is;
  local = ap (λ (arg : Arg). arg.global) given ∙ is.local;
}

-- one more command
pub has_command : (app : App) (shape : Shape) (old sub new : Command) → app_of old ≡ app → Takes shape sub → AddsSubcommand old sub new
    → app_of new ≡ with_subcommand app shape
has_command app shape old sub new is takes added = added.shape takes.local ∙ ap₂ with_subcommand is (ap (λ (app : App). app.top) takes.shape_is)

-- an argument with a text of help
pub helped : (rule : Rule) (arg : Arg) (text : Bor Text) (new : Arg) → Is rule arg → new ≡ record arg { help = Some text } → Is rule new
helped rule arg text new is given = record {
  rule_is = ap rule_of given ∙ is.rule_is;
  local = ap (λ (arg : Arg). arg.global) given ∙ is.local;
}
