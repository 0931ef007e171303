use Rattle.std.proofs.Common.{◌≡◌, ◌∙◌, ap, codes, true}
use Rattle.clap.specs.Simple.{app_of_fields, on_top}
use Rattle.clap.specs.Words.{app_of, new_app}
use Rattle.command_requests.proofs.commands.bare_program.Goals as goal

pub returns : goal.returns
returns c =
    let named : app_of c.in_ok-bin_name.field-0 ≡ new_app (codes "dthreads") = ap app_of_fields c.in_ok-bin_name.ensures.0 ∙ c.new.ensures.app in
    let versioned = ap app_of_fields c.version.ensures ∙ ap (on_top (λ shape. record shape { has_version = true })) named in
    let described = ap app_of_fields c.about.ensures ∙ versioned in
    let required = ap app_of_fields c.subcommand_required.ensures ∙ ap (on_top (λ shape. record shape { subcommand_required = true })) described in
    ap app_of_fields c.disable_help_subcommand.ensures ∙ ap (on_top (λ shape. record shape { disable_help_subcommand = true })) required
