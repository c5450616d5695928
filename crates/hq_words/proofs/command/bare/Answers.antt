use Rattle.std.proofs.Common.{◌∙◌, ap, true}
use Rattle.clap.specs.Simple.{App, app_of_fields}
use Rattle.hq_words.proofs.command.bare.Goals as goal

pub returns : goal.returns
returns c =
    let start = ap app_of_fields c.in_ok-bin_name.ensures.0 ∙ c.new.ensures.app in
    let versed = ap app_of_fields c.version.ensures ∙ ap (λ (a : App). record a {
      top = record a.top { has_version = true };
    }) start in
    let plain = ap app_of_fields c.override_usage.ensures ∙ versed in
    let words = ap app_of_fields c.no_binary_name.ensures ∙ ap (λ (a : App). record a {
      top = record a.top { no_binary_name = true };
    }) plain in
    let alone = ap app_of_fields c.disable_help_subcommand.ensures ∙ ap
    (λ (a : App). record a { top = record a.top { disable_help_subcommand = true } }) words in
    let needed = ap app_of_fields c.subcommand_required.ensures ∙ ap
    (λ (a : App). record a { top = record a.top { subcommand_required = true } }) alone in
    ap app_of_fields c.after_help-program.ensures ∙ ap app_of_fields c.about.ensures ∙ needed
