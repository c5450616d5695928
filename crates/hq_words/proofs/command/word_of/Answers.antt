use Rattle.std.proofs.Common.{◌≡◌, ◌∙◌, ap, map, fold, false}
use Rattle.std.proofs.lemmas.Result.{IfOk-weaker}
use Rattle.clap.specs.Simple.{App, app_of, app_of_fields, new_app, with_rule}
use Rattle.clap.specs.declared.builder.command.Command.TheViews.{out-Command}
use Rattle.hq_words.specs.Program.{rule_for}
use Rattle.hq_words.proofs.Folded.{with_rules}
use Rattle.hq_words.proofs.command.word_of.Goals as goal

pub returns-clause-shape : goal.returns-clause-shape
returns-clause-shape c =
    let bare : app_of c.after_help-bare.result ≡ new_app c.args.row.0.now =
    ap app_of_fields c.after_help-bare.ensures ∙ ap app_of_fields c.about.ensures
    ∙ c.new.ensures.app in
    let rules = map (λ row. rule_for row.0.now row.3) c.args.row.3.now in
    IfOk-weaker c.with_options.result _ _ (λ made is. ap (λ (a : App). a.top)
    (is ∙ ap (λ (a : App). fold with_rule a rules) bare) ∙ with_rules c.args.row.0.now rules)
    c.with_options.ensures.shape

pub returns-clause-local : goal.returns-clause-local
returns-clause-local c =
    let bare : (out-Command c.after_help-bare.result).has_globals ≡ false =
    ap (λ f. f.has_globals) c.after_help-bare.ensures ∙ ap (λ f. f.has_globals) c.about.ensures
    ∙ c.new.ensures.local in
    IfOk-weaker c.with_options.result _ _ (λ made is. is ∙ bare) c.with_options.ensures.local
