use Rattle.std.proofs.Common.{◌≡◌, ◌∙◌, ap, ◌||◌, Bool, true, false, refl}
use Rattle.std.proofs.lemmas.Result.{IfOk-weaker}
use Rattle.clap.specs.Simple.{app_of, with_rule}
use Rattle.clap.specs.declared.builder.command.Command.TheViews.{out-Command}
use Rattle.hq_words.proofs.command.with_option.Goals as goal

or_false : (a : Bool) → (a || false) ≡ a
or_false true = refl
or_false false = refl

pub returns-clause-shape : goal.returns-clause-shape
returns-clause-shape c = IfOk-weaker c.arg.result _ _
    (λ made added. added.shape c.option_of.ensures.local
    ∙ ap (with_rule (app_of c.args.command)) c.option_of.ensures.rule) c.arg.ensures

pub returns-clause-local : goal.returns-clause-local
returns-clause-local c =
    let before = (out-Command c.args.command).has_globals in
    IfOk-weaker c.arg.result _ _ (λ made added. added.globals
    ∙ ap (λ (x : Bool). before || x) c.option_of.ensures.local ∙ or_false before) c.arg.ensures
