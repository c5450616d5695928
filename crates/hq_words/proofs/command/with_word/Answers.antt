use Rattle.std.proofs.Common.{◌∙◌, ap}
use Rattle.std.proofs.lemmas.Result.{IfOk-weaker}
use Rattle.clap.specs.Simple.{app_of, with_subcommand}
use Rattle.hq_words.proofs.command.with_word.Goals as goal

pub returns : goal.returns
returns c = IfOk-weaker c.subcommand.result _ _
    (λ made added. added.shape c.in_ok-word.ensures.local
    ∙ ap (with_subcommand (app_of c.args.program)) c.in_ok-word.ensures.shape) c.subcommand.ensures
