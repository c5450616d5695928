use Rattle.std.proofs.Common.{◌∷◌, ◌++◌, [], Some, cond, sym, ap, ◌∙◌}
use Rattle.hq_lines.specs.Fields.{line_request}
use Rattle.hq_batch.proofs.Lined.{line_is}
use Rattle.hq_batch.proofs.waiting.Waiting.add.Goals as goal

pub returns-clause-added : goal.returns-clause-added
returns-clause-added g c = λ done. (
  c.in-Ok.exchange,
  sym c.in-Some.ensures ∙ ap Some (sym (line_is c.in-Ok.exchange (line_request c.in-Some.line)
      c.in-Ok.ensures)),
  c.push.ensures.items ∙ ap (λ b. cond b (c.args.self.now.exchanges.items
      ++ c.in-Ok.exchange ∷ []) c.args.self.now.exchanges.items)
      (sym c.is_ok.ensures.value ∙ done),
)
