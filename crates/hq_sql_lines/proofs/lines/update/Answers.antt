use Rattle.std.proofs.Common.{refl, [], ◌∷◌, ◌∙◌}
use Rattle.sqlite.specs.Held.{state}
use Rattle.sqlite.specs.declared.types.Value.TheVariants.{Text}
use Rattle.hq_kept.specs.Patterns.{class_name}
use Rattle.hq_sql_lines.specs.Lines.{line_row}
use Rattle.hq_sql.proofs.Keeping.{write_done, write_failed}
use Rattle.hq_sql_lines.proofs.OnLines.{line_updated}
use Rattle.hq_sql_lines.proofs.Texts.{line_update_text, line_update_known}
use Rattle.hq_sql_lines.proofs.lines.update.Goals as goal

pub returns-in_err-count-clause-kept : goal.returns-in_err-count-clause-kept
returns-in_err-count-clause-kept g c = write_failed _ _ line_update_text _ _ line_update_known refl
    c.in_err-count.ensures.survives _ c.in_err-count.ensures.runs

pub returns-clause-made : goal.returns-clause-made
returns-clause-made g c clean desk =
    let bound = c.line-params.ensures ∙ (λ i. Text c.args.customer.now
    ∷ Text (class_name (c.class.ensures i)) ∷ Text (c.as_str.ensures i)
    ∷ Text ((c.as_str-2.ensures.value ∙ c.in_ok-action.ensures) i) ∷ []) in
    line_updated (state g.S.Store c.args.conn.now) (state g.S.Store c.execute.new.conn)
    (line_row c.args.customer.now c.args.line.now) _ desk
    (rw bound at (c.in_ok-count.ensures.runs clean))

pub returns-clause-kept : goal.returns-clause-kept
returns-clause-kept g c = write_done _ _ line_update_text _ _ line_update_known refl
    c.in_ok-count.ensures.survives _ c.in_ok-count.ensures.runs
