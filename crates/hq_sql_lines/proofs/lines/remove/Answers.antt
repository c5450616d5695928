use Rattle.std.proofs.Common.{refl, ◌∙◌}
use Rattle.sqlite.specs.Held.{state}
use Rattle.hq_sql_lines.specs.Lines.{line_key_columns}
use Rattle.hq_sql.proofs.Keeping.{write_done, write_failed}
use Rattle.hq_sql_lines.proofs.OnLines.{line_deleted}
use Rattle.hq_sql_lines.proofs.Texts.{line_delete_text, line_delete_known}
use Rattle.hq_sql_lines.proofs.lines.remove.Goals as goal

pub returns-in_err-execute-clause-kept : goal.returns-in_err-execute-clause-kept
returns-in_err-execute-clause-kept g c = write_failed _ _ line_delete_text _ _ line_delete_known
    refl c.in_err-execute.ensures.survives _ c.in_err-execute.ensures.runs

pub returns-clause-made : goal.returns-clause-made
returns-clause-made g c clean desk =
    let bound = c.line_key-params.ensures ∙
    (λ i. line_key_columns (c.args.customer.now, (c.class.ensures i, c.as_str.ensures i))) in
    line_deleted (state g.S.Store c.args.conn.now) (state g.S.Store c.execute.new.conn)
    (c.args.customer.now, c.args.pattern.now) _ desk
    (rw bound at (c.in_ok-execute.ensures.runs clean))

pub returns-clause-kept : goal.returns-clause-kept
returns-clause-kept g c = write_done _ _ line_delete_text _ _ line_delete_known refl
    c.in_ok-execute.ensures.survives _ c.in_ok-execute.ensures.runs
