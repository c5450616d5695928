use Rattle.std.proofs.Common.{ap, ◌++◌, ◌∙◌}
use Rattle.sqlite.specs.Held.{state}
use Rattle.hq_sql_lines.specs.LinePages.{page_line, page_lines}
use Rattle.hq_sql_lines.specs.declared.line_pages.TakenLines.{TakenLines}
use Rattle.hq_sql.proofs.Keeping.{keeps_ok, keeps_err}
use Rattle.hq_sql_lines.proofs.OnLinePages.{first_shown}
use Rattle.hq_sql_lines.proofs.Texts.{lines_from_start_known}
use Rattle.hq_sql.proofs.Walking.{pushed_all}
use Rattle.hq_sql_lines.proofs.line_pages.first.Goals as goal

pub returns-in_err-taken-clause-kept : goal.returns-in_err-taken-clause-kept
returns-in_err-taken-clause-kept g c = keeps_err _ _ _ _ c.from_residual-in_err-taken.ensures.0
    (c.in_err-taken.ensures.kept (record { plain = lines_from_start_known.plain }))

pub returns-clause-found : goal.returns-clause-found
returns-clause-found g c clean desk =
    let all = rw (c.first_lines-params.ensures c.args.limit c.in_ok-most.ensures) at
    (c.in_ok-taken.ensures.found (record { plain = lines_from_start_known.plain }) clean desk)
    in
    c.from_vec.ensures ∙ pushed_all (λ (it : TakenLines). it.lines.items) page_line all.rows _
    c.in_ok-taken.taken all.taken
    ∙ ap (λ l. l ++ page_lines all.rows) c.none-lines.ensures.items
    ∙ first_shown (state g.S.Store c.args.conn.now) (state g.S.Store c.walk.new.conn)
    c.args.customer.now c.args.limit all.rows desk all.shown

pub returns-clause-kept : goal.returns-clause-kept
returns-clause-kept g c = keeps_ok _ _ c.in_ok-taken.taken _
    (c.in_ok-taken.ensures.kept (record { plain = lines_from_start_known.plain }))
