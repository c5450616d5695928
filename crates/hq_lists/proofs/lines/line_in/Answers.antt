use Rattle.std.proofs.Common.{Some, option_map, ap, ◌∙◌}
use Rattle.std.specs.List as list
use Rattle.hq_rows.specs.Listed.{line_row_value}
use Rattle.hq_rows.specs.Lookups.{is_line}
use Rattle.hq_lists.proofs.Keys.{line_found}
use Rattle.hq_lists.proofs.lines.line_in.Goals as goal

pub returns-in_ok-copy-in-Some : goal.returns-in_ok-copy-in-Some
returns-in_ok-copy-in-Some g c =
    ap Some c.in_ok-copy-in-Some.ensures ∙ ap (option_map line_row_value) (c.in-Some.ensures
    ∙ ap (λ key. list.find (is_line c.args.customer.now (c.args.class, key)) c.args.rows.now)
    c.as_str.ensures) ∙ line_found c.args.rows.now c.args.customer.now (
      c.args.class,
      c.args.key.now,
    )

pub returns-in-None : goal.returns-in-None
returns-in-None g c = ap (option_map line_row_value) (c.in-None.ensures
    ∙ ap (λ key. list.find (is_line c.args.customer.now (c.args.class, key)) c.args.rows.now)
    c.as_str.ensures) ∙ line_found c.args.rows.now c.args.customer.now (
      c.args.class,
      c.args.key.now,
    )
