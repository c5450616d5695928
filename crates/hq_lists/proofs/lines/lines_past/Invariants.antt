use Rattle.std.proofs.Common.{◌≡◌, filter, map, take, option_map}
use Rattle.hq_rows.specs.Lookups.{is_line_past}
use Rattle.hq_lists.proofs.lines.lines_past.Given as goal

abbrev pub invariant-loop-row : goal.invariant-loop-row
invariant-loop-row g l = l.lines.items ≡ map (λ row. row.line)
    (filter (is_line_past l.customer (option_map (λ p. p.now) l.after)) (take l.row-index l.rows))
