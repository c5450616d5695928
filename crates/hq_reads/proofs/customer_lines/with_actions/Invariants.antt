use Rattle.std.proofs.Common.{◌≡◌, false, Ok, map}
use Rattle.hq_tables.specs.Shelves.{Finds, Keeps}
use Rattle.hq_reads.specs.Memory.{with_memory}
use Rattle.hq_rules.specs.Submissions.{with_action}
use Rattle.hq_reads.proofs.customer_lines.with_actions.Given as goal

-- the shelf was kept so far, and what was found is found in its first tables
abbrev pub invariant-loop-recipient : goal.invariant-loop-recipient
invariant-loop-recipient g l = g.S.Shelf.sight.is_closed l.fn.shelf ≡ false
    → Keeps (with_memory g.M.Memory.refused g.S.Shelf.sight) l.fn.shelf l.shelf (Ok l.found.items)
    × Finds g.S.Shelf.sight l.fn.shelf l.shelf (Ok l.found.items) l.fn.customer
    (λ rows. map (with_action rows) l.yielded)
