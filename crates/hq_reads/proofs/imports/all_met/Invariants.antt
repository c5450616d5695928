use Rattle.std.proofs.Common.{◌≡◌, false, Ok, map}
use Rattle.hq_tables.specs.Shelves.{Finds, Keeps}
use Rattle.hq_reads.specs.Memory.{with_memory}
use Rattle.hq_rules.specs.Imports.{line_met}
use Rattle.hq_reads.proofs.imports.all_met.Given as goal

-- the shelf was kept so far, and what the rows do was found in its first tables
abbrev pub invariant-loop-line : goal.invariant-loop-line
invariant-loop-line g l = g.S.Shelf.sight.is_closed l.fn.shelf ≡ false
    → Keeps (with_memory g.M.Memory.refused g.S.Shelf.sight) l.fn.shelf l.shelf (Ok l.found.items)
    × Finds g.S.Shelf.sight l.fn.shelf l.shelf (Ok l.found.items) l.fn.customer
    (λ rows. map (line_met rows) l.yielded)
