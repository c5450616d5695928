use Rattle.sqlite.specs.Held.{state}
use Rattle.sqlite.specs.State.{State, Opens}
use Rattle.sqlite.specs.Steps.{over_memory}
use Rattle.sqlite.proofs.Callers.{memory_is_clean}
use Rattle.std.proofs.Common.{inl}
use Rattle.hq_sql_open.specs.Transactions.{IsSettled}
use Rattle.hq_sql_shelf.proofs.shelf.SqlShelf+MemStore+Global.open_memory.Goals as goal

settled : (s : State) → Opens s → IsSettled s
settled s fresh = record { is_open = fresh.is_open; mode = fresh.autocommit; now = fresh.clean }

pub returns-in-Ok-adopt : goal.returns-in-Ok-adopt
returns-in-Ok-adopt c =
    let fresh = c.in-Ok.ensures.empty in
    let it = c.in-Ok-adopt.ensures.opened (memory_is_clean c.in-Ok-adopt.shelf.conn)
    (settled (state over_memory c.in-Ok.conn) fresh.0) in
    let empty = it.empty (inl fresh.2) in
    record {
      ours = empty.0;
      empty = empty.1;
      fresh = c.in-Ok-adopt.ensures.fresh;
      rests = c.in-Ok-adopt.ensures.rests (memory_is_clean c.in-Ok-adopt.shelf.conn) empty.0;
      cause = tt;
    }

pub returns-clause-cause : goal.returns-clause-cause
returns-clause-cause c =
    let fresh = c.in-Ok.ensures.empty in
    let clean = memory_is_clean c.in-Err.field-0-1 in (
      λ bad. (c.in-Err.ensures.refused clean (settled (state over_memory c.in-Ok.conn) fresh.0)
          bad).0.0 (inl fresh.2),
      λ closed. absurd (let no = c.in-Err.ensures.gone clean closed in cc),
    )
