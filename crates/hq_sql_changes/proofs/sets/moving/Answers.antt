use Rattle.std.proofs.Common.{List, ℕ, ap, length, ◌∙◌}
use Rattle.sqlite.specs.Held.{state}
use Rattle.hq_sql.specs.Tables.{tables_in}
use Rattle.hq_sql_messages.specs.Moves.{standing_serials}
use Rattle.hq_sql_changes.proofs.AllMoved.{count_same}
use Rattle.hq_sql_changes.proofs.sets.moving.Goals as goal

pub returns-clause-found : goal.returns-clause-found
returns-clause-found g c clean desk =
    let t = tables_in (state g.S.Store c.args.conn.now).now in
    ap (λ (serials : List ℕ). length serials)
    (c.as_slice.ensures.value ∙ c.in_ok-serials.ensures.found clean desk)
    ∙ ap (λ b. length (standing_serials c.args.customer.now b t)) c.is_of_held.ensures
    ∙ count_same c.args.customer.now c.args.by t
