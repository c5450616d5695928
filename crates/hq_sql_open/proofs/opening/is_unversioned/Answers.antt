use Rattle.std.proofs.Common.{◌≡◌, [], sym, subst}
use Rattle.sqlite.specs.Held.{state}
use Rattle.hq_sql_open.proofs.Current.{tells_none}
use Rattle.hq_sql_open.proofs.opening.is_unversioned.Goals as goal

pub returns-clause-found : goal.returns-clause-found
returns-clause-found g c clean has =
    tells_none (state g.S.Store c.args.conn.now) (state g.S.Store c.versions.new.conn)
    c.in_ok-rows.rows.items c.are_none.result (c.in_ok-rows.ensures.found clean has)
    (λ yes. subst (λ rows. rows ≡ []) c.as_slice.ensures.value (c.are_none.ensures.0 yes))
    (λ is. c.are_none.ensures.1 (subst (λ rows. rows ≡ []) (sym c.as_slice.ensures.value) is))
