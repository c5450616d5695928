use Rattle.std.proofs.Common.{◌≡◌, subst}
use Rattle.std.specs.Prelude.{OnOk}
use Rattle.sqlite.specs.Held.{state}
use Rattle.hq_sql.specs.Tables.{tables_in}
use Rattle.hq_sql_changes.proofs.AllMoved.{moved_as_each}
use Rattle.hq_sql_shelf.specs.Rounds.{sight_inside}
use Rattle.hq_sql_shelf.proofs.Moved.{changes_more}
use Rattle.hq_sql_shelf.proofs.moves.SqlRoundMovesMessages.move_all.Goals as goal

pub returns-clause-made : goal.returns-clause-made
returns-clause-made g c clean ours sound =
    let t = tables_in (state g.S.Store c.args.self.now.shelf.conn).now in
    subst (λ u. OnOk c.make.result (tables_in (state g.S.Store c.make.new.self.shelf.conn).now ≡ u))
    (moved_as_each c.args.customer.now c.args.by t sound) (c.make.ensures.made clean ours)

pub returns-clause-stops : goal.returns-clause-stops
returns-clause-stops g c clean ours sound rests = (tt, λ t may. absurd may)

pub returns-clause-kept : goal.returns-clause-kept
returns-clause-kept g c = changes_more g.N.Memory.refused (sight_inside (state g.S.Store)) _ _
    c.make.result c.make.ensures.kept
