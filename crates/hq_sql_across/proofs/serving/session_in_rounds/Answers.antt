use Rattle.std.specs.Global.{Global}
use Rattle.std.proofs.Common.{◌≡◌, ℕ, false, List, refl, sym, ap, ◌∙◌, subst}
use Rattle.sqlite.specs.Held.{Held, state}
use Rattle.sqlite.specs.State.{HasCleanDisk}
use Rattle.hq_keyed.proofs.Left.{clean_before}
use Rattle.hq_desk.specs.Desks.{host_of, shelf_of}
use Rattle.hq_sql_shelf.specs.declared.shelf.SqlShelf.{SqlShelf}
use Rattle.hq_sql_shelf.specs.Shelf.{is_doubtful}
use Rattle.hq_sql_across.specs.Stopped.{KeepsDesk}
use Rattle.hq_sql_across.proofs.Found.{not_taken, settled}
use Rattle.hq_sql_across.proofs.Passing.{Taken, taken}
use Rattle.hq_sql_across.proofs.Rounds.{Passes, nobody_served, served_passed}
use Rattle.hq_sql_across.proofs.serving.session_in_rounds.Goals as goal

pub returns-in-Err-clause-ended : goal.returns-in-Err-clause-ended
returns-in-Err-clause-ended g c = refl

pub returns-clause-ended : goal.returns-clause-ended
returns-clause-ended g c = let done = c.serve_rounds-end.ensures in (
  done.rounds,
  done.are_taken,
  done.clients,
  done.came,
  done.counted,
  done.one_each,
  done.over,
)

pub returns-in-Err-clause-passed : goal.returns-in-Err-clause-passed
returns-in-Err-clause-passed g c = unserved where
  unserved : HasCleanDisk (state g.S.Store c.in-Err.conn) → false ≡ false →
      KeepsDesk (state g.S.Store c.args.conn).may_leave →
      Passes g.K.Clients.does c.args.clients.now c.args.clients.now c.args.directory.now
      c.args.host (state g.S.Store c.args.conn).may_leave (state g.S.Store c.in-Err.conn).may_leave
  unserved clean sure =
      let old = state g.S.Store c.args.conn in
      let conn = state g.S.Store c.in_ok-conn.conn in
      let left = state g.S.Store c.in-Err.conn in
      let it = c.in_ok-conn.ensures.found
      (clean_before conn left c.in-Err.ensures.harmless clean) in
      nobody_served g.K.Clients.does c.args.clients.now c.args.clients.now c.args.directory.now
      c.args.host old.may_leave left.may_leave (g.K.Clients.none_does c.args.clients.now)
      (not_taken old conn left it
      (λ trees may. g.met.S.Store.settled c.in_ok-conn.conn.store trees it.opens.is_open may)
      (c.in-Err.ensures.leaves (settled conn it.opens) clean))

pub returns-clause-passed : goal.returns-clause-passed
returns-clause-passed g c = λ clean sure keeps.
    let before = (state g.S.Store c.args.conn).may_leave in
    let old = c.new-desk.result in
    let done = c.serve_rounds-end in
    let new = done.result.1 in
    let shelf = c.into_shelf-shelf.ensures in
    let conn = c.into_connection.ensures
    ∙ ap (λ (s : SqlShelf g.row.S.Denot Global). s.conn) shelf in
    let end_clean = subst (λ (x : Held g.row.S.Denot). HasCleanDisk (state g.S.Store x)) conn
    clean in
    let not_doubtful = subst
    (λ (s : SqlShelf g.row.S.Denot Global). is_doubtful s.standing ≡ false) shelf
    (sym c.is_in_doubt-in_doubt.ensures ∙ sure) in
    let here = subst (Taken g.S.Store before) (sym c.new-desk.ensures.shelf) (taken g.S.Store
    (state g.S.Store c.args.conn) (state g.S.Store c.in_ok-conn.conn) c.in-Ok.shelf
    c.in-Ok.ensures.quiet c.in_ok-conn.ensures.found c.in-Ok.ensures.opened c.in-Ok.ensures.rests
    keeps) in
    let Ends : List ℕ → Held g.row.S.Denot → Type 0 = λ host x. Passes g.K.Clients.does
    c.args.clients.now done.new.clients c.args.directory.now host before
    (state g.S.Store x).may_leave in
    let passed : Ends (host_of old) (shelf_of new).conn = served_passed g.K.Clients.does
    c.args.clients.now done.new.clients c.args.directory.now g.S.Store before keeps old new here
    done.ensures.rounds done.ensures.are_taken done.ensures.desk.served done.ensures.clients
    end_clean not_doubtful in
    subst (λ x. Ends c.args.host x) (sym conn)
    (subst (λ host. Ends host (shelf_of new).conn) c.new-desk.ensures.host passed)
