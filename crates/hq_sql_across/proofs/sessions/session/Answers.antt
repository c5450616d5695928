use Rattle.std.specs.Global.{Global}
use Rattle.std.specs.Prelude.{⊤}
use Rattle.std.proofs.Common.{◌≡◌, ℕ, false, List, map, sym, ap, ◌∙◌, subst, inl, inr}
use Rattle.sqlite.specs.Held.{Held, state}
use Rattle.sqlite.specs.State.{HasCleanDisk}
use Rattle.hq_keyed.proofs.Left.{clean_before}
use Rattle.hq_tables.specs.Tables.{Tables}
use Rattle.hq_desk.specs.Desks.{host_of, on, shelf_of}
use Rattle.hq_wire.specs.Exchanges.{ask_of}
use Rattle.hq_wire.specs.Exchanges.{with_refusals}
use Rattle.hq_wire.specs.Runs.{RunsSo}
use Rattle.hq_requests.specs.Named.{whose_told}
use Rattle.hq_requests.specs.declared.reply.Reply.{Reply}
use Rattle.hq_across.specs.Histories.{Passed, Session}
use Rattle.hq_sql_shelf.specs.declared.shelf.SqlShelf.{SqlShelf}
use Rattle.hq_sql_shelf.specs.Shelf.{is_doubtful, sight_over}
use Rattle.hq_sql_across.specs.Stopped.{IsServed, KeepsDesk, MayKeep}
use Rattle.hq_sql_across.proofs.Found.{not_taken, settled}
use Rattle.hq_sql_across.proofs.Passing.{Taken, taken, nothing_passed, asked_passed}
use Rattle.hq_sql_across.proofs.Passing.{unasked_passed}
use Rattle.hq_sql_across.proofs.sessions.session.Goals as goal
use Rattle.hq_sql_across.proofs.sessions.session.Goals.{in-Ok-run, in-Err-run}

pub returns-in-Err-clause-quiet : goal.returns-in-Err-clause-quiet
returns-in-Err-clause-quiet g c clean sure =
    let conn = state g.S.Store c.in_ok-conn.conn in
    clean_before (state g.S.Store c.args.conn) conn c.in_ok-conn.ensures.quiet
    (clean_before conn (state g.S.Store c.in-Err.conn) c.in-Err.ensures.harmless clean)

pub returns-in-Err-clause-passed : goal.returns-in-Err-clause-passed
returns-in-Err-clause-passed g c clean sure =
    let old = state g.S.Store c.args.conn in
    let conn = state g.S.Store c.in_ok-conn.conn in
    let left = state g.S.Store c.in-Err.conn in
    let it = c.in_ok-conn.ensures.found
    (clean_before conn left c.in-Err.ensures.harmless clean) in
    nothing_passed c.args.host c.args.directory.now c.args.exchanges.now c.new.result.items
    old.may_leave left.may_leave
    (not_taken old conn left it
    (λ trees may. g.met.S.Store.settled c.in_ok-conn.conn.store trees it.opens.is_open may)
    (c.in-Err.ensures.leaves (settled conn it.opens) clean)) c.new.ensures.items

pub returns-in-Err-clause-customers : goal.returns-in-Err-clause-customers
returns-in-Err-clause-customers g c = inl c.new.ensures.items

pub returns-clause-customers : goal.returns-clause-customers
returns-clause-customers g c = elim c.match-run.branch [
  | in-Ok-run w ↦ inr (ap (λ v. map whose_told v.items) w.replies-is
      ∙ w.in-Ok-run.ensures.whose)
  | in-Err-run w ↦ inl (ap (λ v. v.items) w.replies-is ∙ w.new-replies.ensures.items)
]

pub returns-clause-passed : goal.returns-clause-passed
returns-clause-passed g c clean sure keeps =
    let before = (state g.S.Store c.args.conn).may_leave in
    let d = c.args.directory.now in
    let old = c.new-desk.result in
    let new = c.run.new.desk in
    let shelf = c.into_shelf-shelf.ensures in
    let conn = c.into_connection.ensures
    ∙ ap (λ (s : SqlShelf g.row.S.Denot Global). s.conn) shelf in
    let end_clean = subst (λ (x : Held g.row.S.Denot). HasCleanDisk (state g.S.Store x)) conn
    clean in
    let not_doubtful = subst
    (λ (s : SqlShelf g.row.S.Denot Global). is_doubtful s.standing ≡ false) shelf
    (sym c.is_in_doubt-in_doubt.ensures ∙ sure) in
    let here = subst (Taken g.S.Store before) (sym c.new-desk.ensures.shelf) (taken g.S.Store
    (state g.S.Store c.args.conn) (state g.S.Store c.in_ok-conn.conn) c.in-Ok.shelf
    c.in-Ok.ensures.quiet c.in_ok-conn.ensures.found c.in-Ok.ensures.opened c.in-Ok.ensures.rests
    keeps) in
    let replies = c.match-run.replies.items in
    let Passes : List ℕ → Held g.row.S.Denot → Type 0 = λ host x.
    KeepsDesk (state g.S.Store x).may_leave × ((t' : Tables) →
    MayKeep (state g.S.Store x).may_leave t' → (t : Tables) × MayKeep before t × (s : Session)
    × IsServed d c.args.exchanges.now replies s × Passed host s t t') in
    let passed : Passes (host_of old) (shelf_of new).conn = elim c.match-run.branch [
      | in-Ok-run w ↦ asked_passed g.S.Store d before keeps old new here c.args.exchanges.now
          replies
          (subst (λ (r : List Reply). RunsSo (with_refusals ⊤
          (on (sight_over ⊤ ⊤ (state g.S.Store)))) d old
          (map (ask_of d) c.args.exchanges.now) r new) (sym (ap (λ v. v.items) w.replies-is))
          w.in-Ok-run.ensures.served) end_clean not_doubtful
      | in-Err-run w ↦ unasked_passed g.S.Store d before keeps old new here c.args.exchanges.now
          replies w.in-Err-run.ensures.none.0 end_clean
          (ap (λ v. v.items) w.replies-is ∙ w.new-replies.ensures.items)
    ] in
    subst (λ x. Passes c.args.host x) (sym conn)
    (subst (λ host. Passes host (shelf_of new).conn) c.new-desk.ensures.host passed)
