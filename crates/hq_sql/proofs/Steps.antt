-- What is kept by one write after another.
use Rattle.std.proofs.Common.{IsTrue, sym, subst}
use Rattle.sqlite.specs.State.{State, HasCleanDisk}
use Rattle.hq_keyed.proofs.Left.{clean_before, quiet_then, keeps_then}
use Rattle.hq_tables.specs.Tables.{Tables}
use Rattle.hq_sql.specs.Kept.{KeepsCommitted}
use Rattle.hq_sql.specs.Tables.{IsDesk, Leaves}
use Rattle.hq_sql.proofs.Tables.{leaves_keeps}

pub keeps_on : (a b d : State) (t : Tables) → KeepsCommitted a b →
    (HasCleanDisk b → IsDesk a.now → Leaves a b t) → KeepsCommitted b d → KeepsCommitted a d
keeps_on a b d t p made q = record {
  kept = λ clean desk within.
      let l = made (clean_before b d q.quiet clean) desk in
      keeps_then a b d (leaves_keeps a b t l within)
      (q.kept clean l.desk (subst IsTrue (sym l.mode) within));
  quiet = quiet_then a b d p.quiet q.quiet;
  stops = λ desk within clean db may.
      let before = clean_before b d q.quiet clean in
      let l = made before desk in
      p.stops desk within before db (q.stops l.desk (subst IsTrue (sym l.mode) within) clean db
      may);
}
