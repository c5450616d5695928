-- A desk's store stays one.
use Rattle.std.proofs.Common.{◌≡◌, inl, inr, true, length, sym, ap, ◌∙◌, subst, arith}
use Rattle.sqlite.specs.Effect.{Database}
use Rattle.sqlite.specs.Schema.{Schema}
use Rattle.sqlite.specs.State.{State, HasCleanDisk}
use Rattle.hq_tables.specs.Sound.{AreCounted}
use Rattle.hq_tables.specs.Tables.{Tables, no_tables}
use Rattle.hq_tables.proofs.Empty.{none_counted}
use Rattle.hq_schema.specs.Schema.{no_schema, version_alone, desk_schema}
use Rattle.hq_sql.specs.Tables.{IsDesk, tables_in}
use Rattle.hq_sql_open.specs.Opening.{IsUnmade, Opens}
use Rattle.hq_sql_open.specs.Transactions.{IsSettled, IsAtRest, Commits}
use Rattle.hq_sql_open.specs.declared.transaction.Standing.{Standing}
use Rattle.hq_sql_open.specs.declared.transaction.Standing.TheVariants.{Open}
use Rattle.hq_sql_shelf.specs.Shelf.{HoldsTables, IsOurs, Adopts, Stands}

pub at_rest : (s : State) → IsOurs s → IsAtRest s
at_rest s ours = record { settled = ours.settled; desk = ours.holds.desk }

pub committed_ours : (s : State) (t : Tables) → Commits s t → AreCounted t → IsOurs s
committed_ours s t c counted = record {
  settled = c.settled;
  holds = record {
    desk = subst IsDesk c.settled.now c.desk;
    counted = subst AreCounted (sym c.tables ∙ ap tables_in c.settled.now) counted;
  };
}

-- an open shelf stands over its connection
pub open_stands : (standing : Standing) (s : State) → standing ≡ Open → HasCleanDisk s →
    HasCleanDisk s × Stands standing s
open_stands standing s is clean = (clean, subst (λ (it : Standing). Stands it s) (sym is) tt)

-- ---- opening

no_table : (no_schema ≡ desk_schema) → ⊥
no_table e = absurd (let k = ap (λ (s : Schema). length s.tables) e in omega (arith, k))

one_table : (version_alone ≡ desk_schema) → ⊥
one_table e = absurd (let k = ap (λ (s : Schema). length s.tables) e in omega (arith, k))

pub never_both : (db : Database) → IsUnmade db → db.schema ≡ desk_schema → ⊥
never_both db (inl blank) has = no_table (sym blank ∙ has)
never_both db (inr alone) has = one_table (sym alone.0 ∙ has)

pub adopts : (old new : State) → IsSettled old → Opens true old new → Adopts old new
adopts old new settled (inl made) = record {
  settled = made.1.settled;
  known = λ foreign. foreign.0 made.0;
  empty = λ unmade. (
    committed_ours new no_tables made.1 none_counted,
    ap tables_in (sym made.1.settled.now) ∙ made.1.tables,
  );
  stays = λ other. absurd (other made.0);
  same = λ holds. absurd (never_both old.now made.0 holds.desk.schema_is);
}
adopts old new settled (inr found) =
    let stays = found.1.1.committed found.1.0.is_open ∙ sym settled.now in
    record {
      settled = found.1.0;
      known = λ foreign. foreign.1 found.0;
      empty = λ unmade. absurd (never_both old.now unmade found.0.0);
      stays = λ other. stays;
      same = λ holds. (
        record { settled = found.1.0; holds = subst HoldsTables (sym stays) holds },
        ap tables_in stays,
      );
    }
