-- What a migration makes of the tables of a desk, customer by customer.
use Rattle.std.proofs.Common.{◌≡◌, ℕ, List, sym, ap, ◌∙◌, subst, map}
use Rattle.sqlite.specs.Effect.{Database}
use Rattle.sqlite.specs.Order.{column}
use Rattle.hq_values.specs.Words.{earlier_hold}
use Rattle.hq_sql_open.specs.Lifted.{lift, FirstSound}
use Rattle.hq_tables.specs.Sound.{Sound}
use Rattle.hq_tables.specs.Tables.{own}
use Rattle.hq_sql_open.proofs.Lifted.{own_lifted, tables_lifted}
use Rattle.hq_sql.specs.Tables.{IsDesk, tables_in}
use Rattle.hq_sql_open.specs.Stores.{first_tables_in, lifted_in, IsThird, HoldsThird}

pub third_is_desk : (db : Database) → IsThird db → IsDesk db
third_is_desk db s = record {
  schema_is = s.schema_is;
  version = ap (map (λ r. column r 1)) s.version.row_is;
  heads = s.rows.heads;
  messages = s.rows.messages;
  recipients = s.rows.recipients;
  lines = s.rows.lines;
  notices = s.rows.notices;
  marks = s.rows.marks;
  holds = s.holds;
  ends = s.ends;
}

-- each customer's state is lifted, and sound tables are sound again
pub customers_lifted : (before after : Database) →
    HoldsThird (lifted_in earlier_hold before) after → (c : List ℕ) →
    own c (tables_in after) ≡ lift (own c (first_tables_in before))
customers_lifted before after l c = ap (own c) l.tables ∙ own_lifted c (first_tables_in before)

pub sound_lifted : (before after : Database) → HoldsThird (lifted_in earlier_hold before) after →
    FirstSound (first_tables_in before) → Sound (tables_in after)
sound_lifted before after l sound =
    subst Sound (sym l.tables) (tables_lifted (first_tables_in before) sound)
