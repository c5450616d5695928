-- What a deletion of all messages of a customer makes of the tables, in sets: their rows go
-- together, and so do their recipients and their reasons.
-- Inner: it serves proofs alone, and no promise rests on it.
use Rattle.std.specs.Prelude.{ℕ, List}
use Rattle.std.specs.FinMap.{FinMap, get, insert}
use Rattle.hq_owned.specs.Owned.{given}
use Rattle.hq_kept.specs.declared.account.Counts.{Counts}
use Rattle.hq_tables.specs.declared.account.Account.{Account}
use Rattle.hq_tables.specs.Tables.{Tables, text_cmp, recounted}
use Rattle.hq_sql_messages.specs.Moves.{without_messages, without_holds}
use Rattle.hq_sql_recipients.specs.Recipients.{without_all}

-- no message is counted; the lines are
abbrev pub no_messages : Counts → Counts
no_messages n = record { messages = 0; bytes = 0; lines = n.lines }

abbrev pub emptied : Account → Account
emptied a = recounted no_messages a

-- the heads once no message of the customer is counted
abbrev pub emptied_head : List ℕ → FinMap text_cmp Account → FinMap text_cmp Account
emptied_head customer heads = given heads (λ (a : Account). insert heads customer (emptied a))
    (get heads customer)

-- no row of a message of the customer stands
abbrev pub without_rows_of : List ℕ → Tables → Tables
without_rows_of customer t =
    without_holds customer (without_all customer (without_messages customer t))

-- and none is counted
abbrev pub all_dropped : List ℕ → Tables → Tables
all_dropped customer t = record (without_rows_of customer t) {
  heads = emptied_head customer t.heads;
}
