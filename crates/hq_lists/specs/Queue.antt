-- The messages that rows stand for, of one customer.
-- Inner: it serves proofs alone, and no promise rests on it.
use Rattle.std.specs.Prelude.{ℕ, List, map}
use Rattle.hq_kept.specs.declared.message.Message.{Message}
use Rattle.hq_tables.specs.Tables.{Row, joined}
use Rattle.hq_rows.specs.Listed.{recipients_of, holds_of}
use Rattle.hq_rows.specs.Lookups.{rows_with}
use Rattle.hq_rows.specs.declared.rows.HoldRow.{HoldRow}
use Rattle.hq_rows.specs.declared.rows.MessageRow.{MessageRow}
use Rattle.hq_rows.specs.declared.rows.RecipientRow.{RecipientRow}

-- the customer's messages with their recipients and reasons, in order of serial
abbrev pub messages_read : List ℕ → List MessageRow → List RecipientRow → List HoldRow →
    List Message
messages_read customer messages recipients holds =
    map (λ (e : ℕ × Row). joined customer (recipients_of recipients) (holds_of holds) e.0 e.1)
    (rows_with customer messages)
