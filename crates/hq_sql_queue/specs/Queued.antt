-- Whole messages.
-- Inner: it serves proofs alone, and no promise rests on it.
use Rattle.std.specs.Prelude.{ℕ, List}
use Rattle.sqlite.specs.Order.{Row}
use Rattle.hq_kept.specs.declared.message.Message.{Message}
use Rattle.hq_tables.specs.Tables.{Tables, joined}
use Rattle.hq_rows.specs.Listed.{message_value}
use Rattle.hq_sql.specs.Rows.{message_shown}

-- the message of a row of an answer, with its recipients
abbrev pub whole : List ℕ → Tables → Row → Message
whole customer t r = joined customer t.recipients t.holds (message_shown r).serial
    (message_value (message_shown r))
