-- What statements are asked with: numbers as columns take them, and keys.
-- Inner: it serves proofs alone, and no promise rests on it.
use Rattle.std.specs.Prelude.{ℕ, pos, List, [], ◌∷◌}
use Rattle.sqlite.specs.declared.types.Value.TheVariants.{Text}
use Rattle.sqlite.specs.Order.{Row}
use Rattle.hq_keyed.specs.Values.{number}
use Rattle.hq_tables.specs.declared.account.Account.{Account}
use Rattle.hq_sql.specs.declared.bind.HeadNumbers.{HeadNumbers}

abbrev pub head_numbers : Account → HeadNumbers
head_numbers account = record {
  next_serial = pos account.head.next_serial;
  next_notice = pos account.head.next_notice;
  accepted = pos account.head.tally.accepted;
  delivered = pos account.head.tally.delivered;
  failed = pos account.head.tally.failed;
  deleted = pos account.head.tally.deleted;
  expired = pos account.head.tally.expired;
  messages = pos account.counts.messages;
  bytes = pos account.counts.bytes;
  lines = pos account.counts.lines;
}

-- the columns of the key of a message
abbrev pub message_key_columns : List ℕ × ℕ → Row
message_key_columns key = Text key.0 ∷ number key.1 ∷ []

-- what the rows of all messages from one serial to another are asked with
abbrev pub between_columns : List ℕ → ℕ → ℕ → Row
between_columns customer low high = Text customer ∷ number low ∷ number high ∷ []
