-- What the statements on histories find and leave.
-- Inner: it serves proofs alone, and no promise rests on it.
use Rattle.std.specs.Prelude.{◌≡◌, ℕ, pos, nat_le, nat_lt, List, [], ◌∷◌, map}
use Rattle.std.specs.FinMap.{insert, retain_keys}
use Rattle.sqlite.specs.declared.types.Value.TheVariants.{Text}
use Rattle.sqlite.specs.Order.{Row}
use Rattle.hq_values.specs.Senders.{sender_text}
use Rattle.hq_keyed.specs.Values.{number}
use Rattle.hq_kept.specs.declared.outcome.Ended.{Ended}
use Rattle.hq_kept.specs.declared.end.End.{End}
use Rattle.hq_kept.specs.declared.end.Ends.{Ends}
use Rattle.hq_rows.specs.declared.rows.EndRow.{EndRow}
use Rattle.hq_rows.specs.Listed.{end_key, end_value}
use Rattle.hq_tables.specs.Tables.{Tables, left_of, last_before, add_rows}
use Rattle.hq_sql.specs.Rows.{fate_code, end_shown, sender_of, status_column, status_read}
use Rattle.hq_sql_notices.specs.declared.end_values.EndNumbers.{EndNumbers}

abbrev pub end_row : List ℕ → End → EndRow
end_row customer end = record { customer = customer; end = end }

-- the texts of its sender and its status read back
abbrev pub AreReadable : Ended → Type 0
AreReadable e = (sender_of (sender_text e.sender) ≡ e.sender)
    × (status_read (status_column e.status) ≡ e.status)

-- the end stands at its number
abbrev pub with_end : EndRow → Tables → Tables
with_end r t = record t { ends = insert t.ends (end_key r) (end_value r) }

-- an end of a number
abbrev pub end_at : ℕ → ℕ → Ended → End
end_at number at ended = record { number = number; at = at; ended = ended }

-- none of the customer's stands above the number
abbrev pub without_above : List ℕ → ℕ → Tables → Tables
without_above customer n t = record t {
  ends = retain_keys t.ends (left_of customer (λ x. nat_le x n));
}

-- these ends stand, in place of all from the number of the first of them on
abbrev pub with_ends : List ℕ → Ends → Tables → Tables
with_ends customer ends t = record t {
  ends = add_rows customer ends.at ends.last ends.ended
      (without_above customer (last_before ends) t).ends;
}

-- none of the customer's stands up to the number
abbrev pub without_to : List ℕ → ℕ → Tables → Tables
without_to customer n t = record t { ends = retain_keys t.ends (left_of customer (nat_lt n)) }

-- the numbers of an end as columns take them
abbrev pub end_numbers : End → EndNumbers
end_numbers e = record {
  number = pos e.number;
  at = pos e.at;
  serial = pos e.ended.serial;
  fate = pos (fate_code e.ended.fate);
}

-- what a page is asked with
abbrev pub newest_columns : List ℕ → ℕ → Row
newest_columns customer limit = Text customer ∷ number limit ∷ []

abbrev pub page_columns : List ℕ → ℕ → ℕ → Row
page_columns customer before limit = Text customer ∷ number before ∷ number limit ∷ []

-- the end of a row of an answer
abbrev pub end_in : Row → End
end_in r = (end_shown r).end

-- the ends of an answer
abbrev pub ends_in : List Row → List End
ends_in rows = map end_in rows
