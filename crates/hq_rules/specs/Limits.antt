-- The limits of a submission, and of a page.
use Rattle.std.specs.Prelude.{ℕ, Bool, nat_le}
use Rattle.hq_kept.specs.Limits.{is_within, most_recipients}

-- 1 to 100 recipients
abbrev pub is_recipient_count : ℕ → Bool
is_recipient_count n = is_within 1 most_recipients n

-- bytes of its message, at most 2^31 - 1
abbrev pub is_size : ℕ → Bool
is_size n = nat_le n 2147483647

-- the most rows of one page: messages, lines, notices, ends, or messages that are due
abbrev pub page_rows : ℕ
page_rows = 100

-- the most ends that one search looks at
abbrev pub search_rows : ℕ
search_rows = 1000
