-- The limits of what a customer may keep. They are this product's own.
use Rattle.std.specs.Prelude.{ℕ, Bool, ◌&&◌, nat_le, nat_lt}

abbrev pub is_within : ℕ → ℕ → ℕ → Bool
is_within low high n = nat_le low n && nat_le n high

-- the most messages of a customer
abbrev pub most_messages : ℕ
most_messages = 1000

-- the most lines of access tables of a customer
abbrev pub most_lines : ℕ
most_lines = 5000

-- the most notices that are kept for a customer
abbrev pub most_notices : ℕ
most_notices = 1000

-- the most recipients that a customer's history is kept of
abbrev pub most_history : ℕ
most_history = 1000000

-- of so many recipients the history is kept; 0 is of none
abbrev pub is_history : ℕ → Bool
is_history n = nat_le n most_history

-- the most recipients of a message
abbrev pub most_recipients : ℕ
most_recipients = 100

-- messages, their bytes together, lines of access tables, kept notices
abbrev pub is_quota : ℕ → ℕ → ℕ → ℕ → Bool
is_quota messages bytes lines notices = is_within 1 most_messages messages
    && is_within 1 2147483647000 bytes
    && is_within 1 most_lines lines && is_within 1 most_notices notices

-- after so many seconds a message expires: five days (Postfix's default of maximal_queue_lifetime)
abbrev pub expiry : ℕ
expiry = 432000

-- seconds until a sender is warned, before the message expires; 0 is never
abbrev pub is_delay : ℕ → Bool
is_delay delay = nat_lt delay expiry
