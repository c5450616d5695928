-- The columns of a directory, in the order of its header, and the limits of each.
use Rattle.std.specs.Prelude.{ℕ, Bool}
use Rattle.hq_kept.specs.Limits.{is_within, is_delay, is_history, most_messages, most_lines}
use Rattle.hq_kept.specs.Limits.{most_notices}
use Rattle.hq_import.specs.declared.columns.Number.{Number}
use Rattle.hq_import.specs.declared.columns.Number.TheVariants.{Messages, Bytes, Lines, Notices}
use Rattle.hq_import.specs.declared.columns.Number.TheVariants.{Delay, History}

-- where a number stands in its row, from 0: behind the name and the key
abbrev pub place : Number → ℕ
place Messages = 2
place Bytes = 3
place Lines = 4
place Notices = 5
place Delay = 6
place History = 7

-- the limits of a quota, of a delay and of a history
abbrev pub is_in : Number → ℕ → Bool
is_in Messages n = is_within 1 most_messages n
is_in Bytes n = is_within 1 2147483647000 n
is_in Lines n = is_within 1 most_lines n
is_in Notices n = is_within 1 most_notices n
is_in Delay n = is_delay n
is_in History n = is_history n
