-- What a move of one message makes of the tables: its row is changed, and its reason.
-- Inner: it serves proofs alone, and no promise rests on it.
use Rattle.std.specs.Prelude.{ℕ, Bool, not, List, Option, option_map, is_some}
use Rattle.hq_values.specs.Words.{customer_hold}
use Rattle.hq_kept.specs.Messages.{is_on_hold}
use Rattle.hq_kept.specs.declared.message.Message.{Message}
use Rattle.hq_kept.specs.declared.message.QueueState.{QueueState}
use Rattle.hq_tables.specs.Readings.{read_tables}
use Rattle.hq_tables.specs.Tables.{Tables}
use Rattle.hq_rules.specs.Queues.{moved_by}
use Rattle.hq_rules.specs.declared.call.Move.{Move}
use Rattle.hq_rules.specs.declared.call.Move.TheVariants.{Hold, Release}
use Rattle.hq_sql_messages.specs.Holds.{with_reason, without_hold}
use Rattle.hq_sql_messages.specs.OneMove.{one_held, one_released}

-- whether the move changes a message in this state
abbrev pub move_applies : Move → QueueState → Bool
move_applies Hold state = not (is_on_hold state)
move_applies (Release at) state = is_on_hold state

-- whether it changes the customer's message of a serial; nothing, where there is no such message
abbrev pub moves_message : List ℕ → ℕ → Move → Tables → Option Bool
moves_message customer serial by t = option_map (λ (m : Message). is_some (moved_by by m))
    ((read_tables customer t).message serial)

-- the tables once the row and the reason of the message of a serial are those of a moved message
abbrev pub one_set_moved : List ℕ → ℕ → Move → Tables → Tables
one_set_moved customer serial Hold t =
    with_reason customer serial customer_hold (one_held (customer, serial) t)
one_set_moved customer serial (Release at) t =
    without_hold (customer, serial) (one_released (customer, serial) at t)
