-- What a move of one message changes, and a move or a deletion of all, each by itself.
-- Inner: it serves proofs alone, and no promise rests on it.
use Rattle.std.specs.Prelude.{◌≡◌, ℕ, Bool, List, [], length, map, take, Option, option_map}
use Rattle.std.specs.Prelude.{is_some}
use Rattle.hq_tables.specs.Readings.{Readings, read_tables}
use Rattle.hq_tables.specs.Tables.{Tables, write_all}
use Rattle.hq_tables.specs.declared.change.Change.{Change}
use Rattle.hq_kept.specs.declared.message.Message.{Message}
use Rattle.hq_owned.specs.Owned.{given}
use Rattle.hq_rules.specs.Queues.{moved_by, moves_of, put, drop}
use Rattle.hq_rules.specs.declared.call.Move.{Move}
use Rattle.hq_rules.specs.declared.call.Move.TheVariants.{Hold, Release}
use Rattle.hq_rules.specs.declared.decision.Decision.{Decision}
use Rattle.hq_rules.specs.Messages.{hold, release}

-- how many of the messages the move changes
abbrev pub moved_count : Move → Readings → ℕ
moved_count by rows = length (moves_of by rows.messages)

-- the tables once each message of the customer is moved
abbrev pub all_moved : List ℕ → Move → Tables → Tables
all_moved customer by t = write_all customer (moves_of by (read_tables customer t).messages) t

-- the first n changes drop all messages, in order of serial
abbrev pub DropAll : ℕ → List Change → Readings → Type 0
DropAll n changes rows = take n changes ≡ map drop rows.messages

-- whether the move changes the message of a serial; nothing, where there is no such message
abbrev pub would_move : Move → ℕ → Readings → Option Bool
would_move by serial rows = option_map (λ (m : Message). is_some (moved_by by m))
    (rows.message serial)

-- what is decided on the move of a message, where there is one
abbrev pub move_found : Move → Option Message → Decision
move_found Hold found = hold found
move_found (Release at) found = release at found

-- its changes
abbrev pub move_of : Move → Option Message → List Change
move_of by found = given [] (λ (m : Message). put (moved_by by m)) found

-- the tables once the message of a serial is moved
abbrev pub one_moved : List ℕ → ℕ → Move → Tables → Tables
one_moved customer serial by t =
    write_all customer (move_of by ((read_tables customer t).message serial)) t
