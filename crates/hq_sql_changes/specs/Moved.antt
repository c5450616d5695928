-- What a move of all messages of a customer makes of the tables, in sets: their rows are changed
-- together, and so are their reasons.
-- Inner: it serves proofs alone, and no promise rests on it.
use Rattle.std.specs.Prelude.{ℕ, Bool, true, false, List, [], ◌∷◌}
use Rattle.std.specs.FinMap.{FinMap}
use Rattle.hq_values.specs.Words.{customer_hold}
use Rattle.hq_tables.specs.Tables.{Tables, message_cmp, give_reason}
use Rattle.hq_rules.specs.declared.call.Move.{Move}
use Rattle.hq_rules.specs.declared.call.Move.TheVariants.{Hold, Release}
use Rattle.hq_sql_messages.specs.Moves.{standing_serials, all_held, all_released, without_holds}

-- whether a move is of messages that are on hold, or of those that are not
abbrev pub moves_from : Move → Bool
moves_from Hold = false
moves_from (Release at) = true

-- the reason stands at each of these messages of the customer
abbrev pub give_all : List ℕ → List ℕ → List ℕ → FinMap message_cmp (List ℕ) →
    FinMap message_cmp (List ℕ)
give_all customer reason [] hs = hs
give_all customer reason (serial ∷ serials) hs =
    give_all customer reason serials (give_reason customer serial reason hs)

abbrev pub with_reasons : List ℕ → List ℕ → List ℕ → Tables → Tables
with_reasons customer reason serials t = record t {
  holds = give_all customer reason serials t.holds;
}

-- the tables once all messages of the customer are moved
abbrev pub set_moved : List ℕ → Move → Tables → Tables
set_moved customer Hold t =
    all_held customer (with_reasons customer customer_hold (standing_serials customer false t) t)
set_moved customer (Release at) t = without_holds customer (all_released customer at t)
