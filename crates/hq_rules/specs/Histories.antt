-- A customer's history: what became of each recipient that left the queue. Which numbers they get,
-- which of all are kept, and which are told.
use Rattle.std.specs.Prelude.{ℕ, ◌-◌, Bool, nat_lt, List, [], ◌∷◌, length, drop, take, filter}
use Rattle.std.specs.Prelude.{if◌then◌else◌, Option, None, option_map}
use Rattle.std.specs.List.{last_or}
use Rattle.hq_values.specs.declared.address.Sender.{Sender}
use Rattle.hq_values.specs.declared.address.Sender.TheVariants.{From}
use Rattle.hq_kept.specs.Keys.{is_key_of}
use Rattle.hq_kept.specs.declared.pattern.Class.{Class}
use Rattle.hq_kept.specs.declared.pattern.Class.TheVariants.{SenderSide, RecipientSide}
use Rattle.hq_kept.specs.Tallies.{last_gone}
use Rattle.hq_kept.specs.declared.account.Entry.{Entry}
use Rattle.hq_kept.specs.declared.account.Head.{Head}
use Rattle.hq_kept.specs.declared.outcome.Ended.{Ended}
use Rattle.hq_tables.specs.declared.change.Change.{Change}
use Rattle.hq_tables.specs.declared.change.Change.TheVariants.{PutEnds, DropEndsTo}
use Rattle.hq_kept.specs.declared.end.End.{End}
use Rattle.hq_rules.specs.Answering.{tell}
use Rattle.hq_rules.specs.declared.answer.Answer.TheVariants as answer
use Rattle.hq_rules.specs.declared.decision.Decision.{Decision}
use Rattle.hq_rules.specs.Limits.{page_rows, search_rows}

-- ---- what is kept

-- the last so many
abbrev pub last_of : {X : Type 0} → ℕ → List X → List X
last_of n xs = drop (length xs - n) xs

-- ends that are put, where there are any: the last of them has this number
abbrev pub put_to : ℕ → ℕ → List Ended → List Change
put_to at last [] = []
put_to at last (e ∷ es) = PutEnds (record { last = last; at = at; ended = e ∷ es }) ∷ []

-- where recipients left the queue, the newest so many are kept of all; `last` is the number of the
-- last of them
abbrev pub remembered : ℕ → ℕ → ℕ → List Ended → List Change
remembered history at last [] = []
remembered history at last (e ∷ es) = DropEndsTo (last - history)
    ∷ put_to at last (last_of history (e ∷ es))

-- the same, by the customer's head after them: as many recipients as it tells of have left
abbrev pub kept_history : Entry → ℕ → Head → List Ended → List Change
kept_history entry at head es = remembered entry.history at (last_gone head.tally) es

-- ---- what is told

-- the first hundred, and whether there are more
abbrev pub history_page : List End → Decision
history_page es = tell (answer.HistoryListed (take page_rows es) (nat_lt page_rows (length es)))

-- the address of an end that a pattern of a class is for
abbrev pub who_of : Class → Ended → Sender
who_of SenderSide e = e.sender
who_of RecipientSide e = From e.recipient

-- a line of this pattern could be found for the address (access(5), EMAIL ADDRESS PATTERNS)
abbrev pub is_meant : Class × List ℕ → End → Bool
is_meant pattern end = is_key_of pattern.1 (who_of pattern.0 end.ended)

-- the number of the last
abbrev pub last_number : List End → Option ℕ
last_number es = option_map (λ (e : End). e.number) (last_or None es)

-- where a search goes on: behind the last that is told, where more were found; else behind the last
-- that was looked at, where there are more
abbrev pub next_from : List End → List End → Option ℕ
next_from es found = if nat_lt page_rows (length found) then last_number (take page_rows found) else
    (if nat_lt search_rows (length es) then last_number (take search_rows es) else None)

-- of the first thousand those that are meant, and where the search goes on
abbrev pub found_of : List End → List End → Decision
found_of es found = tell (answer.HistoryFound (take page_rows found) (next_from es found))

abbrev pub find_history : Class × List ℕ → List End → Decision
find_history pattern es = found_of es (filter (is_meant pattern) (take search_rows es))
