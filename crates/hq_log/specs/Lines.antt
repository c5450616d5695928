-- A line of a log: an object of JSON and LF (10). Its first members stand in the order of their
-- names; behind them may stand `key`, `cut` and `told`.
use Rattle.std.specs.Prelude.{ℕ, ◌==◌, ◌&&◌, ◌||◌, ◌-◌, Bool, true, false, List, [], ◌∷◌, ◌++◌}
use Rattle.std.specs.Prelude.{take, length, codes, nat_le, nat_lt, Option, Some, None, option_map}
use Rattle.std.specs.Prelude.{option_and_then}
use Rattle.std.specs.Prelude.{bytes_eq, if◌then◌else◌}
use Rattle.std.specs.Fmt.Cut.{floor_char_boundary}
use Rattle.serde_json.specs.Data.{Data, null, string}
use Rattle.serde_json.specs.Written.{compact_text}
use Rattle.hq_json.specs.Objects.{having, count}
use Rattle.hq_requests.specs.Bodies.{body_bytes, error_told}
use Rattle.hq_requests.specs.Directories.{Whose}
use Rattle.hq_requests.specs.Named.{whose_told}
use Rattle.hq_log.specs.declared.entry.ExchangeEntry.{ExchangeEntry}

-- What is told of an exchange, but for how long it took.
pub record LogEntry : Type 0 where
  pub at : Option ℕ
  pub whose : Option Whose
  pub method : Option (List ℕ)
  pub path : Option (List ℕ)
  pub status : ℕ
  pub body : List ℕ

-- as the code has it
abbrev pub entry_seen : ExchangeEntry → LogEntry
entry_seen e = record {
  at = e.at;
  whose = whose_told e.reply.now;
  method = option_map (λ m. m.now) e.method;
  path = option_map (λ p. p.now) e.path;
  status = e.reply.now.status;
  body = body_bytes e.reply.now.body;
}

abbrev pub number_or_null : Option ℕ → Data
number_or_null None = null
number_or_null (Some n) = count n

-- how many bytes of a text stand in a line at most
abbrev pub most_shown : ℕ
most_shown = 256

-- what stands of a text: all of it, or the characters that end within so many bytes
unfoldable pub shown : List ℕ → List ℕ
shown text = if nat_le (length text) most_shown then text else
    take (floor_char_boundary text most_shown) text

-- a text that is there does not stand whole
abbrev pub is_long : Option (List ℕ) → Bool
is_long None = false
is_long (Some text) = nat_lt most_shown (length text)

abbrev pub text_or_null : Option (List ℕ) → Data
text_or_null None = null
text_or_null (Some text) = string text

abbrev pub shown_or_null : Option (List ℕ) → Data
shown_or_null None = null
shown_or_null (Some text) = string (shown text)

-- the name of the customer that it is of
abbrev pub customer_in : Option Whose → Option (List ℕ)
customer_in = option_map (λ whose. whose.customer)

-- the name of the key that was shown, where the key has one
abbrev pub key_name_in : Option Whose → Option (List ℕ)
key_name_in = option_and_then (λ whose. whose.key)

-- with how long it took: no key stands here, and no body
unfoldable pub log_members : LogEntry → Option ℕ → Data
log_members e milliseconds = having (
    (codes "at", number_or_null e.at) ∷
    (codes "customer", text_or_null (customer_in e.whose)) ∷
    (codes "error", number_or_null (error_told e.status e.body)) ∷
    (codes "method", shown_or_null e.method) ∷
    (codes "milliseconds", number_or_null milliseconds) ∷
    (codes "path", shown_or_null e.path) ∷
    (codes "status", count e.status) ∷
    [])

-- the path of a sweep of all customers, or of a hundred
abbrev pub is_sweep_path : Option (List ℕ) → Bool
is_sweep_path None = false
is_sweep_path (Some path) = bytes_eq path (codes "/relay/sweep")
    || bytes_eq path (codes "/relay/sweep-from")

-- all customers were swept, or a hundred
abbrev pub is_sweep_of_all : LogEntry → Bool
is_sweep_of_all e = e.status == 200 && is_sweep_path e.path

-- an object's text with one more member behind the others: what stands before its value, the
-- value, and what closes both
abbrev pub with_last : List ℕ → List ℕ → List ℕ → List ℕ → List ℕ
with_last start value close object = take (length object - 1) object ++ start ++ value ++ close

-- a key that has a name is told by it
abbrev pub key_told : Option (List ℕ) → List ℕ → List ℕ
key_told None object = object
key_told (Some name) object = with_last (codes ",\"key\":\"") name (codes "\"}") object

-- the method or the path does not stand whole
abbrev pub is_cut : LogEntry → Bool
is_cut e = is_long e.method || is_long e.path

-- a line says that something of it is cut
abbrev pub cut_told : LogEntry → List ℕ → List ℕ
cut_told e object = if is_cut e then
    with_last (codes ",\"cut\":") (codes "true") (codes "}") object else object

-- what was told of each customer is the last member of the line of a sweep of all
abbrev pub sweep_told : LogEntry → List ℕ → List ℕ
sweep_told e object = if is_sweep_of_all e then
    with_last (codes ",\"told\":") e.body (codes "}") object else object

abbrev pub log_text : LogEntry → Option ℕ → List ℕ
log_text e milliseconds = sweep_told e (cut_told e
    (key_told (key_name_in e.whose) (compact_text (log_members e milliseconds))))

abbrev pub log_line : LogEntry → Option ℕ → List ℕ
log_line e milliseconds = log_text e milliseconds ++ 10 ∷ []

-- after a line that was lost, of which a part may be there, it begins with LF
abbrev pub log_line_after : Bool → LogEntry → Option ℕ → List ℕ
log_line_after true e milliseconds = 10 ∷ log_line e milliseconds
log_line_after false e milliseconds = log_line e milliseconds
