-- Whose an exchange is, also where it is refused.
use Rattle.std.specs.Prelude.{ℕ, List, Option, Some, None, option_map, option_and_then}
use Rattle.std.specs.Prelude.{string_bytes, Result, Ok, Err}
use Rattle.hq_values.specs.Readers.{◌>>=◌, or_refuse}
use Rattle.hq_values.specs.declared.failure.Refusal.{Refusal}
use Rattle.hq_values.specs.declared.failure.Refusal.TheVariants.{NoRoute}
use Rattle.hq_requests.specs.Directories.{Held, Whose, held_on, whose_seen}
use Rattle.hq_requests.specs.Routes.{last_segment, methods_at, role_of}
use Rattle.hq_requests.specs.declared.directory.Directory.{Directory}
use Rattle.hq_requests.specs.declared.exchanges.Exchange.{Exchange}
use Rattle.hq_requests.specs.declared.reply.Reply.{Reply}
use Rattle.hq_requests.specs.declared.table.Role.{Role}
use Rattle.hq_requests.specs.declared.table.Role.TheVariants as role

-- the first of two that is there
abbrev pub first_ok : Result Held Refusal → Result Held Refusal → Option Whose
first_ok (Ok held) other = Some held.whose
first_ok (Err why) (Ok held) = Some held.whose
first_ok (Err why) (Err other) = None

-- the customer that the relay names at the end of a path, where the path takes its key for one
abbrev pub named_by_relay : Directory → Option (List ℕ) → List ℕ → Role → Result Held Refusal
named_by_relay d key path role.Relay = held_on d role.Relay key (last_segment path)
named_by_relay d key path _ = Err NoRoute

abbrev pub named_at : Directory → Option (List ℕ) → List ℕ → Result Held Refusal
named_at d key path = or_refuse NoRoute (methods_at path)
    >>= (λ methods. named_by_relay d key path (role_of methods))

-- the customer whose key is shown, or whom the relay names, and the name of the key
abbrev pub whose_at : Directory → Option (List ℕ) → List ℕ → Option Whose
whose_at d key path = first_ok (held_on d role.Customer key (last_segment path))
    (named_at d key path)

abbrev pub key_shown : Exchange → Option (List ℕ)
key_shown x = option_map string_bytes x.key

abbrev pub whose_exchange : Directory → Exchange → Option Whose
whose_exchange d x = whose_at d (key_shown x) (string_bytes x.path)

-- of one that may be there
abbrev pub whose_asked : Directory → Option Exchange → Option Whose
whose_asked d asked = option_and_then (whose_exchange d) asked

-- of a reply
abbrev pub whose_told : Reply → Option Whose
whose_told reply = option_map whose_seen reply.caller
