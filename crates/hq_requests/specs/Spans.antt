-- Whom a call of all asks.
use Rattle.std.specs.Prelude.{ℕ, List, [], ◌∷◌, map, take, drop, Option, None, Some}
use Rattle.std.specs.Prelude.{option_map, if◌then◌else◌}
use Rattle.hq_kept.specs.declared.account.Customer.{Customer}
use Rattle.hq_requests.specs.Customers.{has_name}
use Rattle.hq_requests.specs.Directories.{name_of}
use Rattle.hq_requests.specs.declared.directory.Directory.{Directory}
use Rattle.hq_requests.specs.declared.spans.Span.{Span}
use Rattle.hq_requests.specs.declared.spans.Span.TheVariants as span

-- Every customer; or at most 100, from the one of this name on, or from the first.
pub data Whom : Type 0 where
  Everyone : Whom
  From : Option (List ℕ) → Whom

-- as the code has it
abbrev pub whom_seen : Span → Whom
whom_seen span.Everyone = Everyone
whom_seen (span.From start) = From (option_map (λ name. name.now) start)

-- the customers from the one of this name on
abbrev pub from_name : List ℕ → List Customer → List Customer
from_name name [] = []
from_name name (c ∷ cs) = if has_name name c then c ∷ cs else from_name name cs

abbrev pub from_start : Option (List ℕ) → List Customer → List Customer
from_start None cs = cs
from_start (Some name) cs = from_name name cs

-- the most customers that are asked from one on
abbrev pub most_asked : ℕ
most_asked = 100

-- the customers that are asked, in the order of the directory
abbrev pub asked_in : Directory → Whom → List Customer
asked_in d Everyone = d.customers
asked_in d (From start) = take most_asked (from_start start d.customers)

-- those behind them, of whom a reply tells the first
abbrev pub unasked_in : Directory → Whom → List Customer
unasked_in d Everyone = []
unasked_in d (From start) = drop most_asked (from_start start d.customers)

-- the names of the customers that are asked
abbrev pub names_in : Directory → Whom → List (List ℕ)
names_in d whom = map name_of (asked_in d whom)
