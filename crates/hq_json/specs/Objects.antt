-- JSON objects as lists of their members.
use Rattle.std.specs.Prelude.{ℕ, List, [], ◌∷◌, map}
use Rattle.serde_json.specs.Data.{Data, number, string, array, object, unsigned, Members}
use Rattle.serde_json.specs.Data.{no_members, member}
use Rattle.serde_json.specs.View.{items_of}
use Rattle.hq_values.specs.Serials.{serial_text}
use Rattle.hq_kept.specs.declared.message.Pending.{Pending}

abbrev pub members_in : List (List ℕ × Data) → Members
members_in [] = no_members
members_in (m ∷ ms) = member m.0 m.1 (members_in ms)

-- an object with these members
abbrev pub having : List (List ℕ × Data) → Data
having ms = object (members_in ms)

abbrev pub count : ℕ → Data
count n = number (unsigned n)

abbrev pub id : ℕ → Data
id serial = string (serial_text serial)

abbrev pub texts : List (List ℕ) → Data
texts ts = array (items_of (map (λ t. string t) ts))

-- to whom a message still goes
abbrev pub addresses : List Pending → Data
addresses ps = array (items_of (map (λ (p : Pending). string p.address) ps))
