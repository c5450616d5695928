-- What a status text tells of the notice that it is of.
use Rattle.std.specs.Prelude.{ℕ, ◌≡◌, ◌<◌, ◌≤◌, ◌^◌, Bool, ◌&&◌, IsTrue, List, length}
use Rattle.std.specs.List.{list_all}
use Rattle.hq_values.specs.Moments.{last_moment}
use Rattle.hq_values.specs.Addresses.{is_address}
use Rattle.hq_values.specs.Words.{is_host, is_text, is_text_byte}
use Rattle.hq_kept.specs.Statuses.{is_status}
use Rattle.hq_kept.specs.declared.message.Message.{Message}
use Rattle.hq_kept.specs.declared.outcome.Told.{Told}
use Rattle.hq_kept.specs.declared.kind.Kind.{Kind}

-- all of it may stand in a line: printable ASCII and spaces
abbrev pub stands_in_line : List ℕ → Bool
stands_in_line bytes = list_all is_text_byte bytes

-- what the types of a told recipient hold
abbrev pub is_told : Told → Bool
is_told t = is_address t.address && is_status t.status && is_text t.text

-- what the types of the values in a status text hold
pub record AreValues (host : List ℕ) (m : Message) (told : List Told) : Type 0 where
  pub host_is : IsTrue (is_host host)
  pub serial_positive : 0 < m.serial
  pub serial_below : m.serial < 2 ^ 40
  pub arrival_is : m.arrival ≤ last_moment
  pub told_are : IsTrue (list_all is_told told)

-- two notices that tell the same of the same message
pub record AreAlike (host other_host : List ℕ) (m n : Message) (kind other_kind : Kind)
    (told others : List Told) : Type 0 where
  pub same_host : host ≡ other_host
  pub same_serial : m.serial ≡ n.serial
  pub same_arrival : m.arrival ≡ n.arrival
  pub same_told : told ≡ others
  pub same_kind : 0 < length told → kind ≡ other_kind
