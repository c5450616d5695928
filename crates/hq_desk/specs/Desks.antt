-- What is seen of a desk over a shelf.
use Rattle.std.specs.Prelude.{ℕ, List}
use Rattle.hq_tables.specs.Shelves.{Sight}
use Rattle.hq_rules.specs.Desks.{DeskSight}
use Rattle.hq_desk.specs.declared.desk.Desk.{Desk}

-- the shelf that keeps its tables
abbrev pub shelf_of : {S : Type 0} → Desk S → S
shelf_of desk = desk.shelf

-- the name of its relay
abbrev pub host_of : {S : Type 0} → Desk S → List ℕ
host_of desk = desk.host

-- what is seen of its shelf
abbrev pub store_on : {S : Type 0} → Sight S → Sight (Desk S)
store_on sight = record {
  tables = λ desk. sight.tables (shelf_of desk);
  is_closed = λ desk. sight.is_closed (shelf_of desk);
  fault_count = λ desk. sight.fault_count (shelf_of desk);
  is_clean = λ desk. sight.is_clean (shelf_of desk);
  is_ours = λ desk. sight.is_ours (shelf_of desk);
  may_answer = sight.may_answer;
  may_leave = λ desk. sight.may_leave (shelf_of desk);
  leaves_desk = λ desk. sight.leaves_desk (shelf_of desk);
  goes_back = λ desk. sight.goes_back (shelf_of desk);
}

-- what is seen of a desk, by what is seen of its shelf
abbrev pub on : {S : Type 0} → Sight S → DeskSight (Desk S)
on sight = record { store = store_on sight; host = host_of }
