-- What a router holds after paths are added, and which can be.
-- Inner: it serves proofs alone, and no promise rests on it.
use Rattle.std.specs.Prelude.{ℕ, List, [], ◌∷◌, ◌&&◌, Bool, true, false, is_none, Result, Ok, Err}
use Rattle.matchit.specs.Rows.{RowsOf}
use Rattle.matchit.specs.Order.{placed}
use Rattle.matchit.specs.Router.{RouteOf, route_from, nearest}
use Rattle.matchit.specs.Route.{Scan, parse_route}
use Rattle.matchit.specs.declared.error.InsertError.{InsertError}
use Rattle.hq_requests.specs.declared.table.Methods.{Methods}

-- the rows of a router after a path is added that has no fault and no conflict
abbrev pub added_read : Result Scan InsertError → Methods → RowsOf (RouteOf Methods) →
    RowsOf (RouteOf Methods)
added_read (Ok s) path rows = placed (s.pattern, route_from s path) rows
added_read (Err e) path rows = rows

abbrev pub path_added : List ℕ × Methods → RowsOf (RouteOf Methods) → RowsOf (RouteOf Methods)
path_added r rows = added_read (parse_route r.0) r.1 rows

abbrev pub added_all : List (List ℕ × Methods) → RowsOf (RouteOf Methods) → RowsOf (RouteOf Methods)
added_all [] rows = rows
added_all (r ∷ rs) rows = added_all rs (path_added r rows)

-- a path reads well, and no row is in conflict with it
abbrev pub fits_read : Result Scan InsertError → RowsOf (RouteOf Methods) → Bool
fits_read (Ok s) rows = is_none (nearest s.pattern rows)
fits_read (Err e) rows = false

abbrev pub can_add : List ℕ × Methods → RowsOf (RouteOf Methods) → Bool
can_add r rows = fits_read (parse_route r.0) rows

-- each in turn reads well, and is in conflict with none before it
abbrev pub can_add_all : List (List ℕ × Methods) → RowsOf (RouteOf Methods) → Bool
can_add_all [] rows = true
can_add_all (r ∷ rs) rows = can_add r rows && can_add_all rs (path_added r rows)
