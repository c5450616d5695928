-- What a key may ask for, by its right.
use Rattle.std.specs.Prelude.{Bool, true, not}
use Rattle.hq_import.specs.declared.keys.Right.{Right}
use Rattle.hq_import.specs.declared.keys.Right.TheVariants.{All, Reading}
use Rattle.hq_requests.specs.Routes.{changes}
use Rattle.hq_requests.specs.declared.table.Route.{Route}

-- whether a right is one to a route: that to read is one to those that change nothing
abbrev pub allows : Right → Route → Bool
allows All route = true
allows Reading route = not (changes route)
