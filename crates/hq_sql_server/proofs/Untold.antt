-- A place that is told, or is not: then its clients are ended as they came.
use Rattle.std.specs.Prelude.{⊤}
use Rattle.std.proofs.Common.{List, [], ◌∷◌, ℕ, Option, Some, Result, Ok, Err, subst, sym}
use Rattle.hq_values.specs.declared.failure.Fail.TheVariants as fail
use Rattle.hq_batch.specs.Printing.{IsPut}
use Rattle.hq_settings.specs.declared.trouble.Trouble.{Trouble}
use Rattle.hq_settings.specs.declared.trouble.Trouble.TheVariants as trouble
use Rattle.hq_network.specs.Networks.{Networking, ended, listened}
use Rattle.hq_network.specs.declared.places.Place.{Place}
use Rattle.hq_network.specs.Places.{IsPlaceOf, place_line}
use Rattle.hq_sockets.specs.declared.deadlines.Limits.{Limits}
use Rattle.hq_sql_server.specs.Listening.{IsUnbound, IsUntold, TellsPlace}

-- its line is written, or a beginning of it
pub put_so : (place : Place) (old new : Option (List ℕ)) (unwritten : Type 0)
    (result : Result ⊤ Trouble) → IsPut (place_line place) old new result →
    TellsPlace place old new unwritten result
put_so place old new unwritten (Ok _) h = h
put_so place old new unwritten (Err why) h =
    subst (IsUntold place old new unwritten) (sym h.0) h.1

module _ {N K : Type 0} (does : Networking N K) (text : List ℕ) (limits : Limits)
    (net_old net_new : N) (old new : Option (List ℕ)) (unwritten : Type 0) (clients : K)
    (place : Place) (named : IsPlaceOf text place)
    (done : does net_old (listened text limits (Some (clients, place)) ∷ ended clients ∷ [])
    net_new)
  where
    pub untold_so : (why : Trouble) → IsUntold place old new unwritten why →
        IsUnbound does text limits net_old net_new unwritten old new why
    untold_so trouble.Output h = (clients, place, named, h, done)
    untold_so (trouble.Desk (fail.Fault fault)) h = (clients, place, named, h, done)
    untold_so (trouble.Desk (fail.Refused refusal)) h = absurd h
    untold_so trouble.File h = absurd h
    untold_so trouble.Input h = absurd h
    untold_so trouble.Network h = absurd h
    untold_so trouble.Clock h = absurd h
    untold_so (trouble.Keys refusal) h = absurd h
