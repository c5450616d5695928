-- What a shelf says of a round, of a desk over it.
use Rattle.std.proofs.Common.{◌≡◌, ◌⊎◌, inl, inr, ⊎_elim, ℕ, Bool, List, sym, subst}
use Rattle.hq_values.specs.declared.failure.Fault.{Fault}
use Rattle.hq_values.specs.declared.failure.Fault.TheVariants.{Closed}
use Rattle.hq_tables.specs.Shelves.{Sight}
use Rattle.hq_tables.specs.Tables.{Tables}
use Rattle.hq_rules.specs.Desks.{DeskSight}
use Rattle.hq_desk.specs.Desks.{host_of, on, shelf_of}
use Rattle.hq_desk.specs.declared.desk.Desk.{Desk}
use Rattle.hq_rounds.specs.Rounds.{BeginsRound, RestsWith, EndsRound}
use Rattle.hq_requests.specs.declared.directory.Directory.{Directory}
use Rattle.hq_wire.specs.Exchanges.{Ask, with_refusals}
use Rattle.hq_wire.specs.Replies.{SeenReply}
use Rattle.hq_wire.specs.Runs.{Served}
use Rattle.hq_together.proofs.Inside.{Ran}

module _ (refused : Type 0) {S R : Type 0} (sight : Sight S) (inside : Sight R) where
  abbrev outer : DeskSight (Desk S)
  outer = with_refusals refused (on sight)

  abbrev inner : DeskSight (Desk R)
  inner = with_refusals refused (on inside)

  -- memory may be wanted inside and outside
  pub more : ((fault : Fault) → inside.may_answer fault
      → (fault ≡ Closed) ⊎ sight.may_answer fault) →
      (fault : Fault) → inner.store.may_answer fault →
      (fault ≡ Closed) ⊎ outer.store.may_answer fault
  more same fault (inl want) = inr (inl want)
  more same fault (inr may) = ⊎_elim (λ (closed : fault ≡ Closed). inl closed)
      (λ (it : sight.may_answer fault). inr (inr it)) (same fault may)

  begins_on : (old : Desk S) (first : Desk R) →
      BeginsRound sight inside (shelf_of old) (shelf_of first) →
      BeginsRound outer.store inner.store old first
  begins_on old first it = record {
    was_open = it.was_open;
    is_open = it.is_open;
    tables = it.tables;
    back = it.back;
    ours = it.ours;
    quiet = it.quiet;
    counted = it.counted;
  }

  rests_on : (desk : Desk S) (t : Tables) → RestsWith sight (shelf_of desk) t →
      RestsWith outer.store desk t
  rests_on desk t it = record { tables = it.tables; ours = it.ours; stops = it.stops }

  settles_on : (last : Desk R) (faults : ℕ) (stands : Bool) (new : Desk S) →
      EndsRound inside sight (shelf_of last) faults stands (shelf_of new) →
      EndsRound inner.store outer.store last faults stands new
  settles_on last faults stands new it = record {
    stays_open = it.stays_open;
    made = λ clean ours up. rests_on new _ (it.made clean ours up);
    back = λ clean t back open_ down. rests_on new t (it.back clean t back open_ down);
    quiet = it.quiet;
    counted = it.counted;
    stops = it.stops;
  }

  -- what the steps of a round say, put together
  pub built : (d : Directory)
      (same_faults : (fault : Fault) → inside.may_answer fault
      → (fault ≡ Closed) ⊎ sight.may_answer fault)
      (old new : Desk S) (first last : Desk R) (asks : List Ask) (rs : List SeenReply)
      (stands : Bool) (s out : S) (round ended : R) (faults : ℕ) → s ≡ shelf_of old →
      faults ≡ sight.fault_count (shelf_of old) →
      BeginsRound sight inside s round → shelf_of first ≡ round → host_of first ≡ host_of old →
      Served inner d first asks rs last → ended ≡ shelf_of last →
      EndsRound inside sight ended faults stands out → shelf_of new ≡ out →
      host_of new ≡ host_of last →
      Ran outer inner d (more same_faults) old asks rs stands new
  built d same_faults old new first last asks rs stands s out round ended faults from count begins
      into first_host each at settles back host = record {
        first = first;
        last = last;
        begins = begins_on old first (subst (BeginsRound sight inside (shelf_of old)) (sym into)
            (subst (λ x. BeginsRound sight inside x round) from begins));
        first_host = first_host;
        each = each;
        settles = settles_on last (sight.fault_count (shelf_of old)) stands new
            (subst (λ n. EndsRound inside sight (shelf_of last) n stands (shelf_of new)) count
            (subst (EndsRound inside sight (shelf_of last) faults stands) (sym back)
            (subst (λ x. EndsRound inside sight x faults stands out) at settles)));
        host = host;
      }
