-- Those who leave in a call were recipients of messages that stood in the queue.
use Rattle.std.proofs.Common.{◌≡◌, ℕ, List, [], ◌∷◌, map, refl, Some, None, Option}
use Rattle.std.specs.FinMap.{get, values}
use Rattle.std.specs.List.{All, Contains, flat_map, cons_option}
use Rattle.std.proofs.lemmas.List.Elements.{All-nil, All-cons, All-head, All-tail, All-append}
use Rattle.std.proofs.lemmas.List.Elements.{All-map, All-weaker, All-contains_itself}
use Rattle.hq_rules.specs.Attempts.{ended, ended_by, ended_with, outcome_of}
use Rattle.hq_rules.specs.Leaving.{ended_as, all_ended}
use Rattle.hq_rules.specs.Ages.{after_sweep, swept}
use Rattle.hq_kept.specs.declared.message.Message.{Message}
use Rattle.hq_kept.specs.declared.message.Pending.{Pending}
use Rattle.hq_kept.specs.declared.outcome.Delivery.{Delivery}
use Rattle.hq_kept.specs.declared.outcome.Delivery.TheVariants as delivery
use Rattle.hq_kept.specs.declared.outcome.Ended.{Ended}
use Rattle.hq_kept.specs.declared.outcome.Fate.{Fate}
use Rattle.hq_kept.specs.declared.outcome.Fate.TheVariants as fate
use Rattle.hq_kept.specs.declared.outcome.Outcome.{Outcome}
use Rattle.hq_rules.specs.declared.swept.Swept.{Swept}
use Rattle.hq_rules.specs.declared.swept.Swept.TheVariants.{Expired, Warned, Untouched}
use Rattle.hq_tables.specs.Sound.{SoundState}
use Rattle.hq_tables.specs.Tables.{State}
use Rattle.hq_isolation.proofs.Many.{Queue, Stand, stand_values}
use Rattle.hq_rules.specs.Sweeps.{message_met, ended_in}
use Rattle.hq_laws.specs.Queued.{WasQueued}

-- it stands in the queue, at its queue ID
abbrev pub Stands : Queue → Message → Type 0
Stands q m = get q m.serial ≡ Some m

stand_each : (q : Queue) (ms : List Message) → Stand q ms → All (Stands q) ms
stand_each q [] h = All-nil (Stands q)
stand_each q (m ∷ ms) h = All-cons (Stands q) m ms h.0 (stand_each q ms h.2)

pub all_stand : (s : State) → SoundState s → All (Stands s.messages) (values s.messages)
all_stand s h = stand_each s.messages (values s.messages)
    (stand_values s.messages (λ k m f. (h.shaped.messages k m f).own_serial))

module _ (s : State) where
  abbrev Was : Ended → Type 0
  Was = WasQueued s

  abbrev AllWere : List Ended → Type 0
  AllWere = All Was

  was : (fate : Fate) (m : Message) (p : Pending) → Stands s.messages m → Contains m.pending p →
      Was (ended_as fate m p)
  was fate m p stands among = record {
    message = m;
    recipient = p;
    queued = stands;
    pending = among;
    sender = refl;
    address = refl;
  }

  -- all recipients of a message
  pub all_were : (fate : Fate) (m : Message) → Stands s.messages m → AllWere (all_ended fate m)
  all_were fate m stands = All-map Was (ended_as fate m) m.pending
      (All-weaker (Contains m.pending) (λ p. Was (ended_as fate m p))
      (λ p among. was fate m p stands among) m.pending (All-contains_itself m.pending))

  -- of several messages
  pub each_were : (fate : Fate) (ms : List Message) → All (Stands s.messages) ms →
      AllWere (flat_map (all_ended fate) ms)
  each_were fate [] h = All-nil Was
  each_were fate (m ∷ ms) h = All-append Was (all_ended fate m) (flat_map (all_ended fate) ms)
      (all_were fate m (All-head (Stands s.messages) m ms h))
      (each_were fate ms (All-tail (Stands s.messages) m ms h))

  -- those that a sweep gives up
  met_were : (m : Message) (x : Swept) → Stands s.messages m →
      AllWere (ended_in (after_sweep x m, x))
  met_were m Expired stands = all_were fate.Expired m stands
  met_were m Warned stands = All-nil Was
  met_were m Untouched stands = All-nil Was

  pub rows_were : (at delay : ℕ) (ms : List Message) → All (Stands s.messages) ms →
      AllWere (flat_map ended_in (map (message_met at delay) ms))
  rows_were at delay [] h = All-nil Was
  rows_were at delay (m ∷ ms) h = All-append Was (ended_in (message_met at delay m))
      (flat_map ended_in (map (message_met at delay) ms))
      (met_were m (swept at delay m) (All-head (Stands s.messages) m ms h))
      (rows_were at delay ms (All-tail (Stands s.messages) m ms h))

  -- those that an attempt ended for
  module _ (m : Message) (stands : Stands s.messages m) where
    by_delivery : (p : Pending) (d : Delivery) (es : List Ended) → Contains m.pending p →
        AllWere es → AllWere (cons_option (ended_by m p d) es)
    by_delivery p (delivery.Delivered status text) es among h = All-cons Was _ es (record {
      message = m;
      recipient = p;
      queued = stands;
      pending = among;
      sender = refl;
      address = refl;
    }) h
    by_delivery p (delivery.Deferred status text) es among h = h
    by_delivery p (delivery.Failed status text) es among h = All-cons Was _ es (record {
      message = m;
      recipient = p;
      queued = stands;
      pending = among;
      sender = refl;
      address = refl;
    }) h

    by_outcome : (p : Pending) (o : Option Outcome) (es : List Ended) → Contains m.pending p →
        AllWere es → AllWere (cons_option (ended_with m p o) es)
    by_outcome p None es among h = h
    by_outcome p (Some o) es among h = by_delivery p o.result es among h

    some_were : (os : List Outcome) (ps : List Pending) → All (Contains m.pending) ps →
        AllWere (ended m os ps)
    some_were os [] h = All-nil Was
    some_were os (p ∷ ps) h = by_outcome p (outcome_of os p) (ended m os ps)
        (All-head (Contains m.pending) p ps h)
        (some_were os ps (All-tail (Contains m.pending) p ps h))

    pub attempt_were : (os : List Outcome) → AllWere (ended m os m.pending)
    attempt_were os = some_were os m.pending (All-contains_itself m.pending)
