-- What happened in the slots of a server, and what happens next in one of them.
use Rattle.std.proofs.Common.{◌≡◌, ◌≢◌, ◌<◌, ◌⊎◌, ◌==◌, if◌then◌else◌, ℕ, zero, suc, Bool, true}
use Rattle.std.proofs.Common.{false, List, [], ◌∷◌, ◌++◌, Option, None, Some, inl, inr, arith}
use Rattle.std.proofs.Common.{refl, sym, ap, ◌∙◌, subst, append-nil, length}
use Rattle.std.proofs.lemmas.Bool.{eq-eqb}
use Rattle.std.proofs.lemmas.Bool.Decides.{eqb_tells}
use Rattle.std.proofs.lemmas.List.{get_or-set_other, get_or-set_same, length-set}
use Rattle.std.proofs.lemmas.List.Concat.{flat_map-append}
use Rattle.std.proofs.lemmas.Option.{none-some}
use Rattle.hq_serve.specs.Coming.{ClientEvent}
use Rattle.hq_sockets.specs.Held.{HasHappened, Holds, IsHistory, LeadsOn, Lacks, Swaps, client_at}
use Rattle.hq_sockets.specs.Held.{IsVacant, with_client}
use Rattle.hq_sockets.specs.Slots.{AllHappen, Happening, IsServedNow, ServesClients, Slot}
use Rattle.hq_sockets.specs.Slots.{SlotEvent, client_events, free, if_of, of_slot, socket_event}
use Rattle.hq_sockets.specs.Slots.{socket_events}
use Rattle.hq_sockets.specs.Talks.{Listening, SocketEvent, Talking}
use Rattle.hq_sockets.specs.declared.clients.Client.{Client}
use Rattle.hq_sockets.proofs.Turns.{served}

-- ---- the events of one slot

module _ {C : Type 0} where
  -- events in the slot of a number
  abbrev pub in_slot : ℕ → List (SlotEvent C) → List (Happening C)
  in_slot number [] = []
  in_slot number (event ∷ events) = (record { number = number; event = event })
      ∷ in_slot number events

  -- they are of that slot
  pub of_same : (number : ℕ) (events : List (SlotEvent C)) →
      of_slot number (in_slot number events) ≡ events
  of_same number [] = refl
  of_same number (event ∷ events) =
      ap (λ (b : Bool). (if b then event ∷ [] else []) ++ of_slot number (in_slot number events))
      (eq-eqb number number refl) ∙ ap (λ es. event ∷ es) (of_same number events)

  -- and of no other
  pub of_other : (number other : ℕ) (events : List (SlotEvent C)) → number ≢ other →
      of_slot other (in_slot number events) ≡ []
  of_other number other [] differs = refl
  of_other number other (event ∷ events) differs =
      ap (λ (b : Bool). (if b then event ∷ [] else []) ++ of_slot other (in_slot number events))
      (is_false (eqb_tells number other)) ∙ of_other number other events differs
    where
      is_false : (((number == other) ≡ true) × (number ≡ other))
          ⊎ (((number == other) ≡ false) × (number ≢ other)) → (number == other) ≡ false
      is_false (inl same) = absurd (differs same.1)
      is_false (inr unlike) = unlike.0

  -- ---- what is held

  -- who is there is there in a slot
  pub is_there : (held : List (Option (Client C))) (number : ℕ) (client : Client C) →
      client_at held number ≡ Some client → number < length held
  is_there [] number client is = absurd (none-some client is)
  is_there (slot ∷ held) zero client is = omega arith
  is_there (slot ∷ held) (suc number) client is =
      let less = is_there held number client is in omega (arith, less)

  -- a slot that is emptied is empty
  pub emptied : (held : List (Option (Client C))) (number : ℕ) →
      client_at (with_client held number None) number ≡ None
  emptied [] number = refl
  emptied (slot ∷ held) zero = refl
  emptied (slot ∷ held) (suc number) = emptied held number

  -- the others hold the same
  pub others : (held : List (Option (Client C))) (number other : ℕ) (slot : Option (Client C)) →
      other ≢ number → client_at (with_client held number slot) other ≡ client_at held other
  others held number other slot differs = get_or-set_other held number other slot None differs

  -- one that is put into a slot that is there is there
  pub there : (held : List (Option (Client C))) (number : ℕ) (client : Client C) →
      number < length held → client_at (with_client held number (Some client)) number ≡ Some client
  there held number client less = get_or-set_same held number (Some client) None less

module _ {L C : Type 0} (no_memory : Type 0) (talks : Talking C) (ends : C → Type 0) (does :
    Listening L C)
    (none : (state : L) → does state [] state)
    (on : (old mid new : L) (events more : List (SocketEvent C)) → does old events mid →
    does mid more new → does old (events ++ more) new) where
  -- ---- one after another

  -- more happens in a slot
  pub happened_on : (number : ℕ) (old mid new : Slot C) (events more : List (SlotEvent C)) →
      AllHappen no_memory talks ends number old events mid →
      AllHappen no_memory talks ends number mid more new →
      AllHappen no_memory talks ends number old (events ++ more) new
  happened_on number old mid new [] more p q =
      subst (λ s. AllHappen no_memory talks ends number s more new) p q
  happened_on number old mid new (event ∷ events) more p q =
      (p.0, p.1, happened_on number p.0 mid new events more p.2 q)

  -- of a socket of which nothing was accepted, with free slots alone
  pub begins : (start now : L) (held : List (Option (Client C))) → now ≡ start →
      ((number : ℕ) → client_at held number ≡ None) →
      IsHistory no_memory talks ends does start now [] held
  begins start now held same nobody = record {
    sockets = subst (does start []) (sym same) (none start);
    slots = λ number. (
      free,
      refl,
      subst (Holds no_memory talks ends free) (sym (nobody number)) refl,
    );
  }

  -- nothing happens but at the listening socket
  pub leads_still : (old new : L) (held : List (Option (Client C))) → does old [] new →
      LeadsOn no_memory talks ends does old held [] new held
  leads_still old new held q = λ start events h. (
    [],
    subst (λ es. IsHistory no_memory talks ends does start new es held) (sym (append-nil events))
        (record {
          sockets = subst (λ es. does start es new) (append-nil (socket_events events))
              (on start old new (socket_events events) [] h.sockets q);
          slots = h.slots;
        }),
    refl,
  )

  -- ---- something happens in one slot

  -- all other slots are as they were
  pub others_had : (number : ℕ) (steps : List (SlotEvent C)) (events : List (Happening C))
      (held held' : List (Option (Client C))) (other : ℕ) → other ≢ number →
      client_at held' other ≡ client_at held other →
      HasHappened no_memory talks ends events held other →
      HasHappened no_memory talks ends (events ++ in_slot number steps) held' other
  others_had number steps events held held' other differs same h = (
    h.0,
    subst (λ es. AllHappen no_memory talks ends other free es h.0)
        (sym (flat_map-append (if_of other) events (in_slot number steps)
        ∙ ap (λ es. of_slot other events ++ es)
        (of_other number other steps (λ e. differs (sym e))) ∙ append-nil (of_slot other events)))
        h.1,
    subst (Holds no_memory talks ends h.0) (sym same) h.2,
  )

  -- and this one goes on
  pub one_had : (number : ℕ) (steps : List (SlotEvent C)) (events : List (Happening C))
      (held held' : List (Option (Client C))) →
      ((slot : Slot C) → Holds no_memory talks ends slot (client_at held number) → (next : Slot C)
      × AllHappen no_memory talks ends number slot steps next
      × Holds no_memory talks ends next (client_at held' number)) →
      HasHappened no_memory talks ends events held number →
      HasHappened no_memory talks ends (events ++ in_slot number steps) held' number
  one_had number steps events held held' step h =
      let next = step h.0 h.2 in (
        next.0,
        subst (λ es. AllHappen no_memory talks ends number free es next.0)
            (sym (flat_map-append (if_of number) events (in_slot number steps)
            ∙ ap (λ es. of_slot number events ++ es) (of_same number steps)))
            (happened_on number free h.0 next.0 (of_slot number events) steps h.1 next.1),
        next.2,
      )

  -- These steps happen in the slot of a number.
  pub leads : (old new : L) (held held' : List (Option (Client C))) (number : ℕ)
      (steps : List (SlotEvent C)) → does old (socket_events (in_slot number steps)) new →
      ((other : ℕ) → other ≢ number → client_at held' other ≡ client_at held other) →
      ((slot : Slot C) → Holds no_memory talks ends slot (client_at held number) → (next : Slot C)
      × AllHappen no_memory talks ends number slot steps next
      × Holds no_memory talks ends next (client_at held' number)) →
      LeadsOn no_memory talks ends does old held (client_events (in_slot number steps)) new held'
  leads old new held held' number steps q same step = λ start events h. (
    in_slot number steps,
    record {
      sockets = subst (λ es. does start es new)
          (sym (flat_map-append (λ (it : Happening C). socket_event it.event) events
          (in_slot number steps)))
          (on start old new (socket_events events) (socket_events (in_slot number steps)) h.sockets
          q);
      slots = λ other. each events h other (eqb_tells other number);
    },
    refl,
  )
    where
      each : {start : L} (events : List (Happening C)) →
          IsHistory no_memory talks ends does start old events held → (other : ℕ) →
          (((other == number) ≡ true) × (other ≡ number))
          ⊎ (((other == number) ≡ false) × (other ≢ number)) →
          HasHappened no_memory talks ends (events ++ in_slot number steps) held' other
      each events h other (inl is) =
          subst (HasHappened no_memory talks ends (events ++ in_slot number steps) held') (sym is.1)
          (one_had number steps events held held' step (h.slots number))
      each events h other (inr unlike) =
          others_had number steps events held held' other unlike.1 (same other unlike.1)
          (h.slots other)

  -- ---- the client of one slot

  -- a slot in which nobody is stays so
  pub lacks_so : (old new : L) (held held' : List (Option (Client C))) (number : ℕ)
      (steps : List (SlotEvent C)) → does old (socket_events (in_slot number steps)) new →
      Lacks held held' number → AllHappen no_memory talks ends number free steps free →
      LeadsOn no_memory talks ends does old held (client_events (in_slot number steps)) new held'
  lacks_so old new held held' number steps q lacks void =
      leads old new held held' number steps q
      (λ other differs. ap (λ h. client_at h other) lacks.1 ∙ others held number other None differs)
      (λ slot holds.
      let is_free : slot ≡ free = subst (Holds no_memory talks ends slot) lacks.0 holds in (
        free,
        subst (λ s. AllHappen no_memory talks ends number s steps free) (sym is_free) void,
        subst (Holds no_memory talks ends free)
            (sym (ap (λ h. client_at h number) lacks.1 ∙ emptied held number)) refl,
      ))

  -- the client of a slot goes on
  pub swaps_so : (old new : L) (held held' : List (Option (Client C))) (number : ℕ)
      (client other : Client C) (steps : List (SlotEvent C)) →
      does old (socket_events (in_slot number steps)) new → Swaps held held' number client other →
      ((slot : Slot C) → Holds no_memory talks ends slot (Some client) → (next : Slot C)
      × AllHappen no_memory talks ends number slot steps next
      × Holds no_memory talks ends next (Some other)) →
      LeadsOn no_memory talks ends does old held (client_events (in_slot number steps)) new held'
  swaps_so old new held held' number client other steps q swaps step =
      let less = is_there held number client swaps.0 in
      let here : client_at held' number ≡ Some other = ap (λ h. client_at h number) swaps.1
      ∙ there (with_client held number None) number other
      (subst (λ n. number < n) (sym (length-set held number None)) less) in
      leads old new held held' number steps q
      (λ n differs. ap (λ h. client_at h n) swaps.1
      ∙ others (with_client held number None) number n (Some other) differs
      ∙ others held number n None differs)
      (λ slot holds.
      let next = step slot (subst (Holds no_memory talks ends slot) swaps.0 holds) in
      (next.0, next.1, subst (Holds no_memory talks ends next.0) (sym here) next.2))

  -- the client of a slot is taken out
  pub leaves_so : (old new : L) (held held' : List (Option (Client C))) (number : ℕ)
      (client : Client C) (steps : List (SlotEvent C)) →
      does old (socket_events (in_slot number steps)) new → client_at held number ≡ Some client →
      held' ≡ with_client held number None →
      ((slot : Slot C) → Holds no_memory talks ends slot (Some client) →
      AllHappen no_memory talks ends number slot steps free) →
      LeadsOn no_memory talks ends does old held (client_events (in_slot number steps)) new held'
  leaves_so old new held held' number client steps q is left step =
      leads old new held held' number steps q
      (λ n differs. ap (λ h. client_at h n) left ∙ others held number n None differs)
      (λ slot holds. (
        free,
        step slot (subst (Holds no_memory talks ends slot) is holds),
        subst (Holds no_memory talks ends free)
            (sym (ap (λ h. client_at h number) left ∙ emptied held number)) refl,
      ))

  -- a client comes into a slot that was free
  pub fills_so : (old new : L) (held held' : List (Option (Client C))) (number : ℕ)
      (client : Client C) (steps : List (SlotEvent C)) (next : Slot C) →
      does old (socket_events (in_slot number steps)) new → IsVacant held number →
      held' ≡ with_client held number (Some client) →
      AllHappen no_memory talks ends number free steps next → Holds no_memory talks ends next (Some
      client) →
      LeadsOn no_memory talks ends does old held (client_events (in_slot number steps)) new held'
  fills_so old new held held' number client steps next q vacant put happened holds =
      leads old new held held' number steps q
      (λ n differs. ap (λ h. client_at h n) put ∙ others held number n (Some client) differs)
      (λ slot nobody.
      let is_free : slot ≡ free = subst (Holds no_memory talks ends slot) vacant.1 nobody in (
        next,
        subst (λ s. AllHappen no_memory talks ends number s steps next) (sym is_free) happened,
        subst (Holds no_memory talks ends next)
            (sym (ap (λ h. client_at h number) put ∙ there held number client vacant.0)) holds,
      ))

  -- a client comes into a slot, and leaves it at once
  pub passes_so : (old new : L) (held : List (Option (Client C))) (number : ℕ)
      (steps : List (SlotEvent C)) → does old (socket_events (in_slot number steps)) new →
      IsVacant held number → AllHappen no_memory talks ends number free steps free →
      LeadsOn no_memory talks ends does old held (client_events (in_slot number steps)) new held
  passes_so old new held number steps q vacant happened =
      leads old new held held number steps q (λ n differs. refl)
      (λ slot nobody.
      let is_free : slot ≡ free = subst (Holds no_memory talks ends slot) vacant.1 nobody in (
        free,
        subst (λ s. AllHappen no_memory talks ends number s steps free) (sym is_free) happened,
        subst (Holds no_memory talks ends free) (sym vacant.1) refl,
      ))

  -- ---- all of it

  -- who is there is served so far
  pub served_now : (slot : Slot C) (it : Option (Client C)) → Holds no_memory talks ends slot it →
      IsServedNow no_memory talks ends slot
  served_now slot None is = inl is
  served_now slot (Some client) h =
      inr (client.stream, served no_memory talks ends slot client.stream client.phase h)

  pub are_served : (start old new : L) (held held' : List (Option (Client C)))
      (events : List ClientEvent) → IsHistory no_memory talks ends does start old [] held →
      LeadsOn no_memory talks ends does old held events new held' →
      ServesClients no_memory talks ends does start new events
  are_served start old new held held' events h leads_so =
      let led = leads_so start [] h in
      record {
        happened = led.0;
        clients = led.2;
        sockets = led.1.sockets;
        slots = λ number.
            let had = led.1.slots number in
            (had.0, had.1, served_now had.0 (client_at held' number) had.2);
      }
