-- Clients of a listening socket that go on, one after another.
-- Inner: it serves proofs alone, and no promise rests on it.
use Rattle.std.proofs.Common.{◌≡◌, List, [], ◌++◌, Option, append-nil, append_assoc, refl, subst}
use Rattle.std.proofs.Common.{sym, ◌∙◌}
use Rattle.std.proofs.lemmas.List.Concat.{flat_map-append}
use Rattle.hq_serve.specs.Coming.{ClientEvent}
use Rattle.hq_sockets.specs.Held.{IsHistory, LeadsOn}
use Rattle.hq_sockets.specs.Slots.{Happening, client_event}
use Rattle.hq_sockets.specs.Talks.{Listening, Talking}
use Rattle.hq_sockets.specs.declared.clients.Client.{Client}

module _ {L C : Type 0} (no_memory : Type 0) (talks : Talking C) (ends : C → Type 0) (does :
    Listening L C) where
  -- nothing happens
  pub leads_nowhere : (now : L) (held : List (Option (Client C))) →
      LeadsOn no_memory talks ends does now held [] now held
  leads_nowhere now held = λ start events h. (
    [],
    subst (λ es. IsHistory no_memory talks ends does start now es held) (sym (append-nil events)) h,
    refl,
  )

  -- one led on, and then another
  pub leads_on : (old mid new : L) (held held' held'' : List (Option (Client C)))
      (clients others all : List ClientEvent) → all ≡ clients ++ others →
      LeadsOn no_memory talks ends does old held clients mid held' →
      LeadsOn no_memory talks ends does mid held' others new held'' →
      LeadsOn no_memory talks ends does old held all new held''
  leads_on old mid new held held' held'' clients others all is p q = λ start events h.
      let first = p start events h in
      let second = q start (events ++ first.0) first.1 in (
        first.0 ++ second.0,
        subst (λ es. IsHistory no_memory talks ends does start new es held'')
            (append_assoc events first.0 second.0) second.1,
        flat_map-append (λ (it : Happening C). client_event it.event) first.0 second.0
            ∙ (λ i. first.2 i ++ second.2 i) ∙ sym is,
      )
