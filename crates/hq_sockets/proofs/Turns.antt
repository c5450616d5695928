-- A client that stays in its slot, or is to leave it.
use Rattle.std.proofs.Common.{◌≡◌, ◌≤◌, ◌⊎◌, ℕ, List, [], ◌++◌, inl, inr, subst, sym, ap, ◌∙◌}
use Rattle.std.proofs.Common.{append-nil, append_assoc, drop, length, refl, take}
use Rattle.std.proofs.lemmas.List.{take-append-drop}
use Rattle.std.specs.Bool.{⊤}
use Rattle.hq_http.specs.Gathered.{Gathers}
use Rattle.hq_http.specs.Stages.{EndIs}
use Rattle.hq_http.specs.declared.gathering.Gathered.TheVariants.{Done}
use Rattle.hq_http.specs.declared.reading.Input.{Input}
use Rattle.hq_http.specs.declared.reading.Input.TheVariants as input
use Rattle.hq_serve.specs.declared.coming.Asked.{Asked}
use Rattle.hq_serve.specs.declared.coming.Came.{Came}
use Rattle.hq_sockets.specs.Clients.{AskedInput, IsAt, IsIn, TurnsTo}
use Rattle.hq_sockets.specs.Slots.{Slot, AskedFirst, HasConversed, MayClose, asking, free}
use Rattle.hq_sockets.specs.Slots.{taken, told}
use Rattle.hq_sockets.specs.Talks.{Talking}
use Rattle.hq_sockets.specs.Tries.{HasRead, HasWritten}
use Rattle.hq_sockets.specs.declared.clients.Client.{Client}
use Rattle.hq_sockets.specs.declared.clients.Phase.{Phase}
use Rattle.hq_sockets.specs.declared.clients.Phase.TheVariants as phase
use Rattle.hq_sockets.specs.declared.clients.Turned.{Turned}
use Rattle.hq_sockets.specs.declared.tries.Tried.{Tried}
use Rattle.hq_sockets.specs.declared.tries.Tried.TheVariants as tried

-- it is in no round
abbrev pub IsInNoRound : Phase → Type 0
IsInNoRound phase.InRound = ⊥
IsInNoRound _ = ⊤

-- so many bytes of a response went out
abbrev pub IsSentUpTo : List ℕ → ℕ → Phase → Type 0
IsSentUpTo bytes count (phase.Answered xs n) = (xs.items ≡ bytes) × (n ≡ count)
IsSentUpTo bytes count _ = ⊥

module _ {C : Type 0} (no_memory : Type 0) (talks : Talking C) (ends : C → Type 0) where
  -- what is settled asks something
  pub asks_done : (first : C) (bytes : List ℕ) (it : Input) → Gathers no_memory bytes (Done it) →
      AskedInput no_memory talks ends first bytes it
  asks_done first bytes input.Nothing h = absurd h
  asks_done first bytes (input.Refused why) h = (bytes, [], sym (append-nil bytes), inl h)
  asks_done first bytes (input.Request q) h = (bytes, [], sym (append-nil bytes), h)
  asks_done first bytes input.NoRoom h = (bytes, [], sym (append-nil bytes), h)

  -- and so does what has no more
  pub asks_end : (first now : C) (bytes : List ℕ) (it : Input) → EndIs bytes it →
      talks first bytes [] now → ends now → AskedInput no_memory talks ends first bytes it
  asks_end first now bytes input.Nothing h talked ended = tt
  asks_end first now bytes (input.Refused why) h talked ended =
      (bytes, [], sym (append-nil bytes), inr (h, (now, talked, ended)))
  asks_end first now bytes (input.Request q) h talked ended = absurd h
  asks_end first now bytes input.NoRoom h talked ended = absurd h

  -- what the first bytes ask is asked with more of them
  pub asks_on : (first : C) (bytes more : List ℕ) (it : Asked) →
      AskedFirst no_memory talks ends first bytes it →
      AskedFirst no_memory talks ends first (bytes ++ more) it
  asks_on first bytes more it h = (
    h.0,
    h.1 ++ more,
    ap (λ l. l ++ more) h.2 ∙ append_assoc h.0 h.1 more,
    h.3,
  )

  -- a client with this connection, as far as this
  pub stays : (slot : Slot C) (client : Client C) (stream : C) (phase : Phase) →
      client.stream ≡ stream → client.phase ≡ phase → IsAt no_memory talks ends slot stream phase →
      IsIn no_memory talks ends slot client
  stays slot client stream phase same_stream same_phase h =
      subst (λ s. IsAt no_memory talks ends slot s client.phase) (sym same_stream)
      (subst (λ p. IsAt no_memory talks ends slot stream p) (sym same_phase) h)

  -- and its connection is as its slot has it
  pub served : (slot : Slot C) (stream : C) (p : Phase) → IsAt no_memory talks ends slot stream p →
      HasConversed no_memory talks ends slot stream
  served free stream p h = absurd h
  served (asking first) stream (phase.Asking gathering) h = (h.0, h.1)
  served (asking first) stream (phase.Asked it) h = (h.0, h.1)
  served (asking first) stream phase.InRound h = absurd h
  served (asking first) stream (phase.Answered bytes count) h = absurd h
  served (asking first) stream phase.Unsent h = absurd h
  served (asking first) stream (phase.Leaving left) h = absurd h
  served (taken first one) stream (phase.Asking gathering) h = absurd h
  served (taken first one) stream (phase.Asked it) h = absurd h
  served (taken first one) stream phase.InRound h = h
  served (taken first one) stream (phase.Answered bytes count) h = absurd h
  served (taken first one) stream phase.Unsent h = absurd h
  served (taken first one) stream (phase.Leaving left) h = absurd h
  served (told first one response) stream (phase.Asking gathering) h = absurd h
  served (told first one response) stream (phase.Asked it) h = absurd h
  served (told first one response) stream phase.InRound h = absurd h
  served (told first one response) stream (phase.Answered bytes count) h = (
    h.0,
    take count response,
    drop count response,
    h.1,
    h.2,
    sym (take-append-drop count response),
  )
  served (told first one response) stream phase.Unsent h = (h.0, [], response, h.1, h.2, refl)
  served (told first one response) stream (phase.Leaving left) h = (
    h.0,
    response,
    [],
    h.1,
    h.2,
    sym (append-nil response),
  )

  -- some bytes were read, or none
  pub some_read : (old new : C) (chunk : List ℕ) (t : Tried) → HasRead talks ends old new chunk t →
      (more : List ℕ) × talks old more [] new
  some_read old new chunk (tried.Bytes count) h = (take count chunk, h.2)
  some_read old new chunk tried.Again h = ([], h)
  some_read old new chunk tried.Waits h = ([], h)
  some_read old new chunk tried.Closed h = ([], h.0)
  some_read old new chunk tried.Failed h = ([], h)

  -- none was written
  pub none_written : (old new : C) (bytes : List ℕ) (t : Tried) →
      HasWritten talks old new bytes t → (t ≡ tried.Closed) ⊎ (t ≡ tried.Failed) →
      talks old [] [] new
  none_written old new bytes t h (inl is) = subst (HasWritten talks old new bytes) is h
  none_written old new bytes t h (inr is) = subst (HasWritten talks old new bytes) is h

  -- one that left its round, or was in none, may be closed
  pub may_close : (slot : Slot C) (stream : C) (p : Phase) → IsAt no_memory talks ends slot stream
      p →
      IsInNoRound p → MayClose no_memory talks ends slot stream
  may_close free stream p h other = absurd h
  may_close (asking first) stream p h other = served (asking first) stream p h
  may_close (taken first one) stream phase.InRound h other = absurd other
  may_close (taken first one) stream (phase.Asking gathering) h other = absurd h
  may_close (taken first one) stream (phase.Asked it) h other = absurd h
  may_close (taken first one) stream (phase.Answered bytes count) h other = absurd h
  may_close (taken first one) stream phase.Unsent h other = absurd h
  may_close (taken first one) stream (phase.Leaving left) h other = absurd h
  may_close (told first one response) stream p h other =
      served (told first one response) stream p h

  -- one whose response is sent on
  pub sends_on : (slot : Slot C) (stream : C) (p : Phase) (bytes : List ℕ) (count : ℕ)
      (turned : Turned C) → IsAt no_memory talks ends slot stream p → IsSentUpTo bytes count p →
      ((first : C) (one : Came) (got : List ℕ) → talks first got (take count bytes) stream →
      AskedFirst no_memory talks ends first got one.asked → count ≤ length bytes →
      TurnsTo no_memory talks ends (told first one bytes) turned) → TurnsTo no_memory talks ends
      slot turned
  sends_on free stream p bytes count turned h is k = absurd h
  sends_on (asking first) stream (phase.Answered xs n) bytes count turned h is k = absurd h
  sends_on (taken first one) stream (phase.Answered xs n) bytes count turned h is k = absurd h
  sends_on (told first one response) stream (phase.Answered xs n) bytes count turned h is k =
      let same = sym is.0 ∙ h.3 in
      subst (λ r. TurnsTo no_memory talks ends (told first one r) turned) same
      (k first one h.0
      (subst (λ n. talks first h.0 (take n bytes) stream) is.1
      (subst (λ r. talks first h.0 (take n r) stream) (sym same) h.1)) h.2
      (subst (λ n. n ≤ length bytes) is.1 (subst (λ r. n ≤ length r) (sym same) h.4)))
  sends_on slot stream (phase.Asking gathering) bytes count turned h is k = absurd is
  sends_on slot stream (phase.Asked it) bytes count turned h is k = absurd is
  sends_on slot stream phase.InRound bytes count turned h is k = absurd is
  sends_on slot stream phase.Unsent bytes count turned h is k = absurd is
  sends_on slot stream (phase.Leaving left) bytes count turned h is k = absurd is

  -- one whose response went out
  pub leaves_on : (slot : Slot C) (stream : C) (left : ℕ) (turned : Turned C) →
      IsAt no_memory talks ends slot stream (phase.Leaving left) →
      ((first : C) (one : Came) (got response : List ℕ) → talks first got response stream →
      AskedFirst no_memory talks ends first got one.asked →
      TurnsTo no_memory talks ends (told first one response) turned) →
      TurnsTo no_memory talks ends slot turned
  leaves_on free stream left turned h k = absurd h
  leaves_on (asking first) stream left turned h k = absurd h
  leaves_on (taken first one) stream left turned h k = absurd h
  leaves_on (told first one response) stream left turned h k = k first one h.0 response h.1 h.2
