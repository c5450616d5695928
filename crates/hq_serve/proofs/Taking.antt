-- Clients that are taken and replied to, one more at a time.
use Rattle.std.proofs.Common.{◌≡◌, ◌⊎◌, inl, inr, ◌≤◌, ◌+◌, ℕ, zero, suc, List, [], ◌∷◌, ◌++◌}
use Rattle.std.proofs.Common.{length, map, refl, sym, ap, ◌∙◌, arith}
use Rattle.std.proofs.Common.{subst, append-nil, length-append, take, drop, slice_index_or}
use Rattle.std.proofs.Common.{Option, None, Some}
use Rattle.std.specs.Prelude.{string_bytes}
use Rattle.std.proofs.lemmas.List.Concat.{flat_map-append}
use Rattle.std.specs.List.{AllZip, flat_map}
use Rattle.hq_values.specs.Refusals.{no_memory}
use Rattle.hq_log.specs.Entries.{Telling}
use Rattle.hq_log.specs.Lines.{LogEntry}
use Rattle.hq_requests.specs.Calls.{call_from}
use Rattle.hq_requests.specs.Directories.{Whose}
use Rattle.hq_requests.specs.Named.{whose_exchange, whose_told}
use Rattle.hq_requests.specs.declared.directory.Directory.{Directory}
use Rattle.hq_requests.specs.declared.exchanges.Exchange.{Exchange}
use Rattle.hq_requests.specs.declared.reply.Reply.{Reply}
use Rattle.hq_wire.specs.Exchanges.{ask_of}
use Rattle.hq_wire.specs.Replies.{IsSent, SeenReply, reply_of_fault, seen}
use Rattle.hq_together.proofs.Wanted.{wants}
use Rattle.hq_http.specs.Requests.{Request}
use Rattle.hq_http.specs.Responses.{response_text}
use Rattle.hq_serve.specs.Coming.{ClientEvent, Serving, Taken, HaveOutcomes, came, came_of, sent}
use Rattle.hq_serve.specs.Coming.{asks_of, at_once, client_of, each_with, events_of, in_round}
use Rattle.hq_serve.specs.Coming.{sent_each, sent_of}
use Rattle.hq_serve.specs.Logged.{request_entry, timed_of, told_each, told_at_once}
use Rattle.hq_serve.specs.Steps.{IsOfRequest}
use Rattle.hq_serve.specs.Taking.{IsTakenInto, Takes, reply_entry, timed, wants_of}
use Rattle.hq_serve.specs.declared.coming.Came.{Came}
use Rattle.hq_serve.specs.declared.rounds.Round.{Round}

-- all that comes of several, and of one after them
pub flat_one : {X A : Type 0} (f : X → List A) (xs : List X) (x : X) →
    flat_map f (xs ++ x ∷ []) ≡ flat_map f xs ++ f x
flat_one f xs x = flat_map-append f xs (x ∷ []) ∙ ap (λ l. flat_map f xs ++ l) (append-nil (f x))

-- those that were taken, and more
pub taken_on : (refused : Type 0) (first more : List Taken) → HaveOutcomes refused first →
    HaveOutcomes refused more → HaveOutcomes refused (first ++ more)
taken_on refused [] more h k = k
taken_on refused (one ∷ first) more h k = (h.0, taken_on refused first more h.1 k)

-- what is sent of replies is sent of the same, as they are seen
pub sent_as : (clients : List ℕ) (replies : List Reply) (told : List SeenReply) →
    AllZip IsSent replies told → sent_each clients (map seen replies) ≡ sent_each clients told
sent_as [] replies told h = refl
sent_as (client ∷ clients) [] [] h = refl
sent_as (client ∷ clients) [] (r ∷ told) h = absurd h
sent_as (client ∷ clients) (reply ∷ replies) [] h = absurd h
sent_as (client ∷ clients) (reply ∷ replies) (r ∷ told) h = λ i.
    sent (record { client = client; response = response_text (sym h.0.0 i) (sym h.0.1 i) })
    ∷ sent_as clients replies told h.1 i

-- the exchange of a request asks what the request asks
pub ask_is : (d : Directory) (x : Exchange) (at : ℕ) (q : Request) → IsOfRequest x at q →
    ask_of d x ≡ record { at = at; called = call_from d q.method q.path q.key q.body }
ask_is d x at q is = λ i. record {
  at = is.0 i;
  called = call_from d (is.1 i) (is.2 i) (is.3 i) (is.4 i);
}

pub timed_is : (x : Exchange) (at : ℕ) (q : Request) → IsOfRequest x at q →
    timed x ≡ record { at = at; request = q }
timed_is x at q is = λ i. record {
  at = is.0 i;
  request = record { method = is.1 i; path = is.2 i; key = is.3 i; body = is.4 i };
}

-- what is told of what is no request, of this customer
abbrev pub at_once_entry : ℕ → Option Whose → SeenReply → LogEntry
at_once_entry at whose r = record {
  at = Some at;
  whose = whose;
  method = None;
  path = None;
  status = r.status;
  body = r.body;
}

module _ {A B C : Type 0} (f : A → B → C) where
  -- of one more, if there are as many of both
  pub each_one : (xs : List A) (ys : List B) (x : A) (y : B) → length xs ≡ length ys →
      each_with f (xs ++ x ∷ []) (ys ++ y ∷ []) ≡ each_with f xs ys ++ f x y ∷ []
  each_one [] [] x y e = refl
  each_one [] (q ∷ ys) x y e = absurd (omega (arith, e))
  each_one (p ∷ xs) [] x y e = absurd (omega (arith, e))
  each_one (p ∷ xs) (q ∷ ys) x y e =
      ap (λ l. f p q ∷ l) (each_one xs ys x y (omega (arith, e)))

  -- of all, once either of them has no more
  pub each_short : (k : ℕ) (xs : List A) (ys : List B) → (length xs ≤ k) ⊎ (length ys ≤ k) →
      each_with f (take k xs) (take k ys) ≡ each_with f xs ys
  each_short zero [] ys h = refl
  each_short zero (p ∷ xs) [] h = refl
  each_short zero (p ∷ xs) (q ∷ ys) (inl h) = absurd (omega (arith, h))
  each_short zero (p ∷ xs) (q ∷ ys) (inr h) = absurd (omega (arith, h))
  each_short (suc k) [] ys h = refl
  each_short (suc k) (p ∷ xs) [] h = refl
  each_short (suc k) (p ∷ xs) (q ∷ ys) (inl h) =
      ap (λ l. f p q ∷ l) (each_short k xs ys (inl (omega (arith, h))))
  each_short (suc k) (p ∷ xs) (q ∷ ys) (inr h) =
      ap (λ l. f p q ∷ l) (each_short k xs ys (inr (omega (arith, h))))

-- the same want of memory for each exchange
pub wants_so : (d : Directory) (exchanges : List Exchange) →
    wants (map (ask_of d) exchanges) ≡ wants_of exchanges
wants_so d [] = refl
wants_so d (x ∷ exchanges) = ap (λ l. reply_of_fault no_memory ∷ l) (wants_so d exchanges)

-- what is told of replies, by what is known of them
pub told_so : (d : Directory) (xs : List Exchange) (replies : List Reply) (told : List SeenReply) →
    AllZip IsSent replies told → map whose_told replies ≡ map (whose_exchange d) xs →
    each_with reply_entry xs replies ≡ told_each d (map timed xs) told
told_so d [] replies told are whose = refl
told_so d (x ∷ xs) [] [] are whose = refl
told_so d (x ∷ xs) [] (r ∷ told) are whose = absurd are
told_so d (x ∷ xs) (reply ∷ replies) [] are whose = absurd are
told_so d (x ∷ xs) (reply ∷ replies) (r ∷ told) are whose = λ i. record {
  at = Some x.at;
  whose = ap (λ ws. slice_index_or ws 0 (whose_exchange d x)) whose i;
  method = Some (string_bytes x.method);
  path = Some (string_bytes x.path);
  status = sym are.0.0 i;
  body = sym are.0.1 i;
} ∷ told_so d xs replies told are.1 (ap (drop 1) whose) i

pub entry_is : (d : Directory) (x : Exchange) (reply : Reply) (r : SeenReply) → seen reply ≡ r →
    whose_told reply ≡ whose_exchange d x →
    reply_entry x reply ≡ request_entry d x.at (timed x).request r
entry_is d x reply r is whose = λ i. record {
  at = Some x.at;
  whose = whose i;
  method = Some (string_bytes x.method);
  path = Some (string_bytes x.path);
  status = (is i).status;
  body = (is i).body;
}

-- there are as many clients in a round as requests
pub are_even : (taken : List Taken) →
    length (flat_map client_of taken) ≡ length (flat_map timed_of taken)
are_even [] = refl
are_even (at_once one r ∷ taken) = are_even taken
are_even (in_round one q ∷ taken) = ap suc (are_even taken)

-- this is done one after another, and nothing is done by none
module _ {S E : Type 0} (does : S → List E → S → Type 0)
    (on : (old mid new : S) (events more : List E) → does old events mid →
    does mid more new → does old (events ++ more) new) where
  -- more was done
  pub did_more : (old mid new : S) (events more all : List E) → all ≡ events ++ more →
      does old events mid → does mid more new → does old all new
  did_more old mid new events more all is p q =
      subst (λ es. does old es new) (sym is) (on old mid new events more p q)

  -- and then nothing
  pub idle : (old mid new : S) (events : List E) → does old events mid →
      does mid [] new → does old events new
  idle old mid new events p q = did_more old mid new events [] events (sym (append-nil events)) p q

module _ {K L : Type 0} (does : Serving K)
    (on : (old mid new : K) (events more : List ClientEvent) → does old events mid →
    does mid more new → does old (events ++ more) new) (tells : Telling L)
    (told_on : (old mid new : L) (told more : List LogEntry) → tells old told mid →
    tells mid more new → tells old (told ++ more) new) (refused : Type 0) where
  -- nobody was taken meanwhile
  pub none_taken : (start mid end : K) (log_old log_new : L) (round : Round) →
      Takes refused does tells start mid log_old log_new round → does mid [] end →
      Takes refused does tells start end log_old log_new round
  none_taken start mid end log_old log_new round t none = record {
    taken = t.taken;
    are_taken = t.are_taken;
    did = idle does on start mid end (flat_map events_of t.taken) t.did none;
    told = t.told;
    counted = t.counted;
    clients = t.clients;
    exchanges = t.exchanges;
    requests = t.requests;
  }

  -- one more was taken into a round
  pub one_taken : (start before after end : K) (log_old log_mid log_new : L)
      (old mid new : Round) (one : Came) → new.taken ≡ old.taken + 1 →
      new.clients.items ≡ mid.clients.items → new.exchanges.items ≡ mid.exchanges.items →
      Takes refused does tells start before log_old log_mid old →
      does before (came one ∷ []) after →
      IsTakenInto refused does tells one after end log_mid log_new old mid →
      Takes refused does tells start end log_old log_new new
  one_taken start before after end log_old log_mid log_new old mid new one counted clients
      exchanges t next it =
      let comes = subst (λ c. does before (came c ∷ []) after) (sym it.is_of) next in
      record {
        taken = t.taken ++ it.taken ∷ [];
        are_taken = taken_on refused t.taken (it.taken ∷ []) t.are_taken (it.is_taken, tt);
        did = did_more does on start before end (flat_map events_of t.taken) (events_of it.taken)
            (flat_map events_of (t.taken ++ it.taken ∷ [])) (flat_one events_of t.taken it.taken)
            t.did
            (on before after end (came (came_of it.taken) ∷ []) (sent_of it.taken) comes it.sent);
        told = did_more tells told_on log_old log_mid log_new (flat_map told_at_once t.taken)
            (told_at_once it.taken) (flat_map told_at_once (t.taken ++ it.taken ∷ []))
            (flat_one told_at_once t.taken it.taken) t.told it.told;
        counted = counted ∙ ap (λ n. n + 1) t.counted
            ∙ sym (length-append t.taken (it.taken ∷ []));
        clients = clients ∙ it.clients ∙ ap (λ l. l ++ client_of it.taken) t.clients
            ∙ sym (flat_one client_of t.taken it.taken);
        exchanges = λ d. ap (map (ask_of d)) exchanges ∙ it.exchanges d
            ∙ ap (λ l. l ++ asks_of d it.taken) (t.exchanges d)
            ∙ sym (flat_one (asks_of d) t.taken it.taken);
        requests = ap (map timed) exchanges ∙ it.requests
            ∙ ap (λ l. l ++ timed_of it.taken) t.requests
            ∙ sym (flat_one timed_of t.taken it.taken);
      }
