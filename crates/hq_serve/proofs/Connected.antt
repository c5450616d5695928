-- What was read of a connection, and what the desk made of it.
use Rattle.std.specs.Io.KnownBytes.{Appends, Keeps}
use Rattle.std.proofs.Common.{◌≡◌, ℕ, List, [], Option, None, Some, Result, inl, refl, sym, false}
use Rattle.std.proofs.Common.{subst}
use Rattle.hq_values.specs.declared.failure.Refusal.{Refusal}
use Rattle.hq_rules.specs.Desks.{DeskSight}
use Rattle.hq_requests.specs.Calls.{Asked, call_from}
use Rattle.hq_wire.specs.Exchanges.{Exchanged, IsRefused, ask_of}
use Rattle.hq_wire.specs.Replies.{IsSent, SeenReply, seen, tells_store}
use Rattle.hq_requests.specs.declared.exchanges.Exchange.{Exchange}
use Rattle.hq_requests.specs.declared.directory.Directory.{Directory}
use Rattle.hq_wire.proofs.Exchanging as exchanging
use Rattle.hq_wire.proofs.Serving.{served, served_once}
use Rattle.hq_http.specs.Requests as requests
use Rattle.hq_http.specs.Requests.{nothing, refused, request, Received}
use Rattle.hq_http.specs.Responses.{response_text}
use Rattle.hq_requests.specs.declared.reply.Reply.{Reply}
use Rattle.hq_lines.specs.Written.{AppendsPart}
use Rattle.hq_serve.specs.Connections.{Answered, AnsweredAs, IsWritten, response_of}
use Rattle.hq_serve.specs.Steps.{AreSent, IsOfRequest}

module _ {D : Type 0} (sight : DeskSight D) (d : Directory) (at : ℕ) (a b : Option (List ℕ))
    (old : D) where
  -- no byte came, and nothing was done
  pub of_nothing : Received a b nothing → AnsweredAs sight d at a b old nothing None old
  of_nothing h = inl (h, served sight d old old [] [] refl)

  -- it was refused
  pub of_refusal : (why : Refusal) (r : SeenReply) → Received a b (refused why) →
      IsRefused sight.store.may_answer why r →
      tells_store r ≡ false → AnsweredAs sight d at a b old (refused why) (Some r) old
  of_refusal why r h told store = inl (
    h,
    served_once sight d old old _ r (exchanging.refused sight d old at why r told store),
  )

  -- it was replied to as its exchange
  pub of_request : (q : requests.Request) (x : Exchange) (r : SeenReply) (new : D) →
      Received a b (request q) → IsOfRequest x at q → Exchanged sight d old (ask_of d x) r new →
      AnsweredAs sight d at a b old (request q) (Some r) new
  of_request q x r new h is done = inl (
    h,
    served_once sight d old new _ r (
        subst (λ (a : ℕ × Result Asked Refusal). Exchanged sight d old
        (record { at = a.0; called = a.1 }) r new)
        (λ i. (is.0 i, call_from d (is.1 i) (is.2 i) (is.3 i) (is.4 i)))
        done
        ),
  )

-- what is written of a reply is written of the same, as it is seen
pub written_none : (old new : Option (List ℕ)) (r : Option SeenReply) → AreSent None r →
    Keeps old new → IsWritten old new r
written_none old new None sent h = h
written_none old new (Some r) sent h = absurd sent

pub written_as : (old new : Option (List ℕ)) (reply : Reply) (r : SeenReply) → IsSent reply r →
    Appends old new (response_of (seen reply)) → Appends old new (response_of r)
written_as old new reply r sent h =
    subst (Appends old new) (sym (λ i. response_text (sent.0 i) (sent.1 i))) h

pub written : (old new : Option (List ℕ)) (reply : Reply) (r : Option SeenReply) →
    AreSent (Some reply) r → Appends old new (response_of (seen reply)) → IsWritten old new r
written old new reply None sent h = absurd sent
written old new reply (Some r) sent h = written_as old new reply r sent h

pub part_as : (old new : Option (List ℕ)) (reply : Reply) (r : SeenReply) → IsSent reply r →
    AppendsPart old new (response_of (seen reply)) → AppendsPart old new (response_of r)
part_as old new reply r sent h =
    subst (AppendsPart old new) (sym (λ i. response_text (sent.0 i) (sent.1 i))) h

-- where there is a reply, one was seen, and a beginning of that went out
pub broken_off : {D : Type 0} (sight : DeskSight D) (d : Directory) (at : ℕ) (a b : Option (List ℕ))
    (old new : D) (w v : Option (List ℕ)) (reply : Reply) (r : Option SeenReply) →
    AreSent (Some reply) r → Answered sight d at a b old r new →
    AppendsPart w v (response_of (seen reply)) → (q : SeenReply)
    × Answered sight d at a b old (Some q) new × AppendsPart w v (response_of q)
broken_off sight d at a b old new w v reply None sent h part = absurd sent
broken_off sight d at a b old new w v reply (Some r) sent h part = (
  r,
  h,
  part_as w v reply r sent part,
)
