-- Words of the crate's own functions. No claim rests on them.
-- Inner: it serves proofs alone, and no promise rests on it.
use Rattle.std.specs.Prelude.{◌≡◌, ⊤, ℕ, List, Option, None, Some, string_bytes, option_map}
use Rattle.hq_http.specs.Requests as requests
use Rattle.hq_http.specs.Requests.{Wanted, request}
use Rattle.hq_log.specs.declared.keeping.Answered.{Answered as ToLog}
use Rattle.hq_rules.specs.Desks.{DeskSight}
use Rattle.hq_wire.specs.Replies.{IsSent, SeenReply}
use Rattle.hq_requests.specs.Named.{whose_asked, whose_told}
use Rattle.hq_requests.specs.declared.exchanges.Exchange.{Exchange}
use Rattle.hq_requests.specs.declared.directory.Directory.{Directory}
use Rattle.hq_requests.specs.declared.reply.Reply.{Reply}
use Rattle.hq_serve.specs.Connections.{AnsweredAs}
use Rattle.hq_serve.specs.declared.serving.RequestReplied.{RequestReplied}

-- the exchange that a request asks for at a moment
abbrev pub IsOfRequest : Exchange → ℕ → requests.Request → Type 0
IsOfRequest x at q = (x.at ≡ at) × (string_bytes x.method ≡ q.method)
    × (string_bytes x.path ≡ q.path)
    × (option_map string_bytes x.key ≡ q.key) × (x.body.items ≡ q.body)

-- byte for byte it is this reply, or there is none
abbrev pub AreSent : Option Reply → Option SeenReply → Type 0
AreSent None None = ⊤
AreSent (Some reply) (Some r) = IsSent reply r
AreSent _ _ = ⊥

-- the exchange that is there is the request that is asked for, and there is none where none is
abbrev pub HoldsRequest : ℕ → Wanted → Option Exchange → Type 0
HoldsRequest at (request q) (Some x) = IsOfRequest x at q
HoldsRequest at (request q) None = ⊥
HoldsRequest at _ (Some x) = ⊥
HoldsRequest at _ None = ⊤

-- where there is a reply, its exchange is the one that is asked for
abbrev pub HoldsAsked : ℕ → Wanted → Option RequestReplied → Type 0
HoldsAsked at asked None = ⊤
HoldsAsked at asked (Some replied) = HoldsRequest at asked replied.asked

-- a reply that is there is of whom its exchange is of
abbrev pub IsOfCaller : Directory → Option RequestReplied → Type 0
IsOfCaller d None = ⊤
IsOfCaller d (Some replied) = whose_told replied.reply ≡ whose_asked d replied.asked

-- what was read is answered, as it is sent, and its exchange is at hand
pub record Sends {D : Type 0} (sight : DeskSight D) (d : Directory) (at : ℕ)
    (read_old read_new : Option (List ℕ)) (old : D) (replied : Option RequestReplied) (new : D)
    : Type 0 where
  pub asked : Wanted
  pub reply : Option SeenReply
  pub sent : AreSent (option_map (λ r. r.reply) replied) reply
  pub answered : AnsweredAs sight d at read_old read_new old asked reply new
  pub holds : HoldsAsked at asked replied
  pub whose : IsOfCaller d replied

abbrev pub IsToLog : ToLog → ℕ → RequestReplied → Type 0
IsToLog told at replied = (told.at ≡ Some at) × (option_map (λ x. x.now) told.asked ≡ replied.asked)
    × (told.reply.now ≡ replied.reply)
