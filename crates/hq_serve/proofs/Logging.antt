-- What the log is told of what was read and replied.
use Rattle.std.proofs.Common.{◌≡◌, ◌∙◌, ℕ, List, [], ◌∷◌, ◌++◌, Option, None, Some, refl, sym}
use Rattle.std.proofs.Common.{subst}
use Rattle.hq_http.specs.Requests.{Wanted, nothing, refused, request}
use Rattle.hq_log.specs.Entries.{Telling, answered_entry}
use Rattle.hq_log.specs.Lines.{LogEntry}
use Rattle.hq_log.specs.declared.keeping.Answered.{Answered}
use Rattle.hq_log.proofs.Told.{asked_entry, told_as}
use Rattle.hq_requests.specs.Named.{whose_asked, whose_at, whose_told}
use Rattle.hq_requests.specs.declared.directory.Directory.{Directory}
use Rattle.hq_requests.specs.declared.exchanges.Exchange.{Exchange}
use Rattle.hq_rules.specs.Desks.{DeskSight}
use Rattle.hq_wire.specs.Replies.{IsSent, SeenReply}
use Rattle.hq_serve.specs.Connections.{AnsweredAs}
use Rattle.hq_serve.specs.Logged.{IsLogged, connection_entry}
use Rattle.hq_serve.specs.Steps.{AreSent, HoldsRequest, IsToLog}
use Rattle.hq_serve.specs.declared.serving.RequestReplied.{RequestReplied}

module _ (d : Directory) (at : ℕ) (r : SeenReply) where
  -- what is told of an exchange that was read, or of what could not be read as one
  entry_is : (asked : Wanted) (x : Option Exchange) → HoldsRequest at asked x →
      asked_entry d (Some at) x r.status r.body ≡ connection_entry d at asked r
  entry_is (request q) (Some x) is = λ i. record {
    at = Some at;
    whose = whose_at d (is.3 i) (is.2 i);
    method = Some (is.1 i);
    path = Some (is.2 i);
    status = r.status;
    body = r.body;
  }
  entry_is (request q) None none = absurd none
  entry_is nothing (Some x) none = absurd none
  entry_is (refused why) (Some x) none = absurd none
  entry_is nothing None _ = refl
  entry_is (refused why) None _ = refl

-- what the log was told, once it was begun, is what was read and what was replied
module _ {D L : Type 0} (sight : DeskSight D) (d : Directory) (at : ℕ) (a b : Option (List ℕ))
    (old new : D) (tells : Telling L) (on : (old mid new : L) (told more : List LogEntry) →
    tells old told mid → tells mid more new → tells old (told ++ more) new)
    (log_old begun log_new : L) where
  abbrev pub IsLoggedAs : RequestReplied → Type 0
  IsLoggedAs replied = (r : SeenReply) × IsSent replied.reply r
      × IsLogged sight d at a b old new tells log_old log_new r

  pub logged_as : (asked : Wanted) (replied : RequestReplied) (told : Answered)
      (r : Option SeenReply) → AreSent (Some replied.reply) r →
      AnsweredAs sight d at a b old asked r new → HoldsRequest at asked replied.asked →
      whose_told replied.reply ≡ whose_asked d replied.asked → IsToLog told at replied →
      tells log_old [] begun → tells begun (answered_entry told ∷ []) log_new →
      IsLoggedAs replied
  logged_as asked replied told None sent answered holds whose is none line = absurd sent
  logged_as asked replied told (Some r) sent answered holds whose is none line =
      let entry = told_as d told (Some at) replied.asked replied.reply r.status r.body
      is.0 is.1 is.2 whose (sym sent.0) (sym sent.1) in
      let all = on log_old begun log_new [] (answered_entry told ∷ []) none line in (
        r,
        sent,
        record {
          asked = asked;
          answered = answered;
          told = subst (λ (t : LogEntry). tells log_old (t ∷ []) log_new)
              (entry ∙ entry_is d at r asked replied.asked holds) all;
        },
      )
