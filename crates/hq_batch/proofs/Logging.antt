-- What the log is told of a line of a batch.
use Rattle.std.proofs.Common.{◌∙◌, List, [], ◌∷◌, ◌++◌, Option, None, Some, refl, sym, ap}
use Rattle.std.proofs.Common.{inl, inr, subst}
use Rattle.hq_rules.specs.Desks.{DeskSight}
use Rattle.hq_lines.specs.Fields.{LineRequest}
use Rattle.hq_log.specs.Entries.{Telling, answered_entry}
use Rattle.hq_log.specs.Lines.{LogEntry}
use Rattle.hq_log.specs.declared.keeping.Answered.{Answered}
use Rattle.hq_log.proofs.Told.{asked_entry, told_as}
use Rattle.hq_requests.specs.Named.{whose_at}
use Rattle.hq_requests.specs.declared.directory.Directory.{Directory}
use Rattle.hq_requests.specs.declared.exchanges.Exchange.{Exchange}
use Rattle.hq_wire.specs.Replies.{SeenReply}
use Rattle.hq_batch.specs.Batches.{IsEntryOf, batch_entry, moment_of}
use Rattle.hq_batch.specs.Steps.{HoldsLine, IsLineToLog, SendsLine}
use Rattle.hq_batch.specs.declared.front.Replied.{Replied}

-- what is told of the exchange of a line, or of none, is of that line
entry_of : {D : Type 0} (d : Directory) (request : Option LineRequest) (before after : D)
    (r : SeenReply) (asked : Option Exchange) → HoldsLine request before r after asked →
    IsEntryOf d request r (asked_entry d (moment_of request) asked r.status r.body)
entry_of d request before after r (Some x) (q, is_request, is) = inl (
    (λ i. record {
      at = moment_of request;
      whose = whose_at d (is.3 i) (is.2 i);
      method = Some (is.1 i);
      path = Some (is.2 i);
      status = r.status;
      body = r.body;
    }) ∙ ap (λ known. batch_entry d (moment_of request) known r) (sym is_request))
entry_of d request before after r None (inl unread) =
    inl (ap (λ known. batch_entry d (moment_of request) known r) (sym unread))
entry_of d request before after r None (inr no_room) = inr (no_room.0, refl)

-- what the log was told, once it was begun, is of the line and of its reply
module _ {D L : Type 0} (sight : DeskSight D) (d : Directory) (tells : Telling L)
    (on : (old mid new : L) (told more : List LogEntry) → tells old told mid →
    tells mid more new → tells old (told ++ more) new) (log_old begun log_new : L) where
  pub logged_as : (request : Option LineRequest) (before after : D) (told : Answered)
      (replied : Replied) → IsLineToLog told replied →
      (sends : SendsLine sight d before request replied after) →
      tells log_old [] begun → tells begun (answered_entry told ∷ []) log_new →
      (e : LogEntry) × IsEntryOf d request sends.told e × tells log_old (e ∷ []) log_new
  logged_as request before after told replied is sends none line =
      let entry = told_as d told (moment_of request) replied.asked replied.reply
      sends.told.status sends.told.body (is.0 ∙ sends.moment) is.1 is.2 sends.whose
      (sym sends.sent.0) (sym sends.sent.1) in (
        asked_entry d (moment_of request) replied.asked sends.told.status sends.told.body,
        entry_of d request before after sends.told replied.asked sends.holds,
        subst (λ (t : LogEntry). tells log_old (t ∷ []) log_new) entry
            (on log_old begun log_new [] (answered_entry told ∷ []) none line),
      )
