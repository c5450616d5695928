-- What the log of a server is told: of a connection what was read and its reply, and nothing where
-- nothing is replied; of a round each that was replied to.
use Rattle.std.specs.Prelude.{◌⊎◌, ⊤, ℕ, List, [], ◌∷◌, ◌++◌, Option, None, Some, Result, Ok}
use Rattle.std.specs.Prelude.{Err, flat_map}
use Rattle.std.specs.Io.KnownBytes.{Appends, Keeps}
use Rattle.hq_values.specs.declared.engine.EngineFault.{EngineFault}
use Rattle.hq_values.specs.declared.engine.EngineFault.TheVariants.{Write}
use Rattle.hq_http.specs.Requests.{Request, Wanted, request}
use Rattle.hq_lines.specs.Lines.{Streams}
use Rattle.hq_lines.specs.Written.{AppendsPart}
use Rattle.hq_log.specs.Entries.{Telling}
use Rattle.hq_log.specs.Lines.{LogEntry}
use Rattle.hq_requests.specs.Named.{whose_at}
use Rattle.hq_requests.specs.declared.directory.Directory.{Directory}
use Rattle.hq_serve.specs.Coming.{RoundDone, Taken, at_once, in_round, each_with}
use Rattle.hq_serve.specs.Connections.{AnsweredAs, response_of}
use Rattle.hq_rules.specs.Desks.{DeskSight}
use Rattle.hq_wire.specs.Replies.{SeenReply}

-- what is told of a request that was read at a moment, and of its reply
abbrev pub request_entry : Directory → ℕ → Request → SeenReply → LogEntry
request_entry d at q r = record {
  at = Some at;
  whose = whose_at d q.key q.path;
  method = Some q.method;
  path = Some q.path;
  status = r.status;
  body = r.body;
}

-- of what is no request there is neither customer nor method nor path
abbrev pub unread_entry : ℕ → SeenReply → LogEntry
unread_entry at r = record {
  at = Some at;
  whose = None;
  method = None;
  path = None;
  status = r.status;
  body = r.body;
}

-- ---- one connection

abbrev pub connection_entry : Directory → ℕ → Wanted → SeenReply → LogEntry
connection_entry d at (request q) r = request_entry d at q r
connection_entry d at _ r = unread_entry at r

-- what was read is answered by this reply, and just that is told
pub record IsLogged {D L : Type 0} (sight : DeskSight D) (d : Directory) (at : ℕ)
    (read_old read_new : Option (List ℕ)) (old new : D) (tells : Telling L) (log_old log_new : L)
    (r : SeenReply) : Type 0 where
  pub asked : Wanted
  pub answered : AnsweredAs sight d at read_old read_new old asked (Some r) new
  pub told : tells log_old (connection_entry d at asked r ∷ []) log_new

-- The reply that is written is told, and so is one of which only a beginning was written; where
-- nothing is replied nothing is told.
abbrev pub LogEnds : {D L : Type 0} → DeskSight D → Directory → ℕ → Streams → Streams → D → D →
    Telling L → L → L → Result ⊤ EngineFault → Type 0
LogEnds sight d at start end old new tells log_old log_new (Ok _) =
    (Keeps start.output end.output × tells log_old [] log_new)
    ⊎ ((r : SeenReply) × Appends start.output end.output (response_of r)
    × IsLogged sight d at start.input end.input old new tells log_old log_new r)
LogEnds sight d at start end old new tells log_old log_new (Err Write) = (r : SeenReply)
    × AppendsPart start.output end.output (response_of r)
    × IsLogged sight d at start.input end.input old new tells log_old log_new r
LogEnds sight d at start end old new tells log_old log_new (Err _) = tells log_old [] log_new

-- ---- rounds

-- a request, and the moment at which it was taken
pub record TimedRequest : Type 0 where
  pub at : ℕ
  pub request : Request

abbrev pub timed_of : Taken → List TimedRequest
timed_of (at_once one r) = []
timed_of (in_round one q) = record { at = one.at; request = q } ∷ []

-- what is told of one that is replied to at once
abbrev pub told_at_once : Taken → List LogEntry
told_at_once (at_once one r) = unread_entry one.at r ∷ []
told_at_once (in_round one q) = []

-- of each request with its reply
abbrev pub told_each : Directory → List TimedRequest → List SeenReply → List LogEntry
told_each d = each_with (λ q r. request_entry d q.at q.request r)

-- Those of a round that are replied to at once are told, and then each request with its reply.
abbrev pub round_told : Directory → RoundDone → List LogEntry
round_told d round = flat_map told_at_once round.taken
    ++ told_each d (flat_map timed_of round.taken) round.replies
