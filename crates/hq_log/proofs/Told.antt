-- What is told of an exchange and its reply, by what is known of both.
use Rattle.std.proofs.Common.{◌≡◌, ◌∙◌, ℕ, List, Option}
use Rattle.std.specs.Prelude.{option_map, string_bytes}
use Rattle.hq_requests.specs.Bodies.{body_bytes}
use Rattle.hq_requests.specs.Named.{whose_asked, whose_told}
use Rattle.hq_requests.specs.declared.directory.Directory.{Directory}
use Rattle.hq_requests.specs.declared.exchanges.Exchange.{Exchange}
use Rattle.hq_requests.specs.declared.reply.Reply.{Reply}
use Rattle.hq_log.specs.Entries.{answered_entry, exchange_entry}
use Rattle.hq_log.specs.Lines.{LogEntry}
use Rattle.hq_log.specs.declared.keeping.Answered.{Answered}

-- an exchange, or what could not be read as one, with the status and the body of its reply
abbrev pub asked_entry : Directory → Option ℕ → Option Exchange → (status : ℕ) (body : List ℕ) →
    LogEntry
asked_entry d at asked status body = record {
  at = at;
  whose = whose_asked d asked;
  method = option_map (λ (x : Exchange). string_bytes x.method) asked;
  path = option_map (λ (x : Exchange). string_bytes x.path) asked;
  status = status;
  body = body;
}

pub told_as : (d : Directory) (told : Answered) (at : Option ℕ) (asked : Option Exchange)
    (reply : Reply) (status : ℕ) (body : List ℕ) → told.at ≡ at →
    option_map (λ x. x.now) told.asked ≡ asked → told.reply.now ≡ reply →
    whose_told reply ≡ whose_asked d asked → reply.status ≡ status →
    body_bytes reply.body ≡ body →
    answered_entry told ≡ asked_entry d at asked status body
told_as d told at asked reply status body at_is asked_is reply_is whose same_status same_body =
    (λ i. exchange_entry (at_is i) (asked_is i) (reply_is i)) ∙ (λ i. record {
      at = at;
      whose = whose i;
      method = option_map (λ (x : Exchange). string_bytes x.method) asked;
      path = option_map (λ (x : Exchange). string_bytes x.path) asked;
      status = same_status i;
      body = same_body i;
    })
