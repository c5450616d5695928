-- A route that changes nothing asks for what only reads, and any other asks for a change.
use Rattle.std.proofs.Common.{◌≡◌, ℕ, Bool, not, List, Result, Ok, Err, refl}
use Rattle.std.specs.Prelude.{⊤}
use Rattle.hq_values.specs.Readers.{◌>>=◌}
use Rattle.hq_values.specs.declared.failure.Refusal.{Refusal}
use Rattle.hq_rules.specs.Unchanged.{only_reads}
use Rattle.hq_rules.specs.declared.call.Call.{Call}
use Rattle.hq_bodies.specs.Outcomes.{read_report}
use Rattle.hq_bodies.specs.Queries.{read_history_before, read_message_after, read_message_id}
use Rattle.hq_bodies.specs.Queries.{read_notice_after, read_notice_number}
use Rattle.hq_bodies.specs.Submissions.{read_envelope, read_submission}
use Rattle.hq_bodies.specs.Tables.{read_check, read_find, read_import, read_line, read_pattern}
use Rattle.hq_bodies.specs.Tables.{read_search}
use Rattle.hq_requests.specs.Calls.{asked_of, number_of, serial_of}
use Rattle.hq_requests.specs.Routes.{changes}
use Rattle.hq_requests.specs.declared.table.Route.{Route}
use Rattle.hq_requests.specs.declared.table.Route.TheVariants as route

-- a call that is read, only reads or not
abbrev pub Reads : Bool → Result Call Refusal → Type 0
Reads b (Ok call) = only_reads call ≡ b
Reads b (Err refusal) = ⊤

behind : {A : Type 0} (b : Bool) (first : Result A Refusal) (then : A → Result Call Refusal) →
    ((x : A) → Reads b (then x)) → Reads b (first >>= then)
behind b (Ok x) then each = each x
behind b (Err refusal) then each = tt

-- what a route asks for only reads just where the route changes nothing
pub reads_as_told : (asked : Route) (segment body : List ℕ) →
    Reads (not (changes asked)) (asked_of asked segment body)
unfolding asked_of
reads_as_told route.Messages segment body = refl
reads_as_told route.MessagesAfter segment body =
    behind (not (changes route.MessagesAfter)) (serial_of segment) _ (λ serial. refl)
reads_as_told route.Show segment body =
    behind (not (changes route.Show)) (serial_of segment) _ (λ serial. refl)
reads_as_told route.Hold segment body =
    behind (not (changes route.Hold)) (serial_of segment) _ (λ serial. refl)
reads_as_told route.Release segment body =
    behind (not (changes route.Release)) (serial_of segment) _ (λ serial. refl)
reads_as_told route.Requeue segment body =
    behind (not (changes route.Requeue)) (serial_of segment) _ (λ serial. refl)
reads_as_told route.Delete segment body =
    behind (not (changes route.Delete)) (serial_of segment) _ (λ serial. refl)
reads_as_told route.HoldAll segment body = refl
reads_as_told route.ReleaseAll segment body = refl
reads_as_told route.DeleteAll segment body = refl
reads_as_told route.Find segment body =
    behind (not (changes route.Find)) (read_find body) _ (λ asked. refl)
reads_as_told route.HoldMatching segment body =
    behind (not (changes route.HoldMatching)) (read_pattern body) _ (λ pattern. refl)
reads_as_told route.ReleaseMatching segment body =
    behind (not (changes route.ReleaseMatching)) (read_pattern body) _ (λ pattern. refl)
reads_as_told route.DeleteMatching segment body =
    behind (not (changes route.DeleteMatching)) (read_pattern body) _ (λ pattern. refl)
reads_as_told route.Lines segment body = refl
reads_as_told route.LinesAfter segment body =
    behind (not (changes route.LinesAfter)) (read_pattern body) _ (λ pattern. refl)
reads_as_told route.PutLine segment body =
    behind (not (changes route.PutLine)) (read_line body) _ (λ line. refl)
reads_as_told route.DropLine segment body =
    behind (not (changes route.DropLine)) (read_pattern body) _ (λ pattern. refl)
reads_as_told route.Check segment body =
    behind (not (changes route.Check)) (read_check body) _ (λ asked. refl)
reads_as_told route.Import segment body =
    behind (not (changes route.Import)) (read_import body) _ (λ asked. refl)
reads_as_told route.Notices segment body = refl
reads_as_told route.NoticesAfter segment body =
    behind (not (changes route.NoticesAfter)) (number_of segment) _ (λ number. refl)
reads_as_told route.Notice segment body =
    behind (not (changes route.Notice)) (number_of segment) _ (λ number. refl)
reads_as_told route.History segment body = refl
reads_as_told route.HistoryBefore segment body =
    behind (not (changes route.HistoryBefore)) (number_of segment) _ (λ number. refl)
reads_as_told route.FindHistory segment body =
    behind (not (changes route.FindHistory)) (read_search body) _ (λ asked. refl)
reads_as_told route.Usage segment body = refl
reads_as_told route.Limits segment body = refl
reads_as_told route.Report segment body = refl
reads_as_told route.Submit segment body =
    behind (not (changes route.Submit)) (read_submission body) _ (λ submission. refl)
reads_as_told route.Admit segment body =
    behind (not (changes route.Admit)) (read_envelope body) _ (λ envelope. refl)
reads_as_told route.Outcome segment body =
    behind (not (changes route.Outcome)) (read_report body) _ (λ report. refl)
reads_as_told route.Due segment body =
    behind (not (changes route.Due)) (read_message_after body) _ (λ after. refl)
reads_as_told route.Sweep segment body = refl
reads_as_told route.MessagesByBody segment body =
    behind (not (changes route.MessagesByBody)) (read_message_after body) _ (λ after. refl)
reads_as_told route.ShowByBody segment body =
    behind (not (changes route.ShowByBody)) (read_message_id body) _ (λ serial. refl)
reads_as_told route.NoticesByBody segment body =
    behind (not (changes route.NoticesByBody)) (read_notice_after body) _ (λ after. refl)
reads_as_told route.NoticeByBody segment body =
    behind (not (changes route.NoticeByBody)) (read_notice_number body) _ (λ number. refl)
reads_as_told route.HistoryByBody segment body =
    behind (not (changes route.HistoryByBody)) (read_history_before body) _ (λ before. refl)
