use Rattle.std.proofs.Common.{[], cond, sym, ◌∙◌, ap}
use Rattle.std.specs.Option.{unwrap_or}
use Rattle.http.specs.StatusCode.{reason_phrase}
use Rattle.hq_http.specs.Responses.{phrase_of}
use Rattle.hq_http.proofs.Phrases.{is_status, is_no_status}
use Rattle.hq_http.proofs.writing.phrase_of.Goals as goal

pub returns-in-Err : goal.returns-in-Err
unfolding phrase_of
returns-in-Err c =
    let status = c.args.status in
    sym (ap (λ b. cond b (unwrap_or (reason_phrase status) []) [])
    (is_no_status status c.in-Err.ensures))

pub returns-in-Ok : goal.returns-in-Ok
unfolding phrase_of
returns-in-Ok c =
    let status = c.args.status in
    let same = c.in-Ok.ensures in
    c.reason.ensures ∙ ap (λ n. unwrap_or (reason_phrase n) []) same.1
    ∙ sym (ap (λ b. cond b (unwrap_or (reason_phrase status) []) []) (is_status status same.0))
