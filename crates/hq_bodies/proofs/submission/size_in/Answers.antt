use Rattle.std.proofs.Common.{◌≡◌, rules, sym, Ok}
use Rattle.serde_json.specs.View.{view}
use Rattle.hq_bodies.specs.Submissions.{bytes_at}
use Rattle.hq_bodies.proofs.Submitted.{size_taken, size_refused}
use Rattle.hq_bodies.proofs.submission.size_in.Goals as goal

pub returns-then-bytes-gt-MOST_BYTES : goal.returns-then-bytes-gt-MOST_BYTES
returns-then-bytes-gt-MOST_BYTES c =
    let read : bytes_at (view c.args.value.now) ≡ Ok c.in_ok-bytes.bytes = search rules in
    sym (size_refused _ c.in_ok-bytes.bytes (search rules) read)

pub returns : goal.returns
returns c =
    let read : bytes_at (view c.args.value.now) ≡ Ok c.in_ok-bytes.bytes = search rules in
    sym (size_taken _ _ _ read)
