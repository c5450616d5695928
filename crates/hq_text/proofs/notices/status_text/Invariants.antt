use Rattle.std.proofs.Common.{◌≡◌, ◌++◌, take, string_bytes}
use Rattle.std.specs.Prelude.{option_map}
use Rattle.std.specs.List.{flat_map}
use Rattle.hq_rules.specs.TextLines.{crlf, text_of}
use Rattle.hq_rules.specs.NoticeTexts.{message_fields, recipient_fields}
use Rattle.hq_text.proofs.notices.status_text.Given as goal

abbrev pub invariant-loop-one : goal.invariant-loop-one
invariant-loop-one g l =
    string_bytes l.text ≡ text_of crlf (message_fields l.host l.message
    ++ flat_map (recipient_fields l.kind (option_map (λ date. date.now) l.until))
    (take l.one-index l.told))
