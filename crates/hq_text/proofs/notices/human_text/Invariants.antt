use Rattle.std.proofs.Common.{◌≡◌, ◌++◌, map, take, string_bytes}
use Rattle.hq_rules.specs.TextLines.{crlf, text_of}
use Rattle.hq_rules.specs.NoticeTexts.{opening_lines, told_line}
use Rattle.hq_text.proofs.notices.human_text.Given as goal

abbrev pub invariant-loop-one : goal.invariant-loop-one
invariant-loop-one g l = string_bytes l.text ≡ text_of crlf
    (opening_lines l.host l.message l.fn.kind ++ map told_line (take l.one-index l.told))
