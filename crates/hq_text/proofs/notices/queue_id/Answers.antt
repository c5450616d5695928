use Rattle.std.proofs.Common.{sym, subst}
use Rattle.std.specs.Str.{IsUtf8}
use Rattle.hq_values.proofs.Ascii.{serial_utf8}
use Rattle.hq_text.proofs.notices.queue_id.Goals as goal

pub unreachable-requires : goal.unreachable-requires
unreachable-requires g c = c.in-Err.ensures.cases.0
    (subst IsUtf8 (sym c.text-text.ensures) (serial_utf8 c.args.serial))
