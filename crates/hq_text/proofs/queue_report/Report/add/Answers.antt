use Rattle.std.proofs.Common.{◌+◌, ◌++◌, string_bytes, refl, ap, ◌∙◌, arith}
use Rattle.hq_rules.specs.QueueReports.{Written}
use Rattle.hq_text.proofs.Writing.{added_is, as_many_bytes, one_at_most}
use Rattle.hq_text.proofs.queue_report.Report.add.Goals as goal

pub returns-clause-added : goal.returns-clause-added
returns-clause-added g c =
    let old : Written = record {
      text = string_bytes c.self.inside.text;
      queued = c.self.inside.queued;
      bytes = c.self.inside.bytes;
      held = c.self.inside.held;
    } in
    let text = c.in_ok-append.ensures.bytes ∙ ap (λ lines. string_bytes c.self.inside.text
    ++ lines) (c.as_str.ensures.value ∙ c.in_ok-lines.ensures) in
    let bytes = ap (λ size. c.self.inside.bytes + size) c.from.ensures in
    let held = ap (λ count. c.self.inside.held + count) c.held_count.ensures in
    λ messages is. added_is old _ c.args.message.now text refl bytes held messages
    (c.self.view_is ∙ is)

pub invariant_of-self-2 : goal.invariant_of-self-2
invariant_of-self-2 g c =
    let text = c.in_ok-append.ensures.bytes ∙ ap (λ lines. string_bytes c.self.inside.text
    ++ lines) (c.as_str.ensures.value ∙ c.in_ok-lines.ensures) in
    let one = one_at_most c.held_count.result _ c.held_count.ensures in (
      as_many_bytes (string_bytes c.self.inside.text) _ c.self.inside.queued c.args.message.now
          c.self.invariant.0 text,
      omega (arith, one, c.self.invariant.1),
      omega (arith, c.from.ensures, c.self.invariant.2),
    )
