use Rattle.std.proofs.Common.{◌≡◌, ◌∙◌, ap, refl, subst, sym}
use Rattle.hq_rules.specs.declared.answer.Answer.TheVariants.{Refused}
use Rattle.hq_requests.specs.Bodies.{error_told, number_shown}
use Rattle.hq_wire.specs.Replies.{status_of, tells_store}
use Rattle.hq_wire.proofs.Alone.{tells_answer}
use Rattle.hq_wire.proofs.Numbers.{of_answer}
use Rattle.hq_wire.proofs.answering.refusal_reply.Goals as goal

pub answer_reply-requires : goal.answer_reply-requires
answer_reply-requires g c =
    let bytes = c.in-Ok.bytes.items in
    subst (λ n. number_shown n ≡ error_told (status_of n) bytes)
    (sym c.number-number.ensures) (of_answer (Refused c.args.refusal) bytes c.in-Ok.ensures.back)

pub returns-in-Ok-clause-store : goal.returns-in-Ok-clause-store
returns-in-Ok-clause-store g c =
    let number = c.number-number.result in
    ap tells_store c.answer_reply.ensures.told
    ∙ tells_answer (status_of number) number c.in-Ok.bytes.items refl
