use Rattle.std.proofs.Common.{◌≡◌, Ok, List, ℕ, IsTrue, length, map, sym, ap, subst}
use Rattle.std.proofs.Common.{◌∙◌}
use Rattle.hq_rules.specs.Limits.{is_recipient_count}
use Rattle.hq_bodies.specs.Submissions.{addresses_in, envelope_shown}
use Rattle.hq_bodies.proofs.Submitted.{texts_read, envelope_taken}
use Rattle.hq_bodies.proofs.submission.envelope_from.Goals as goal

pub invariant_of-result : goal.invariant_of-result
invariant_of-result g c =
    let fields = envelope_shown c.args.fields.now in
    let read : addresses_in fields.recipients.texts ≡ Ok c.in_ok-recipients.recipients.items =
    ap (λ texts. addresses_in (map (λ text. text.now) texts))
    (sym c.as_slice.ensures.value) ∙ c.in_ok-recipients.ensures in
    record {
      number = subst (λ (xs : List (List ℕ)). IsTrue (is_recipient_count (length xs)))
          (sym (c.from_vec.ensures
          ∙ texts_read fields.recipients.texts c.in_ok-recipients.recipients.items read))
          fields.recipients.number;
      limit = fields.size.limit;
    }

pub returns : goal.returns
returns g c =
    let fields = envelope_shown c.args.fields.now in
    let read : addresses_in fields.recipients.texts ≡ Ok c.in_ok-recipients.recipients.items =
    ap (λ texts. addresses_in (map (λ text. text.now) texts))
    (sym c.as_slice.ensures.value) ∙ c.in_ok-recipients.ensures in
    envelope_taken fields _ _ _ _ _ c.in_ok-sender.ensures read
    c.from_vec.ensures
