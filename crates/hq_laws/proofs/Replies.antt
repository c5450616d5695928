-- The reply to a submission is that to its envelope, with the queue ID.
use Rattle.std.proofs.Common.{◌≡◌, codes, List, [], ◌∷◌, map, refl, ap}
use Rattle.serde_json.specs.Data.{Members, object, member, string, array}
use Rattle.serde_json.specs.View.{items_of}
use Rattle.hq_kept.specs.declared.message.Message.{Message}
use Rattle.hq_kept.specs.declared.message.Pending.{Pending}
use Rattle.hq_rules.specs.Submissions.{without_id}
use Rattle.hq_rules.specs.declared.answer.Answer.TheVariants as answer
use Rattle.hq_rules.specs.declared.verdict.Refused.{Refused}
use Rattle.hq_json.specs.Objects.{id, having, members_in, addresses}
use Rattle.hq_json.specs.Replies.{answer_data, queued, admissible, state_name}
use Rattle.hq_json.specs.TableReplies.{refused_list}

same_texts : (ps : List Pending) →
    map (λ t. string t) (map (λ (p : Pending). p.address) ps) ≡
    map (λ (p : Pending). string p.address) ps
same_texts [] = refl
same_texts (p ∷ ps) = ap (λ xs. string p.address ∷ xs) (same_texts ps)

pub without : (m : Message) (refused : List Refused) → (ms : Members)
    × (answer_data (answer.Queued m refused) ≡ object (member (codes "id") (id m.serial) ms))
    × (answer_data (without_id (answer.Queued m refused)) ≡ object ms)
unfolding queued admissible
without m refused = (
  members_in ((codes "recipients", addresses m.pending) ∷ (codes "refused", refused_list refused)
      ∷ (codes "state", string (state_name m.state))
      ∷ (codes "verdict", string (codes "queued")) ∷ []),
  refl,
  ap (λ xs. having ((codes "recipients", array (items_of xs))
      ∷ (codes "refused", refused_list refused)
      ∷ (codes "state", string (state_name m.state))
      ∷ (codes "verdict", string (codes "queued")) ∷ []))
      (same_texts m.pending),
)
