use Rattle.std.proofs.Common.{◌++◌, codes, drop, ap, ◌∙◌}
use Rattle.hq_wire.specs.Replies.{fault_text}
use Rattle.hq_wire.proofs.Written.{five}
use Rattle.hq_wire.proofs.parted.put_stop_at.Goals as goal

pub returns : goal.returns
returns c =
    c.put-5.ensures.items
    ∙ ap (λ xs. xs ++ codes "}") (c.put-4.ensures.items
    ∙ (λ k. (c.put-3.ensures.items ∙ ap (λ xs. xs ++ codes "\",") (c.put-2.ensures.items
    ∙ (λ i. c.put.ensures.items i ++ c.as_bytes.ensures.text i))) k
    ++ c.fault_members.ensures.same k))
    ∙ five c.args.body.now.items (codes "{\"customer\":\"") c.args.name.now (codes "\",")
    (drop 1 (fault_text c.args.fault)) (codes "}")
