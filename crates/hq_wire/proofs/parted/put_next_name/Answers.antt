use Rattle.std.proofs.Common.{◌++◌, codes, append_assoc, sym, ap, ◌∙◌}
use Rattle.hq_wire.proofs.Written.{three}
use Rattle.hq_wire.proofs.parted.put_next_name.Goals as goal

pub returns-clause-items : goal.returns-clause-items
returns-clause-items c =
    let body = c.args.body.now.items in
    let name = c.args.name.now in
    c.put-3.ensures.items
    ∙ ap (λ xs. xs ++ codes "\",\"stopped\":") (c.put-2.ensures.items
    ∙ (λ i. c.put.ensures.items i ++ c.as_bytes.ensures.text i))
    ∙ three body (codes "],\"next\":\"") name (codes "\",\"stopped\":")
    ∙ ap (λ xs. body ++ (codes "],\"next\":\"" ++ xs))
    (sym (append_assoc name (codes "\"") (codes ",\"stopped\":")))
