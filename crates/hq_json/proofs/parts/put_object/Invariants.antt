use Rattle.std.proofs.Common.{◌≡◌, ◌++◌, map, drop}
use Rattle.serde_json.specs.Written.{compact_text, members_text}
use Rattle.hq_json.specs.Objects.{having, members_in}
use Rattle.hq_json.proofs.parts.put_object.Given as goal

-- what is written, and the text of the members that are left
abbrev pub invariant-loop-name : goal.invariant-loop-name
invariant-loop-name g l =
    l.body.items ++ members_text l.is_later
    (members_in (map (λ m. (m.0.now, g.V.Value.told m.1)) (drop l.name-index l.members)))
    ≡ l.fn.body.items
    ++ compact_text (having (map (λ m. (m.0.now, g.V.Value.told m.1)) l.members))
