use Rattle.std.proofs.Common.{◌≡◌, ◌++◌, map, drop}
use Rattle.serde_json.specs.Data.{array}
use Rattle.serde_json.specs.View.{items_of}
use Rattle.serde_json.specs.Written.{compact_text, items_text}
use Rattle.hq_json.proofs.parts.put_list.Given as goal

-- what is written, and the text of those that are left
abbrev pub invariant-loop-one : goal.invariant-loop-one
invariant-loop-one g l =
    l.body.items ++ items_text l.is_later (items_of (map g.F.Form.told (drop l.one-index l.all)))
    ≡ l.fn.body.items ++ compact_text (array (items_of (map g.F.Form.told l.all)))
