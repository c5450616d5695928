use Rattle.std.proofs.Common.{◌≡◌, ◌++◌, map, drop, option_map}
use Rattle.serde_json.specs.View.{items_view}
use Rattle.hq_bodies.specs.Reading.{texts_of}
use Rattle.hq_bodies.proofs.reading.texts.Given as goal

-- the texts so far, and those of the values that are left
abbrev pub invariant-loop-value : goal.invariant-loop-value
invariant-loop-value g l =
    option_map (λ rest. map (λ text. text.now) l.found.items ++ rest)
    (texts_of (items_view (drop l.value-index l.values))) ≡ texts_of (items_view l.values)
