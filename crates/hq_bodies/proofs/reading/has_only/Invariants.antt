use Rattle.std.proofs.Common.{◌≡◌, map}
use Rattle.serde_json.specs.View.{members_view}
use Rattle.hq_bodies.specs.Reading.{has_only}
use Rattle.hq_bodies.proofs.reading.has_only.Given as goal

-- the members that are left decide
abbrev pub invariant-loop-key : goal.invariant-loop-key
invariant-loop-key l =
    let names = map (λ n. n.now) l.names in
    has_only names (members_view l.key-iterator) ≡ has_only names (members_view l.map.entries)
