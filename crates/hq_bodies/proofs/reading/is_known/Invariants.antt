use Rattle.std.proofs.Common.{◌≡◌, map, drop, bytes_eq}
use Rattle.std.specs.List.{list_any}
use Rattle.hq_bodies.proofs.reading.is_known.Given as goal

-- the names that are left decide
abbrev pub invariant-loop-known : goal.invariant-loop-known
invariant-loop-known l =
    list_any (bytes_eq l.name) (map (λ n. n.now) (drop l.known-index l.names)) ≡ list_any
    (bytes_eq l.name) (map (λ n. n.now) l.names)
