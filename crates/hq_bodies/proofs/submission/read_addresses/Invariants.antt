use Rattle.std.proofs.Common.{◌≡◌, ◌++◌, map, drop, Ok}
use Rattle.hq_values.specs.Readers.{◌>>=◌}
use Rattle.hq_bodies.specs.Submissions.{addresses_in}
use Rattle.hq_bodies.proofs.submission.read_addresses.Given as goal

-- the addresses so far, and those of the texts that are left
abbrev pub invariant-loop-text : goal.invariant-loop-text
invariant-loop-text g l =
    (addresses_in (map (λ text. text.now) (drop l.text-index l.texts)) >>=
    (λ rest. Ok (l.addresses.items ++ rest))) ≡ addresses_in (map (λ text. text.now) l.texts)
