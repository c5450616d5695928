-- What is said of calls that may want memory beside what a shelf answers.
-- Inner: it serves proofs alone, and no promise rests on it.
use Rattle.std.specs.Prelude.{◌≡◌, ◌⊎◌}
use Rattle.hq_values.specs.Refusals.{no_memory}
use Rattle.hq_tables.specs.Shelves.{Sight}

-- what is seen of a shelf, by a call whose memory may refuse, whichever the shelf
abbrev pub with_memory : {S : Type 0} → Type 0 → Sight S → Sight S
with_memory refused sight = record sight {
  may_answer = λ fault. ((fault ≡ no_memory) × refused) ⊎ sight.may_answer fault;
}
