use Rattle.std.proofs.Common.{sym}
use Rattle.std.proofs.lemmas.Bool.{false≢true}
use Rattle.hq_bodies.proofs.JsonBodies.{json_of_read, json_of_refused}
use Rattle.hq_bodies.proofs.json_memory.value_in.Goals as goal

pub returns-in-Ok : goal.returns-in-Ok
returns-in-Ok c = sym (json_of_read _ _ c.in-Ok.ensures.ok.0 c.in-Ok.ensures.ok.1)

pub returns-else-is_memory : goal.returns-else-is_memory
returns-else-is_memory c =
    sym (json_of_refused _ (c.in-Err.ensures.err (λ m. false≢true (c.if-is_memory.ensures.1 m))))
