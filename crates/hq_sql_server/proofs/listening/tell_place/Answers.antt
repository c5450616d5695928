use Rattle.std.proofs.Common.{◌≡◌, ◌∙◌, subst}
use Rattle.hq_batch.specs.Printing.{IsPut}
use Rattle.hq_sql_server.proofs.Untold.{put_so}
use Rattle.hq_sql_server.proofs.listening.tell_place.Goals as goal

pub returns-in-Ok : goal.returns-in-Ok
returns-in-Ok g c =
    let old = g.W.Write.contents c.args.output.now in
    let new = g.W.Write.contents c.put.new.output in
    put_so c.args.place old new (c.put.new.output ≡ c.args.output.now) c.put.result
    (subst (λ text. IsPut text old new c.put.result) (c.as_bytes.ensures.value ∙ c.in-Ok.ensures)
    c.put.ensures)
