use Rattle.std.proofs.Common.{arith}
use Rattle.hq_sql_queue.specs.declared.dealing.Dealing.{Dealing}
use Rattle.hq_sql_queue.proofs.Dealt.{dealt_all}
use Rattle.hq_sql_queue.proofs.dealing.deal.Goals as goal

pub returns-clause-found : goal.returns-clause-found
returns-clause-found g c query clean desk =
    let all = rw c.between-params.ensures at (c.in_ok-dealt.ensures.found query clean desk) in
    record {
      rows = all.rows;
      shown = all.shown;
      dealt = λ rise sorted. dealt_all g.P.Part.given g.met.P.Part.keeps
          (λ (it : Dealing _). it.page.items)
          (λ (it : Dealing _). it.place) all.rows _ c.in_ok-dealt.dealt rise sorted
          (λ k n less e. absurd (omega (arith, less))) all.taken;
    }
