use Rattle.hq_sql_queue.specs.Dealt.{serials_of}
use Rattle.hq_sql_queue.proofs.Dealt.{Passes}
use Rattle.hq_sql_queue.proofs.dealing.place_from.Given as goal

abbrev pub invariant-loop-place : goal.invariant-loop-place
invariant-loop-place l = Passes (serials_of l.page) l.from l.serial l.place
