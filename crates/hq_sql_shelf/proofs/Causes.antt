-- The fault that is told once a statement failed has the cause of its error, or of its standing.
use Rattle.sqlite.specs.declared.error.Error.{Error}
use Rattle.hq_sql.specs.Causes.{HasCause}
use Rattle.hq_sql_open.specs.Faults.{IsCaused}
use Rattle.hq_sql_open.proofs.Reasons.{caused}
use Rattle.hq_sql_open.specs.Standings.{HasReason}
use Rattle.hq_sql_open.specs.declared.transaction.Standing.{Standing}
use Rattle.hq_sql_open.specs.declared.transaction.Standing.TheVariants.{Open, Gone, InDoubt, Lost}
use Rattle.hq_sql_open.specs.declared.transaction.Standing.TheVariants.{Unasked}
use Rattle.hq_sql_shelf.specs.Shelf.{fault_left}

pub left_caused : (refused failed : Type 0) (standing : Standing) (error : Error) →
    HasReason refused failed standing → HasCause refused failed error →
    IsCaused refused failed (fault_left standing error)
left_caused refused failed Open error reason cause = caused refused failed error cause
left_caused refused failed InDoubt error reason cause = caused refused failed error cause
left_caused refused failed Unasked error reason cause = caused refused failed error cause
left_caused refused failed Gone error reason cause = reason
left_caused refused failed Lost error reason cause = reason
