use Rattle.std.proofs.Common.{arith}
use Rattle.sqlite.specs.Files.{file_state}
use Rattle.hq_sql_open.specs.Transactions.{IsSettled}
use Rattle.hq_sql_shelf.proofs.file.open_file.Goals as goal

pub returns-in-Ok-adopt-clause-settled : goal.returns-in-Ok-adopt-clause-settled
returns-in-Ok-adopt-clause-settled c clean =
    let was = (c.in-Ok.ensures.opened (omega (arith, c.in-Ok-adopt.ensures.quiet, clean))).0 in
    let settled : IsSettled (file_state c.in-Ok.conn) =
    record { is_open = was.is_open; mode = was.autocommit; now = was.clean } in
    (c.in-Ok-adopt.ensures.opened clean settled).settled
