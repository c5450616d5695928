use Rattle.std.proofs.Common.{[], sym, append-nil}
use Rattle.hq_sockets.proofs.Talked.{nothing_more}
use Rattle.hq_sockets.proofs.clients.leaving.Goals as goal

pub returns-then-is_err : goal.returns-then-is_err
returns-then-is_err g c = λ first one got response talked asks. (
  got,
  response,
  [],
  nothing_more g.C.Connection.talks g.C.Connection.talks_on first c.args.stream
      c.end_writing.new.self got response talked c.end_writing.ensures,
  asks,
  sym (append-nil response),
)

pub returns : goal.returns
returns g c = λ first one got response talked asks. (
  got,
  nothing_more g.C.Connection.talks g.C.Connection.talks_on first c.args.stream
      c.end_writing.new.self got response talked c.end_writing.ensures,
  asks,
)
