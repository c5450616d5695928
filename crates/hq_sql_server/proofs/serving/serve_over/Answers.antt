use Rattle.std.proofs.Common.{inr, sym}
use Rattle.hq_sql_server.proofs.serving.serve_over.Goals as goal

pub returns : goal.returns
returns g c = inr (record {
  clients = c.in-Ok.clients;
  net = c.listen.new.network;
  listening = c.in-Ok.ensures;
  clients_after = c.serve_rounds-end.new.clients;
  stopped = c.end.ensures;
  log = c.open-log.result;
  log_after = c.serve_rounds-end.new.log;
  logged = g.G.Logs.does_on _ _ _ _ _ c.open-log.ensures c.close.ensures;
  old = c.new-desk.result;
  host_is = c.new-desk.ensures.host;
  shelf_is = c.new-desk.ensures.shelf;
  new = c.serve_rounds-end.result.1;
  left_is = sym c.into_shelf.ensures;
  why = c.serve_rounds-end.result.0;
  served = c.serve_rounds-end.ensures;
  ended_so = c.ended.ensures;
})
