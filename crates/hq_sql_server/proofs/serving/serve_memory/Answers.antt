use Rattle.std.proofs.Common.{inl}
use Rattle.hq_sql_server.proofs.Servers.{memory_ends}
use Rattle.hq_sql_server.proofs.serving.serve_memory.Goals as goal

pub returns : goal.returns
returns g c = inl (memory_ends g.N.Network.does g.N.Clients.Clients.does
    g.N.Clients.Clients.begins g.N.Clients.Clients.left c.args.network.now
    c.serve_over-ended.new.network g.G.Logs.does g.G.Log.Log.tells c.args.logs.now
    c.serve_over-ended.new.logs c.args.settings c.args.given.now _ _
    c.serve_over-ended.result.0 c.in_ok-shelf.shelf c.serve_over-ended.result.1
    c.in_ok-shelf.ensures.ours c.in_ok-shelf.ensures.empty _ c.serve_over-ended.ensures)
