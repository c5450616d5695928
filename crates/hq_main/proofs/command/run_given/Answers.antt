use Rattle.std.proofs.Common.{Ok}
use Rattle.hq_main.proofs.command.run_given.Goals as goal

pub returns : goal.returns
returns g c = (
  Ok c.in_ok-settings.settings,
  c.in_ok-settings.ensures,
  record {
    log_before = c.open-log.result;
    log_after = c.run_stored-ended.new.log;
    logged = g.G.Logs.does_on _ _ _ _ _ c.open-log.ensures c.close.ensures;
    ends = c.run_stored-ended.ensures;
  },
)
