use Rattle.std.proofs.Common.{sym}
use Rattle.hq_desk.specs.Desks.{on}
use Rattle.hq_admin.proofs.Reasons.{any_reason}
use Rattle.hq_admin.proofs.performing.perform.Goals as goal

pub returns : goal.returns
returns g c = record {
  old = c.new-desk.result;
  host_is = c.new-desk.ensures.host;
  shelf_is = c.new-desk.ensures.shelf;
  new = c.act-done.new.self;
  left_is = sym c.into_shelf.ensures;
  answer = c.act-done.ensures.answer;
  tables = c.act-done.ensures.tables;
  stops = c.act-done.ensures.stops;
  kept = any_reason (on g.S.Shelf.sight) _ _ _ _ c.act-done.ensures.kept;
}
