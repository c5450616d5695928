use Rattle.std.proofs.Common.{◌+◌, ◌*◌, ◌≤◌, map, take, length, vec_len, vec_capacity}
use Rattle.hq_rules.specs.Each.{each_call}
use Rattle.hq_requests.specs.Directories.{name_of}
use Rattle.hq_wire.specs.Exchanges.{with_refusals}
use Rattle.hq_wire.proofs.Called.{SoFar}
use Rattle.hq_wire.proofs.calling.call_all.Given as goal

abbrev pub invariant-loop-customer : goal.invariant-loop-customer
invariant-loop-customer g l = record {
  so_far : SoFar (with_refusals g.M.Memory.refused g.D.Acts.sight)
      l.directory l.at (each_call l.each) l.fn.desk
      (map name_of (take l.customer-index l.customers)) l.desk l.body.items l.is_first;
  room : vec_len l.body + (length l.customers * l.room + 135) ≤ vec_capacity l.body
      + l.customer-index * l.room;
}
