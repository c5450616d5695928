use Rattle.std.proofs.Common.{◌≡◌, ◌≤◌, map, take, length, vec_len, vec_capacity}
use Rattle.hq_rules.specs.Each.{each_call}
use Rattle.hq_admin.specs.Rounds.{customer_entry}
use Rattle.hq_admin.proofs.Called.{SoFar}
use Rattle.hq_admin.proofs.rounds.call_each.Given as goal

abbrev pub invariant-loop-customer : goal.invariant-loop-customer
invariant-loop-customer g l = record {
  so_far : SoFar g.D.Acts.sight l.at (each_call l.each)
      l.initial.desk
      (map customer_entry (take l.customer-index l.customers)) l.told.items l.desk;
  count : vec_len l.told ≡ l.customer-index;
  room : length l.customers ≤ vec_capacity l.told;
}
