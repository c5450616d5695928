use Rattle.std.proofs.Common.{◌≡◌, ◌≤◌, List, map, take, length, vec_len, vec_capacity}
use Rattle.std.specs.List.{AllZip}
use Rattle.hq_values.specs.Turns.{InTurn}
use Rattle.hq_requests.specs.Named.{whose_exchange, whose_told}
use Rattle.hq_wire.specs.Exchanges.{Exchanged, ask_of, with_refusals}
use Rattle.hq_wire.specs.Replies.{IsSent, SeenReply}
use Rattle.hq_wire.proofs.headline.run.Given as goal

abbrev pub invariant-loop-item : goal.invariant-loop-item
invariant-loop-item g l = record {
  each : (told : List SeenReply) × AllZip IsSent l.replies.items told
      × InTurn (Exchanged (with_refusals g.M.Memory.refused g.D.Acts.sight)
      l.directory) l.fn.desk
      (map (ask_of l.directory) (take l.item-index l.exchanges)) told l.desk;
  whose : map whose_told l.replies.items
      ≡ map (whose_exchange l.directory) (take l.item-index l.exchanges);
  count : vec_len l.replies ≡ l.item-index;
  room : length l.exchanges ≤ vec_capacity l.replies;
}
