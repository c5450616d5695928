-- The exchanges of lines that wait for a round, as what the lines ask for.
-- Inner: it serves proofs alone, and no promise rests on it.
use Rattle.std.specs.Prelude.{List, map, Option, Some, string_bytes, option_map}
use Rattle.hq_requests.specs.declared.exchanges.Exchange.{Exchange}
use Rattle.hq_lines.specs.Fields.{LineRequest}

-- the exchange, as what its line asks for
abbrev pub line_asked : Exchange → LineRequest
line_asked x = record {
  at = x.at;
  method = string_bytes x.method;
  path = string_bytes x.path;
  key = option_map string_bytes x.key;
  body = x.body.items;
}

-- what the lines ask for whose exchanges wait
abbrev pub lines_waiting : List Exchange → List (Option LineRequest)
lines_waiting exchanges = map (λ (x : Exchange). Some (line_asked x)) exchanges
