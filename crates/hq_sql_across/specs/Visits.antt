-- What sessions are asked and reply, as the code has it.
use Rattle.std.specs.Prelude.{◌≡◌, ◌⊎◌, List, [], Vec, map}
use Rattle.std.specs.Global.{Global}
use Rattle.hq_requests.specs.Named.{whose_exchange, whose_told}
use Rattle.hq_requests.specs.declared.reply.Reply.{Reply}
use Rattle.hq_sql_across.specs.Stopped.{Visit}
use Rattle.hq_sql_across.specs.declared.histories.Visit.{Visit as Given}

abbrev pub replies_in : Vec Reply Global → List Reply
replies_in v = v.items

-- its directory, and its exchanges in order
abbrev pub visit_of : Given → Visit
visit_of v = record { directory = v.directory; exchanges = v.exchanges.items }

-- each reply carries the customer of its exchange and the name of the key; or there is none
abbrev pub CarryCustomers : Visit → List Reply → Type 0
CarryCustomers visit replies = (replies ≡ [])
    ⊎ (map whose_told replies ≡ map (whose_exchange visit.directory) visit.exchanges)
