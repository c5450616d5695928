-- The bytes of a reply, and the number that they tell.
use Rattle.std.specs.Prelude.{ℕ, ◌==◌, List, codes, Option, None, Some, option_and_then}
use Rattle.std.specs.Prelude.{if◌then◌else◌}
use Rattle.serde_json.specs.Find.{get, as_number, as_u64}
use Rattle.hq_bodies.specs.Reading.{json_of}
use Rattle.hq_requests.specs.declared.reply.Body.{Body}
use Rattle.hq_requests.specs.declared.reply.Body.TheVariants as body

abbrev pub body_bytes : Body → List ℕ
body_bytes (body.Bytes bytes) = bytes.items
body_bytes (body.Fixed text) = text.now

-- the number of the refusal or the fault that a body tells
abbrev pub error_in : List ℕ → Option ℕ
error_in body = option_and_then as_u64 (option_and_then as_number
    (option_and_then (get (codes "error")) (json_of body)))

-- an answer has none
abbrev pub error_told : ℕ → List ℕ → Option ℕ
error_told status body = if status == 200 then None else error_in body

-- as a reply has it: 0 stands for none
abbrev pub number_shown : ℕ → Option ℕ
number_shown n = if n == 0 then None else Some n
