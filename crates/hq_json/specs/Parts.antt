-- An answer as one customer's part of the reply to a call of all, and what tells where such a part
-- ends.
use Rattle.std.specs.Prelude.{ℕ, zero, suc, ◌≡◌, ◌==◌, ◌∷◌, ◌++◌, Bool, true, false, List, []}
use Rattle.std.specs.Prelude.{take, drop, codes, if◌then◌else◌}
use Rattle.hq_rules.specs.declared.answer.Answer.{Answer}
use Rattle.hq_json.specs.Replies.{answer_text}

-- an object's text with the member `customer` before its others
abbrev pub for_customer : List ℕ → List ℕ → List ℕ
for_customer name object = codes "{\"customer\":\"" ++ name ++ codes "\"," ++ drop 1 object

-- what a customer is told of its answer, as a part
abbrev pub part_text : List ℕ → Answer → List ℕ
part_text name a = for_customer name (answer_text a)

-- where in a JSON text one stands: outside of its strings, in one, or behind a backslash there
pub data Place : Type 0 where
  Outside : Place
  InString : Place
  Escaped : Place

-- behind this byte
abbrev pub stands_behind : Place → ℕ → Place
stands_behind Outside byte = if byte == 34 then InString else Outside
stands_behind InString byte = if byte == 34 then Outside else
    (if byte == 92 then Escaped else InString)
stands_behind Escaped byte = InString

abbrev pub one_less : ℕ → ℕ
one_less zero = zero
one_less (suc n) = n

abbrev pub is_none_open : ℕ → Bool
is_none_open zero = true
is_none_open (suc n) = false

-- how many braces are open behind this byte; those in strings do not count
abbrev pub open_behind : Place → ℕ → ℕ → ℕ
open_behind Outside n byte = if byte == 123 then suc n else
    (if byte == 125 then one_less n else n)
open_behind _ n byte = n

abbrev pub is_last : List ℕ → Bool
is_last [] = true
is_last (b ∷ bs) = false

-- with so many braces open: the last byte closes all of them, and no byte before it does
abbrev pub closes : Place → ℕ → List ℕ → Bool
closes place n [] = false
closes place n (b ∷ bs) = if is_none_open (open_behind place n b) then is_last bs else
    closes (stands_behind place b) (open_behind place n b) bs

-- begins with a brace, and ends where that one is closed
abbrev pub IsObject : List ℕ → Type 0
IsObject text = (take 1 text ≡ 123 ∷ []) × (closes Outside 0 text ≡ true)
