-- The words of the functions on the list of heads, and of those that make changes. No claim rests
-- on them.
-- Inner: it serves proofs alone, and no promise rests on it.
use Rattle.std.specs.Prelude.{ℕ, Bool, List, unwrap_or}
use Rattle.std.specs.Ordering.{eq_by_cmp}
use Rattle.std.specs.FinMap.{FinMap, empty, get, insert}
use Rattle.hq_kept.specs.declared.account.Head.{Head}
use Rattle.hq_owned.specs.Rows.{map_of}
use Rattle.hq_tables.specs.Tables.{Tables, text_cmp, opening_head}
use Rattle.hq_tables.specs.declared.change.Change.{Change}
use Rattle.hq_tables.specs.declared.change.Change.TheVariants.{PutHead, PutMessage, PutLine}
use Rattle.hq_lists.specs.declared.heads.ListedHead.{ListedHead}

-- the customer's head
unfoldable pub is_head : List ℕ → ListedHead → Bool
is_head customer r = eq_by_cmp text_cmp customer r.customer

-- the heads that are listed
abbrev pub heads_listed : List ListedHead → FinMap text_cmp Head
heads_listed rows = map_of text_cmp (λ (r : ListedHead). r.customer) (λ (r : ListedHead). r.head)
    rows

-- the customer's head; that of a customer of whom nothing is kept, where none is listed
abbrev pub head_of : FinMap text_cmp Head → List ℕ → Head
head_of heads customer = unwrap_or (get heads customer) opening_head

-- the heads once the customer has one: its own, where it had one before
unfoldable pub with_some_head : List ℕ → FinMap text_cmp Head → FinMap text_cmp Head
with_some_head customer heads = insert heads customer (head_of heads customer)

-- the heads after a change: who has a message or a line has a head
abbrev pub heads_after : List ℕ → Change → FinMap text_cmp Head → FinMap text_cmp Head
heads_after customer (PutHead head) heads = insert heads customer head
heads_after customer (PutMessage m) heads = with_some_head customer heads
heads_after customer (PutLine line) heads = with_some_head customer heads
heads_after customer _ heads = heads

-- all tables but that of heads
abbrev pub beside_heads : Tables → Tables
beside_heads t = record t { heads = empty }
