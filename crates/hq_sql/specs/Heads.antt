-- What the statements on heads leave.
-- Inner: it serves proofs alone, and no promise rests on it.
use Rattle.std.specs.Prelude.{ℕ, List}
use Rattle.std.specs.FinMap.{insert}
use Rattle.hq_tables.specs.declared.account.Account.{Account}
use Rattle.hq_tables.specs.Tables.{Tables}

-- the head and the counts stand at the customer
abbrev pub with_account : List ℕ → Account → Tables → Tables
with_account customer account t = record t { heads = insert t.heads customer account }
