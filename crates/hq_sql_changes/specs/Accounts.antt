-- What a change makes of the head rows alone.
-- Inner: it serves proofs alone, and no promise rests on it.
use Rattle.std.specs.Prelude.{◌≡◌, ℕ, Bool, false, List, [], ◌∷◌, Option, Some, None, option_map}
use Rattle.std.specs.Prelude.{Result, IfOk, cond, nat_eq}
use Rattle.std.specs.FinMap.{FinMap, get, insert}
use Rattle.sqlite.specs.declared.error.Error.{Error}
use Rattle.sqlite.specs.State.{State, HasCleanDisk}
use Rattle.hq_kept.specs.declared.pattern.Class.{Class}
use Rattle.hq_kept.specs.declared.message.Message.{Message}
use Rattle.hq_tables.specs.declared.account.Account.{Account}
use Rattle.hq_tables.specs.declared.change.Change.{Change}
use Rattle.hq_tables.specs.declared.change.Change.TheVariants.{PutMessage, DropMessage}
use Rattle.hq_tables.specs.Tables.{Tables, Row, text_cmp, row_of, write, counted, recounted}
use Rattle.hq_tables.specs.Tables.{with_message, without_message, with_line, without_line}
use Rattle.hq_sql.specs.Heads.{with_account}
use Rattle.hq_sql.specs.Tables.{IsDesk, Leaves, tables_in}
use Rattle.hq_owned.specs.Owned.{given}

abbrev pub counted_message : List ℕ → ℕ → Tables → Tables
counted_message customer size t = record t { heads = counted (with_message size) customer t.heads }

abbrev pub uncounted_line : List ℕ → Class × List ℕ → Tables → Tables
uncounted_line customer pattern t = record t {
  heads =
      given t.heads (λ _. counted without_line customer t.heads) (get t.lines (customer, pattern));
}

-- the heads once a message that was counted with one size is counted with another
abbrev pub resized : List ℕ → ℕ → ℕ → FinMap text_cmp Account → FinMap text_cmp Account
resized customer before size heads =
    counted (with_message size) customer (counted (without_message before) customer heads)

abbrev pub resized_message : List ℕ → ℕ → ℕ → Tables → Tables
resized_message customer before size t = record t { heads = resized customer before size t.heads }

-- the heads once the message of a serial is counted with this size; the same, where one of this
-- size stands there
abbrev pub counted_at : List ℕ → ℕ → ℕ → Tables → FinMap text_cmp Account
counted_at customer serial size t = given (counted (with_message size) customer t.heads)
    (λ (r : Row). cond (nat_eq r.size size) t.heads (resized customer r.size size t.heads))
    (get t.messages (customer, serial))

abbrev pub recounted_message : List ℕ → ℕ → ℕ → Tables → Tables
recounted_message customer serial size t = record t { heads = counted_at customer serial size t }

-- false tells that nothing stands there
abbrev pub TellsFree : {V : Type 0} → State → State → Result Bool Error → (Tables → Option V) →
    Type 0
TellsFree old new result at = HasCleanDisk new → IsDesk old.now →
    IfOk result (λ there. there ≡ false → at (tables_in old.now) ≡ None)

-- the row of the message stands at its key, and is counted
abbrev pub with_counted_row : List ℕ → Message → Tables → Tables
with_counted_row customer m t = record t {
  heads = counted_at customer m.serial m.size t;
  messages = insert t.messages (customer, m.serial) (row_of m);
}

-- the rows of the message stand, and the heads are the same
abbrev pub with_rows : List ℕ → Message → Tables → Tables
with_rows customer m t = record (write customer (PutMessage m) t) { heads = t.heads }

-- no row of the message stands, and the heads are the same
abbrev pub without_rows : List ℕ → ℕ → Tables → Tables
without_rows customer serial t = record (write customer (DropMessage serial) t) { heads = t.heads }

-- What a change is made as: where the counts in the head rows are those of the rows, it is `write`.
abbrev pub made_by : List ℕ → Change → Tables → Tables
made_by customer (PutMessage m) t = record (write customer (PutMessage m) t) {
  heads = counted_at customer m.serial m.size t;
}
made_by customer c t = write customer c t

-- all changes in order
abbrev pub made_by_all : List ℕ → List Change → Tables → Tables
made_by_all customer [] t = t
made_by_all customer (c ∷ cs) t = made_by_all customer cs (made_by customer c t)

-- ---- a head row that is still to be written

-- the size of the message of a serial, where there is one
abbrev pub size_at : List ℕ → ℕ → Tables → Option ℕ
size_at customer serial t = option_map (λ (r : Row). r.size) (get t.messages (customer, serial))

-- what is told stood in the tables before, and these are left
pub record ToldAndLeft {X : Type 0} (old new : State) (told before : X) (t : Tables) : Type 0 where
  pub is : told ≡ before
  pub left : Leaves old new t

-- A write that succeeds tells `at` of the tables before, and leaves `f` of them.
abbrev pub MakesTelling : {X : Type 0} → State → State → Result X Error → (Tables → X) →
    (Tables → Tables) → Type 0
MakesTelling old new result at f = HasCleanDisk new → IsDesk old.now →
    IfOk result (λ told. ToldAndLeft old new told (at (tables_in old.now)) (f (tables_in old.now)))

-- the account once a message is counted in it no more that was counted with a size, where it was
abbrev pub unsized : Account → Option ℕ → Account
unsized a None = a
unsized a (Some before) = recounted (without_message before) a

-- the account once a message is counted in it with this size
abbrev pub sized : ℕ → Account → Option ℕ → Account
sized size a None = recounted (with_message size) a
sized size a (Some before) = cond (nat_eq before size) a
    (recounted (with_message size) (recounted (without_message before) a))

-- the account once a line is put, by whether its pattern had one
abbrev pub lined : Account → Bool → Account
lined a had = cond had a (recounted with_line a)

-- all changes in order, after the head row was set to this account
abbrev pub made_owing : List ℕ → Account → List Change → Tables → Tables
made_owing customer account changes t =
    made_by_all customer changes (with_account customer account t)
