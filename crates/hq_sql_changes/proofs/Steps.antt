-- One statement after another, inside a transaction.
use Rattle.std.proofs.Common.{◌≡◌, ℕ, List, sym, ap, ◌∙◌, subst}
use Rattle.std.specs.FinMap.{FinMap, insert}
use Rattle.sqlite.specs.State.{State, IsUnchanged}
use Rattle.sqlite.proofs.Callers.{unchanged_then}
use Rattle.hq_tables.specs.Tables.{Tables, account, text_cmp}
use Rattle.hq_tables.specs.declared.account.Account.{Account}
use Rattle.hq_sql.specs.Heads.{with_account}
use Rattle.hq_sql.specs.Tables.{IsDesk, Leaves, tables_in}
use Rattle.hq_sql.proofs.Tables.{leaves_then}

-- ---- what is kept

pub desk_after : (old new : State) → IsUnchanged old new → IsDesk old.now → IsDesk new.now
desk_after old new same desk = subst IsDesk (sym same.0.now_is) desk

-- ---- what is left

pub left_after : (old mid new : State) (t : Tables) → IsUnchanged old mid → Leaves mid new t →
    Leaves old new t
left_after old mid new t same p = record {
  desk = p.desk;
  tables = p.tables;
  is_open = p.is_open;
  was_open = same.0.was_open;
  mode = p.mode ∙ same.0.mode;
  committed = λ within. p.committed (same.0.mode ∙ within) ∙ same.0.committed_is;
}

-- a write after a query makes of the tables what it makes of those that the query saw
pub made_after : (f : Tables → Tables) (old mid new : State) (u : Tables) → IsUnchanged old mid →
    Leaves mid new (f (tables_in mid.now)) → f (tables_in old.now) ≡ u → Leaves old new u
made_after f old mid new u same p e =
    subst (Leaves old new) (ap (λ d. f (tables_in d)) same.0.now_is ∙ e)
    (left_after old mid new _ same p)

-- what comes behind a write makes of the tables what it makes of those that the write left
pub made_behind : (f : Tables → Tables) (old put new : State) (t u : Tables) → Leaves old put t →
    Leaves put new (f (tables_in put.now)) → f t ≡ u → Leaves old new u
made_behind f old put new t u p q e =
    subst (Leaves old new) (ap f p.tables ∙ e) (leaves_then old put new _ _ p q)

-- behind a query an account is read, and another is put in its place
pub put_after : (customer : List ℕ) (kept more : Account) (old a b new : State)
    (heads : FinMap text_cmp Account) → IsDesk old.now → IsUnchanged old a →
    (IsDesk a.now → IsUnchanged a b) →
    (IsDesk a.now → kept ≡ account (tables_in a.now).heads customer) →
    (IsDesk b.now → Leaves b new (with_account customer more (tables_in b.now))) →
    (kept ≡ account (tables_in old.now).heads customer →
    insert (tables_in old.now).heads customer more ≡ heads) →
    Leaves old new (record (tables_in old.now) { heads = heads })
put_after customer kept more old a b new heads desk first second found put is =
    let desk1 = desk_after old a first desk in
    let later = second desk1 in
    made_after (with_account customer more) old b new _ (unchanged_then old a b first later)
    (put (desk_after a b later desk1)) (ap (λ h. record (tables_in old.now) { heads = h })
    (is (found desk1 ∙ ap (λ d. account (tables_in d).heads customer) first.0.now_is)))

-- a query leaves what it found
pub unchanged_leaves : (old new : State) → IsDesk old.now → IsUnchanged old new →
    Leaves old new (tables_in old.now)
unchanged_leaves old new desk same = record {
  desk = desk_after old new same desk;
  tables = ap tables_in same.0.now_is;
  is_open = same.0.is_open;
  was_open = same.0.was_open;
  mode = same.0.mode;
  committed = λ _. same.0.committed_is;
}
