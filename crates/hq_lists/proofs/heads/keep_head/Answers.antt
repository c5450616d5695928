use Rattle.std.proofs.Common.{◌≡◌, false, Option, None, Some, List, ℕ, refl, ap, ◌∙◌, sym}
use Rattle.std.specs.Prelude.{is_some, option_map}
use Rattle.std.specs.List as list
use Rattle.std.specs.FinMap.{get, insert}
use Rattle.hq_tables.specs.declared.account.Account.{Account}
use Rattle.hq_isolation.proofs.Accounts.{is_some_map}
use Rattle.hq_lists.specs.declared.heads.ListedHead.{ListedHead}
use Rattle.hq_lists.specs.Heads.{is_head, heads_listed}
use Rattle.hq_lists.proofs.Listed.{head_found, head_stays, head_opens}
use Rattle.hq_lists.proofs.heads.keep_head.Goals as goal

-- whether the customer has a head, as the code asks
has : (c : List ℕ) (rows : List ListedHead) (found : Option ListedHead) →
    found ≡ list.find (is_head c) rows → is_some found ≡ is_some (get (heads_listed rows) c)
has c rows found e = ap is_some e
    ∙ sym (is_some_map (λ (r : ListedHead). r.head) (list.find (is_head c) rows))
    ∙ ap is_some (head_found rows c)

none : {A : Type 0} (o : Option A) → is_some o ≡ false → o ≡ None
none None e = refl
none (Some a) e = cc

pub returns-then-is_some : goal.returns-then-is_some
returns-then-is_some g c =
    let who = c.args.customer.now in
    let rows = c.args.rows.now.items in
    sym (head_stays who (heads_listed rows) (sym (has who rows
    (option_map (λ row. row.now) c.find_head.result)
    (c.find_head.ensures ∙ ap (list.find (is_head who)) c.as_slice.ensures.value))
    ∙ is_some_map (λ row. row.now) c.find_head.result ∙ sym c.is_some.ensures
    ∙ c.if-is_some.true))

pub returns : goal.returns
returns g c =
    let who = c.args.customer.now in
    let rows = c.args.rows.now.items in
    c.in_ok-put_head.ensures
    ∙ ap (λ (a : Account). insert (heads_listed rows) who a.head) c.opening.ensures
    ∙ head_opens who (heads_listed rows) (none (get (heads_listed rows) who)
    (sym (has who rows (option_map (λ row. row.now) c.find_head.result)
    (c.find_head.ensures ∙ ap (list.find (is_head who)) c.as_slice.ensures.value))
    ∙ is_some_map (λ row. row.now) c.find_head.result ∙ sym c.is_some.ensures
    ∙ c.if-is_some.false))
