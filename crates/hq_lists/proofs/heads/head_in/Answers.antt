use Rattle.std.proofs.Common.{option_map, ap, ◌∙◌}
use Rattle.std.specs.Prelude.{unwrap_or}
use Rattle.hq_tables.specs.declared.account.Account.{Account}
use Rattle.hq_tables.specs.Tables.{opening_head}
use Rattle.hq_lists.specs.declared.heads.ListedHead.{ListedHead}
use Rattle.hq_lists.proofs.Listed.{head_found}
use Rattle.hq_lists.proofs.heads.head_in.Goals as goal

pub returns-in-Some : goal.returns-in-Some
returns-in-Some c =
    ap (λ o. unwrap_or (option_map (λ (r : ListedHead). r.head) o) opening_head) c.in-Some.ensures
    ∙ ap (λ o. unwrap_or o opening_head) (head_found c.args.rows.now c.args.customer.now)

pub returns-in-None : goal.returns-in-None
returns-in-None c =
    ap (λ (a : Account). a.head) c.opening.ensures
    ∙ ap (λ o. unwrap_or (option_map (λ (r : ListedHead). r.head) o) opening_head) c.in-None.ensures
    ∙ ap (λ o. unwrap_or o opening_head) (head_found c.args.rows.now c.args.customer.now)
