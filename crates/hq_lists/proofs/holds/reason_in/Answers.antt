use Rattle.std.proofs.Common.{[], option_map, ap, ◌∙◌}
use Rattle.std.specs.Prelude.{unwrap_or}
use Rattle.hq_rows.specs.Listed.{hold_value}
use Rattle.hq_tables.specs.Tables.{reason_of}
use Rattle.hq_lists.proofs.Keys.{hold_found}
use Rattle.hq_lists.proofs.holds.reason_in.Goals as goal

pub returns-in_ok-copy-in-Some : goal.returns-in_ok-copy-in-Some
unfolding reason_of
returns-in_ok-copy-in-Some g c = c.in_ok-copy-in-Some.ensures ∙ ap
    (λ o. unwrap_or (option_map hold_value o) []) c.in-Some.ensures
    ∙ ap (λ o. unwrap_or o []) (hold_found c.args.rows.now c.args.customer.now c.args.serial)

pub returns-in-None : goal.returns-in-None
unfolding reason_of
returns-in-None g c = c.empty.ensures ∙ ap (λ o. unwrap_or (option_map hold_value o) [])
    c.in-None.ensures ∙ ap (λ o. unwrap_or o [])
    (hold_found c.args.rows.now c.args.customer.now c.args.serial)
