use Rattle.std.proofs.Common.{◌∷◌, OnOk, sym, refl, ap, ◌∙◌, subst}
use Rattle.std.proofs.lemmas.Result.{on_ok_weaker}
use Rattle.sqlite.specs.Held.{state}
use Rattle.hq_tables.specs.declared.account.Account.{Account}
use Rattle.hq_tables.specs.declared.change.Change.{Change}
use Rattle.hq_tables.specs.Tables.{Tables, account}
use Rattle.hq_sql.specs.Tables.{Leaves, tables_in}
use Rattle.hq_keyed.proofs.Left.{clean_before}
use Rattle.hq_sql_changes.specs.Accounts.{made_by_all, made_owing}
use Rattle.hq_sql_changes.proofs.Owing.{head_then, put_then, drop_then, head_first, drop_none}
use Rattle.hq_sql_changes.proofs.Owing.{drop_first, line_then, line_first}
use Rattle.hq_sql_changes.proofs.Steps.{made_after, made_behind, desk_after}
use Rattle.hq_sql_changes.proofs.changes.+making.Goals as goal

pub make_behind_drop-returns-in_default-clause-made
    : goal.make_behind_drop-returns-in_default-clause-made
make_behind_drop-returns-in_default-clause-made g t c clean desk =
    let old = state g.S.Store c.args.conn.now in
    let put = state g.S.Store c.drop_uncounted.new.conn in
    let new = state g.S.Store c.make_all.new.conn in
    let was = clean_before put new c.make_all.ensures.kept.quiet clean in
    let told = c.in_ok-size.ensures.made was desk in
    on_ok_weaker c.make_all.result
    (λ left. made_behind (made_by_all c.args.customer.now c.args.rest.now) old put new _ _ told.left
    left (drop_none c.args.customer.now (tables_in old.now) c.args.rest.now c.args.serial
    (sym c.in_default.is ∙ told.is)))
    (c.make_all.ensures.made told.left.is_open clean told.left.desk)

pub make_behind_drop-returns-clause-made : goal.make_behind_drop-returns-clause-made
make_behind_drop-returns-clause-made g t c clean desk =
    let old = state g.S.Store c.args.conn.now in
    let put = state g.S.Store c.drop_uncounted.new.conn in
    let seen = state g.S.Store c.account.new.conn in
    let new = state g.S.Store c.make_owing.new.conn in
    let clean2 = clean_before seen new c.make_owing.ensures.kept.quiet clean in
    let clean1 = clean_before put seen c.in_ok-account.ensures.kept.quiet clean2 in
    let told = c.in_ok-size.ensures.made clean1 desk in
    let still = c.in_ok-account.ensures.kept.same clean2 told.left.desk in
    let kept = c.in_ok-account.ensures.found clean2 told.left.desk
    ∙ ap (λ (u : Tables). account u.heads c.args.customer.now) told.left.tables in
    let fewer : Account = c.without_message-fewer.result in
    on_ok_weaker c.make_owing.result
    (λ left. made_behind (made_owing c.args.customer.now fewer c.args.rest.now) old put new _ _
    told.left (made_after (made_owing c.args.customer.now fewer c.args.rest.now) put seen new _
    still left refl)
    (drop_first c.args.customer.now (tables_in old.now) c.args.rest.now c.args.serial c.in-Some.size
    c.in_ok-account.field-0 fewer (sym c.in-Some.is ∙ told.is) kept
    c.without_message-fewer.ensures))
    (c.make_owing.ensures.made clean (desk_after put seen still told.left.desk))

pub make_behind_line-returns-in_ok-more-clause-made
    : goal.make_behind_line-returns-in_ok-more-clause-made
make_behind_line-returns-in_ok-more-clause-made g t c clean desk =
    let old = state g.S.Store c.args.conn.now in
    let put = state g.S.Store c.put.new.conn in
    let seen = state g.S.Store c.account.new.conn in
    let new = state g.S.Store c.make_owing.new.conn in
    let clean2 = clean_before seen new c.make_owing.ensures.kept.quiet clean in
    let clean1 = clean_before put seen c.in_ok-kept.ensures.kept.quiet clean2 in
    let left_by : Leaves old put _ = c.in_ok-put.ensures.made clean1 desk in
    let still = c.in_ok-kept.ensures.kept.same clean2 left_by.desk in
    let kept = c.in_ok-kept.ensures.found clean2 left_by.desk
    ∙ ap (λ (u : Tables). account u.heads c.args.customer.now) left_by.tables in
    let more : Account = c.in_ok-more.more in
    on_ok_weaker c.make_owing.result
    (λ left. made_behind (made_owing c.args.customer.now more c.args.rest.now) old put new _ _
    left_by (made_after (made_owing c.args.customer.now more c.args.rest.now) put seen new _ still
    left refl)
    (line_first c.args.customer.now (tables_in old.now) c.args.rest.now c.args.line.now
    c.in_ok-kept.kept more (sym (c.in_ok-put.ensures.told clean1 desk) ∙ c.if-branch.false) kept
    c.in_ok-more.ensures))
    (c.make_owing.ensures.made clean (desk_after put seen still left_by.desk))

pub make_behind_head-returns-clause-made : goal.make_behind_head-returns-clause-made
make_behind_head-returns-clause-made g t c clean desk =
    let old = state g.S.Store c.args.conn.now in
    let mid = state g.S.Store c.account.new.conn in
    let new = state g.S.Store c.make_owing.new.conn in
    let was = clean_before mid new c.make_owing.ensures.kept.quiet clean in
    let same = c.in_ok-kept.ensures.kept.same was desk in
    on_ok_weaker c.make_owing.result
    (λ left. made_after (made_owing c.args.customer.now
    (record c.in_ok-kept.kept { head = c.args.head }) c.args.rest.now) old mid new _ same left
    (head_first c.args.customer.now (tables_in old.now) c.args.rest.now c.args.head
    c.in_ok-kept.kept (c.in_ok-kept.ensures.found was desk)))
    (c.make_owing.ensures.made clean (desk_after old mid same desk))

pub make_owing_from-returns-in-PutHead-clause-made
    : goal.make_owing_from-returns-in-PutHead-clause-made
make_owing_from-returns-in-PutHead-clause-made g t c clean desk =
    let old = state g.S.Store c.args.conn.now in
    subst (λ u. OnOk c.make_owing.result (Leaves old (state g.S.Store c.make_owing.new.conn) u))
    (head_then c.args.customer.now c.args.account (tables_in old.now) c.in-PutHead.head
    c.args.rest.now
    ∙ ap (λ (x : Change). made_owing c.args.customer.now c.args.account (x ∷ c.args.rest.now)
    (tables_in old.now)) (sym c.in-PutHead.is))
    (c.make_owing.ensures.made clean desk)

pub make_owing_from-returns-in_ok-after-in-PutMessage-clause-made
    : goal.make_owing_from-returns-in_ok-after-in-PutMessage-clause-made
make_owing_from-returns-in_ok-after-in-PutMessage-clause-made g t c clean desk =
    let old = state g.S.Store c.args.conn.now in
    let put = state g.S.Store c.put_uncounted.new.conn in
    let new = state g.S.Store c.make_owing-in-PutMessage.new.conn in
    let was = clean_before put new c.make_owing-in-PutMessage.ensures.kept.quiet clean in
    let told = c.in_ok-before-in-PutMessage.ensures.made was desk in
    let after : Account = c.in_ok-after-in-PutMessage.after in
    on_ok_weaker c.make_owing-in-PutMessage.result
    (λ left. made_behind (made_owing c.args.customer.now after c.args.rest.now) old put new _ _
    told.left left
    (put_then c.args.customer.now c.args.account (tables_in old.now) c.in-PutMessage.message
    c.args.rest.now after c.in_ok-before-in-PutMessage.before
    c.in_ok-after-in-PutMessage.ensures told.is
    ∙ ap (λ (x : Change). made_owing c.args.customer.now c.args.account (x ∷ c.args.rest.now)
    (tables_in old.now)) (sym c.in-PutMessage.is)))
    (c.make_owing-in-PutMessage.ensures.made clean told.left.desk)

pub make_owing_from-returns-in_ok-before-in-DropMessage-clause-made
    : goal.make_owing_from-returns-in_ok-before-in-DropMessage-clause-made
make_owing_from-returns-in_ok-before-in-DropMessage-clause-made g t c clean desk =
    let old = state g.S.Store c.args.conn.now in
    let put = state g.S.Store c.drop_uncounted.new.conn in
    let new = state g.S.Store c.make_owing-in-DropMessage.new.conn in
    let was = clean_before put new c.make_owing-in-DropMessage.ensures.kept.quiet clean in
    let told = c.in_ok-before-in-DropMessage.ensures.made was desk in
    let after : Account = c.without_size-after.result in
    on_ok_weaker c.make_owing-in-DropMessage.result
    (λ left. made_behind (made_owing c.args.customer.now after c.args.rest.now) old put new _ _
    told.left left
    (drop_then c.args.customer.now c.args.account (tables_in old.now) c.in-DropMessage.serial
    c.args.rest.now after c.in_ok-before-in-DropMessage.before c.without_size-after.ensures told.is
    ∙ ap (λ (x : Change). made_owing c.args.customer.now c.args.account (x ∷ c.args.rest.now)
    (tables_in old.now)) (sym c.in-DropMessage.is)))
    (c.make_owing-in-DropMessage.ensures.made clean told.left.desk)

pub make_owing_from-returns-in_ok-after-in-PutLine-clause-made
    : goal.make_owing_from-returns-in_ok-after-in-PutLine-clause-made
make_owing_from-returns-in_ok-after-in-PutLine-clause-made g t c clean desk =
    let old = state g.S.Store c.args.conn.now in
    let put = state g.S.Store c.put.new.conn in
    let new = state g.S.Store c.make_owing-in-PutLine.new.conn in
    let was = clean_before put new c.make_owing-in-PutLine.ensures.kept.quiet clean in
    let left_by : Leaves old put _ = c.in_ok-had-in-PutLine.ensures.made was desk in
    let after : Account = c.in_ok-after-in-PutLine.after in
    on_ok_weaker c.make_owing-in-PutLine.result
    (λ left. made_behind (made_owing c.args.customer.now after c.args.rest.now) old put new _ _
    left_by left
    (line_then c.args.customer.now c.args.account (tables_in old.now) c.in-PutLine.line
    c.args.rest.now after c.in_ok-had-in-PutLine.had c.in_ok-after-in-PutLine.ensures
    (c.in_ok-had-in-PutLine.ensures.told was desk)
    ∙ ap (λ (x : Change). made_owing c.args.customer.now c.args.account (x ∷ c.args.rest.now)
    (tables_in old.now)) (sym c.in-PutLine.is)))
    (c.make_owing-in-PutLine.ensures.made clean left_by.desk)
