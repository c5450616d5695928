-- A head row that is still to be written: what the account that it is to have comes to, change by
-- change.
use Rattle.std.proofs.Common.{◌≡◌, ℕ, List, ◌∷◌, Bool, nat_eq, true, false, cond, sym, refl, ap}
use Rattle.std.proofs.Common.{◌∙◌, Some, None, Option}
use Rattle.std.specs.Prelude.{option_map, is_some}
use Rattle.std.specs.Cmp.Lexicographic.{nat_list_cmp_total}
use Rattle.std.specs.FinMap.{get, insert, get-insert}
use Rattle.hq_kept.specs.declared.account.Counts.{Counts}
use Rattle.hq_kept.specs.declared.account.Head.{Head}
use Rattle.hq_kept.specs.declared.action.Action.{Action}
use Rattle.hq_kept.specs.declared.message.Message.{Message}
use Rattle.hq_kept.specs.declared.pattern.Line.{Line}
use Rattle.hq_tables.specs.declared.account.Account.{Account}
use Rattle.hq_tables.specs.declared.change.Change.{Change}
use Rattle.hq_tables.specs.declared.change.Change.TheVariants.{PutHead, PutMessage, DropMessage}
use Rattle.hq_tables.specs.declared.change.Change.TheVariants.{PutLine}
use Rattle.hq_tables.specs.Tables.{Tables, Row, account, recounted, headed, counted, with_message}
use Rattle.hq_tables.specs.Tables.{without_message, with_line, uncounted_message, write}
use Rattle.hq_isolation.proofs.Accounts.{Heads, or_opening, is_headed, is_counted, at_size}
use Rattle.hq_isolation.proofs.Accounts.{at_none}
use Rattle.hq_owned.specs.Owned.{given}
use Rattle.hq_owned.proofs.Parts.{tied_true}
use Rattle.hq_sql.specs.Heads.{with_account}
use Rattle.hq_sql_lines.specs.Lines.{line_row, tables_with_line}
use Rattle.hq_sql_changes.specs.Accounts.{resized, counted_at, made_by, made_by_all, made_owing}
use Rattle.hq_sql_changes.specs.Accounts.{size_at, sized, unsized, with_rows, without_rows}
use Rattle.hq_sql_changes.specs.Accounts.{lined}
use Rattle.hq_sql_changes.proofs.Recounted.{put_twice}

-- ---- a head row that is written behind another

there : (heads : Heads) (c : List ℕ) (a : Account) → account (insert heads c a) c ≡ a
there heads c a = ap or_opening (get-insert nat_list_cmp_total heads c a c
    ∙ ap (λ b. cond b (Some a) (get heads c)) (tied_true nat_list_cmp_total c))

counted_over : (f : Counts → Counts) (c : List ℕ) (heads : Heads) (a : Account) →
    counted f c (insert heads c a) ≡ insert heads c (recounted f a)
unfolding counted
counted_over f c heads a = put_twice heads c a _
    ∙ ap (λ (x : Account). insert heads c (recounted f x)) (there heads c a)

headed_over : (c : List ℕ) (head : Head) (heads : Heads) (a : Account) →
    headed c head (insert heads c a) ≡ insert heads c (record a { head = head })
unfolding headed
headed_over c head heads a = put_twice heads c a _
    ∙ ap (λ (x : Account). insert heads c (record x { head = head })) (there heads c a)

resized_over : (c : List ℕ) (before size : ℕ) (heads : Heads) (a : Account) →
    resized c before size (insert heads c a) ≡ insert heads c
    (recounted (with_message size) (recounted (without_message before) a))
resized_over c before size heads a =
    ap (counted (with_message size) c) (counted_over (without_message before) c heads a)
    ∙ counted_over (with_message size) c heads (recounted (without_message before) a)

-- ---- each change

module _ (c : List ℕ) (a : Account) (t : Tables) where
  head_owed : (head : Head) → made_by c (PutHead head) (with_account c a t) ≡ with_account c
      (record a { head = head }) t
  head_owed head = ap (λ (heads : Heads). record t { heads = heads }) (headed_over c head t.heads a)

  put_heads : (serial size : ℕ) → counted_at c serial size (with_account c a t) ≡ insert t.heads c
      (sized size a (size_at c serial t))
  put_heads serial size = cases (get t.messages (c, serial)) where
    by_size : (r : Row) (b : Bool) → cond b (insert t.heads c a)
        (resized c r.size size (insert t.heads c a)) ≡ insert t.heads c
        (cond b a (recounted (with_message size) (recounted (without_message r.size) a)))
    by_size r true = refl
    by_size r false = resized_over c r.size size t.heads a

    cases : (o : Option Row) → given (counted (with_message size) c (insert t.heads c a))
        (λ (r : Row). cond (nat_eq r.size size) (insert t.heads c a)
        (resized c r.size size (insert t.heads c a))) o ≡ insert t.heads c
        (sized size a (option_map (λ (r : Row). r.size) o))
    cases None = counted_over (with_message size) c t.heads a
    cases (Some r) = by_size r (nat_eq r.size size)

  put_owed : (m : Message) → made_by c (PutMessage m) (with_account c a t) ≡ with_account c
      (sized m.size a (size_at c m.serial t)) (with_rows c m t)
  put_owed m = ap (λ (heads : Heads). record (write c (PutMessage m) t) { heads = heads })
      (put_heads m.serial m.size)

  drop_heads : (serial : ℕ) → uncounted_message c serial (with_account c a t) ≡ insert t.heads c
      (unsized a (size_at c serial t))
  drop_heads serial = cases (get t.messages (c, serial)) where
    cases : (o : Option Row) → given (insert t.heads c a)
        (λ (r : Row). counted (without_message r.size) c (insert t.heads c a)) o ≡ insert t.heads c
        (unsized a (option_map (λ (r : Row). r.size) o))
    cases None = refl
    cases (Some r) = counted_over (without_message r.size) c t.heads a

  drop_owed : (serial : ℕ) → made_by c (DropMessage serial) (with_account c a t) ≡ with_account c
      (unsized a (size_at c serial t)) (without_rows c serial t)
  drop_owed serial = ap (λ (heads : Heads). record (write c (DropMessage serial) t) {
    heads = heads;
  }) (drop_heads serial)

  line_heads : (line : Line) → given (counted with_line c (insert t.heads c a))
      (λ _. insert t.heads c a) (get t.lines (c, line.pattern)) ≡ insert t.heads c
      (lined a (is_some (get t.lines (c, line.pattern))))
  line_heads line = cases (get t.lines (c, line.pattern)) where
    cases : (o : Option Action) → given (counted with_line c (insert t.heads c a))
        (λ _. insert t.heads c a) o ≡ insert t.heads c (lined a (is_some o))
    cases None = counted_over with_line c t.heads a
    cases (Some action) = refl

  line_owed : (line : Line) → made_by c (PutLine line) (with_account c a t) ≡ with_account c
      (lined a (is_some (get t.lines (c, line.pattern)))) (tables_with_line (line_row c line) t)
  line_owed line = ap (λ (heads : Heads). record (write c (PutLine line) t) { heads = heads })
      (line_heads line)

  -- ---- and all changes from it on

  pub head_then : (head : Head) (rest : List Change) →
      made_owing c (record a { head = head }) rest t ≡ made_owing c a (PutHead head ∷ rest) t
  head_then head rest = ap (made_by_all c rest) (sym (head_owed head))

  pub put_then : (m : Message) (rest : List Change) (after : Account) (before : Option ℕ) →
      after ≡ sized m.size a before → before ≡ size_at c m.serial t →
      made_owing c after rest (with_rows c m t) ≡ made_owing c a (PutMessage m ∷ rest) t
  put_then m rest after before e h =
      ap (λ (x : Account). made_owing c x rest (with_rows c m t)) (e ∙ ap (sized m.size a) h)
      ∙ ap (made_by_all c rest) (sym (put_owed m))

  pub drop_then : (serial : ℕ) (rest : List Change) (after : Account) (before : Option ℕ) →
      after ≡ unsized a before → before ≡ size_at c serial t →
      made_owing c after rest (without_rows c serial t) ≡ made_owing c a (DropMessage serial ∷ rest)
      t
  drop_then serial rest after before e h =
      ap (λ (x : Account). made_owing c x rest (without_rows c serial t)) (e ∙ ap (unsized a) h)
      ∙ ap (made_by_all c rest) (sym (drop_owed serial))

  pub line_then : (line : Line) (rest : List Change) (after : Account) (had : Bool) →
      after ≡ lined a had → had ≡ is_some (get t.lines (c, line.pattern)) →
      made_owing c after rest (tables_with_line (line_row c line) t) ≡ made_owing c a
      (PutLine line ∷ rest) t
  line_then line rest after had e h =
      ap (λ (x : Account). made_owing c x rest (tables_with_line (line_row c line) t))
      (e ∙ ap (lined a) h) ∙ ap (made_by_all c rest) (sym (line_owed line))

-- ---- the first account that is owed

none_some : {A : Type 0} (x : A) → ◌≡◌ {A = Option A} None (Some x) → ⊥
none_some x e = cc

none_at : {B : Type 0} (b : B) (f : Row → B) (o : Option Row) →
    None ≡ option_map (λ (r : Row). r.size) o → b ≡ given b f o
none_at b f None e = refl
none_at b f (Some r) e = absurd (none_some r.size e)

module _ (c : List ℕ) (t : Tables) (rest : List Change) where
  pub head_first : (head : Head) (kept : Account) → kept ≡ account t.heads c →
      made_owing c (record kept { head = head }) rest t ≡ made_by_all c (PutHead head ∷ rest) t
  head_first head kept e = ap (λ (heads : Heads). made_by_all c rest (record t { heads = heads }))
      (is_headed c t.heads head kept e)

  abbrev dropped : ℕ → Heads → Tables
  dropped serial heads = made_by_all c rest (record (write c (DropMessage serial) t) {
    heads = heads;
  })

  -- no message was there
  pub drop_none : (serial : ℕ) → None ≡ size_at c serial t →
      made_by_all c rest (without_rows c serial t) ≡ made_by_all c (DropMessage serial ∷ rest) t
  drop_none serial e = ap (dropped serial)
      (none_at t.heads (λ (r : Row). counted (without_message r.size) c t.heads)
      (get t.messages (c, serial)) e)

  -- one of this size was
  pub drop_first : (serial size : ℕ) (kept fewer : Account) → Some size ≡ size_at c serial t →
      kept ≡ account t.heads c → fewer ≡ recounted (without_message size) kept →
      made_owing c fewer rest (without_rows c serial t) ≡ made_by_all c (DropMessage serial ∷ rest)
      t
  drop_first serial size kept fewer e k f =
      ap (dropped serial) (is_counted (without_message size) c t.heads kept fewer k f
      ∙ at_size t.heads (λ n. counted (without_message n) c t.heads)
      (get t.messages (c, serial)) size e)

  -- a line was put whose pattern had none
  pub line_first : (line : Line) (kept more : Account) →
      is_some (get t.lines (c, line.pattern)) ≡ false → kept ≡ account t.heads c →
      more ≡ recounted with_line kept → made_owing c more rest
      (tables_with_line (line_row c line) t) ≡ made_by_all c (PutLine line ∷ rest) t
  line_first line kept more e k m = ap (λ (heads : Heads). made_by_all c rest
      (record (write c (PutLine line) t) { heads = heads }))
      (is_counted with_line c t.heads kept more k m
      ∙ at_none (counted with_line c t.heads) (λ _. t.heads) (get t.lines (c, line.pattern)) e)
