-- The notice at a number is that of the first row that has it.
use Rattle.std.proofs.Common.{◌≡◌, ℕ, Bool, true, false, cond, List, [], ◌∷◌}
use Rattle.std.proofs.Common.{refl, sym, ap, ◌∙◌, Some, None, Option}
use Rattle.std.specs.Prelude.{option_map}
use Rattle.std.specs.List as list
use Rattle.std.proofs.lemmas.Map.Views.{tells_apart}
use Rattle.std.specs.Ordering.{eq_by_cmp}
use Rattle.std.specs.FinMap.{get}
use Rattle.hq_tables.specs.Tables.{notice_cmp, Noted, noted_of, notice_of}
use Rattle.hq_owned.proofs.Lists.{get_table}
use Rattle.hq_rows.specs.declared.rows.NoticeRow.{NoticeRow}
use Rattle.hq_rows.specs.Listed.{notice_key, notice_value, notices_of}
use Rattle.hq_rows.specs.Lookups.{is_notice}
use Rattle.hq_tables.proofs.Orders.{message_total, message_exact}

noted_found : (rows : List NoticeRow) (c : List ℕ) (number : ℕ) →
    option_map notice_value (list.find (is_notice c number) rows) ≡ get (notices_of rows) (
      c,
      number,
    )
unfolding is_notice
noted_found rows c number = sym
    (get_table message_total message_exact notice_key notice_value rows (c, number))

-- a row that is found has that number
whole_notice : (c : List ℕ) (number : ℕ) (rows : List NoticeRow) →
    option_map (λ (r : NoticeRow). r.notice) (list.find (is_notice c number) rows) ≡ option_map
    (λ (r : NoticeRow). notice_of (number, noted_of r.notice)) (list.find (is_notice c number) rows)
unfolding is_notice
whole_notice c number [] = refl
whole_notice c number (r ∷ rows) =
    cases (eq_by_cmp notice_cmp (c, number) (r.customer, r.notice.number)) refl
    (whole_notice c number rows) where
      rest : Option NoticeRow
      rest = list.find (is_notice c number) rows

      cases : (b : Bool) → eq_by_cmp notice_cmp (c, number) (r.customer, r.notice.number) ≡ b →
          option_map (λ (x : NoticeRow). x.notice) rest ≡ option_map
          (λ (x : NoticeRow). notice_of (number, noted_of x.notice)) rest
          → option_map (λ (x : NoticeRow). x.notice) (cond b (Some r) rest) ≡ option_map
          (λ (x : NoticeRow). notice_of (number, noted_of x.notice)) (cond b (Some r) rest)
      cases true e later = ap (λ (k : ℕ). Some (notice_of (k, noted_of r.notice)))
          (sym (ap (λ (k : List ℕ × ℕ). k.1)
          (tells_apart message_exact (c, number) (r.customer, r.notice.number) e)))
      cases false e later = later

pub notice_found : (rows : List NoticeRow) (c : List ℕ) (number : ℕ) →
    option_map (λ (r : NoticeRow). r.notice) (list.find (is_notice c number) rows) ≡ option_map
    (λ (n : Noted). notice_of (number, n)) (get (notices_of rows) (c, number))
notice_found rows c number =
    whole_notice c number rows
    ∙ sym (option_map-map (λ (n : Noted). notice_of (number, n)) notice_value
    (list.find (is_notice c number) rows))
    ∙ ap (option_map (λ (n : Noted). notice_of (number, n))) (noted_found rows c number) where
      option_map-map : {A B C : Type 0} (g : B → C) (f : A → B) (o : Option A) →
          option_map g (option_map f o) ≡ option_map (λ a. g (f a)) o
      option_map-map g f None = refl
      option_map-map g f (Some a) = refl
