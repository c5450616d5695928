-- A page of which one entry more was asked for.
use Rattle.std.proofs.Common.{◌≡◌, ℕ, ◌+◌, Bool, List, length, take, min, ap, ◌∙◌, arith}
use Rattle.std.specs.Prelude.{nat_lt, if◌then◌else◌}
use Rattle.std.proofs.lemmas.Bool.Decides.{nat_tests}
use Rattle.std.proofs.lemmas.List.{take-take, length-take}
use Rattle.hq_kept.specs.declared.pattern.Line.{Line}
use Rattle.hq_kept.specs.declared.message.Message.{Message}
use Rattle.hq_kept.specs.declared.end.End.{End}
use Rattle.hq_kept.specs.declared.notice.Notice.{Notice}
use Rattle.hq_kept.specs.declared.pattern.Class.{Class}
use Rattle.hq_rules.specs.Histories.{history_page, find_history, is_meant, last_number}
use Rattle.std.proofs.Common.{[], None, filter}
use Rattle.hq_rules.specs.declared.answer.Answer.TheVariants as answer
use Rattle.hq_rules.specs.AccessLines.{line_page}
use Rattle.hq_rules.specs.Messages.{page}
use Rattle.hq_rules.specs.Notices.{notice_page}
use Rattle.hq_rules.specs.Outcomes.{due_page}

more_is : (l n : ℕ) → nat_lt l (min (l + 1) n) ≡ nat_lt l n
more_is l n = grind (arith, nat_tests)

-- the first l, and whether one follows
page_is : {X A : Type 0} (f : List X → Bool → A) (l : ℕ) (xs ys : List X) → ys ≡ take (l + 1) xs →
    f (take l ys) (nat_lt l (length ys)) ≡ f (take l xs) (nat_lt l (length xs))
page_is f l xs ys e =
    ap (λ zs. f (take l zs) (nat_lt l (length zs))) e
    ∙ (λ i. f (take-take l (l + 1) xs (omega arith) i)
    ((ap (nat_lt l) (length-take (l + 1) xs) ∙ more_is l (length xs)) i))

-- the page of all is that of the first hundred and one
pub page_of_more : (ms found : List Message) → found ≡ take 101 ms → page found ≡ page ms
page_of_more ms found e = page_is (λ shown more. record {
  answer = answer.Listed shown more;
  changes = [];
}) 100 ms found e

pub due_page_of_more : (ms found : List Message) → found ≡ take 101 ms →
    due_page found ≡ due_page ms
due_page_of_more ms found e = page_is (λ shown more. record {
  answer = answer.DueListed shown more;
  changes = [];
}) 100 ms found e

pub line_page_of_more : (ls found : List Line) → found ≡ take 101 ls →
    line_page found ≡ line_page ls
line_page_of_more ls found e = page_is (λ shown more. record {
  answer = answer.LinesListed shown more;
  changes = [];
}) 100 ls found e

pub notice_page_of_more : (ns found : List Notice) → found ≡ take 101 ns →
    notice_page found ≡ notice_page ns
notice_page_of_more ns found e = page_is (λ shown more. record {
  answer = answer.NoticesListed shown more;
  changes = [];
}) 100 ns found e

pub history_page_of_more : (es found : List End) → found ≡ take 101 es →
    history_page found ≡ history_page es
history_page_of_more es found e = page_is (λ shown more. record {
  answer = answer.HistoryListed shown more;
  changes = [];
}) 100 es found e

-- a search in the first thousand and one is that in all
pub find_history_of_more : (pattern : Class × List ℕ) (es found : List End) → found ≡ take 1001 es →
    find_history pattern found ≡ find_history pattern es
find_history_of_more pattern es found e = page_is (λ shown more.
    let meant = filter (is_meant pattern) shown in
    record {
      answer = answer.HistoryFound (take 100 meant) (if nat_lt 100 (length meant) then
          last_number (take 100 meant) else (if more then last_number shown else None));
      changes = [];
    }) 1000 es found e
