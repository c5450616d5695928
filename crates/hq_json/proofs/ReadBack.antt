-- Refusals read back from their texts as they were.
use Rattle.std.proofs.Common.{◌≡◌, ℕ, ◌<◌, ◌≤◌, ◌^◌, List, [], ◌∷◌, Bool, true, false, Some}
use Rattle.std.proofs.Common.{option_and_then, codes, decimal, refl, sym, ap, ◌∙◌, arith}
use Rattle.std.proofs.Common.{append-nil}
use Rattle.std.specs.Prelude.{IsUtf8}
use Rattle.std.proofs.lemmas.Fmt.{IsAscii-decimal}
use Rattle.std.proofs.lemmas.Str.{IsUtf8-append, IsUtf8-from_ascii, IsUtf8-nil}
use Rattle.json.specs.Json as json
use Rattle.json.specs.Lex.{tokens}
use Rattle.json.specs.Print.{quoted, ArePrintable}
use Rattle.json.specs.Tree.{json_tokens, depth}
use Rattle.json.proofs.Printed.Decimals.{IsNumber-decimal}
use Rattle.json.proofs.Printed.Tokens.{tokens-print}
use Rattle.json.proofs.Printed.Trees.{value-json_tokens}
use Rattle.json.proofs.Printed.Utf8.{are_ascii, IsUtf8-are_ascii, IsUtf8-quoted}
use Rattle.serde_json.specs.Data.{Data, string, object, Members, no_members, member}
use Rattle.serde_json.specs.Read.{max_depth, of_json, read}
use Rattle.serde_json.specs.Written.{outline, compact_text, members_text, comma_if}
use Rattle.serde_json.proofs.Numbers.{number_of-decimal}
use Rattle.serde_json.proofs.Texts.{print-outline}
use Rattle.hq_values.specs.Refusals.{refusal_number, refusal_name}
use Rattle.hq_values.specs.declared.failure.Refusal.{Refusal}
use Rattle.hq_values.specs.declared.failure.Refusal.TheVariants.{AttemptAhead, BadCsv}
use Rattle.hq_values.specs.declared.failure.Refusal.TheVariants.{DoubledPattern}
use Rattle.hq_values.specs.declared.failure.Refusal.TheVariants.{BadDirectory, DoubledName}
use Rattle.hq_values.specs.declared.failure.Refusal.TheVariants.{DoubledKey}
use Rattle.hq_rules.specs.declared.answer.Answer.{Answer}
use Rattle.hq_rules.specs.declared.answer.Answer.TheVariants.{Refused}
use Rattle.hq_json.specs.Objects.{count}
use Rattle.hq_json.specs.ReadBack.{ReadsBack}
use Rattle.hq_json.specs.Replies.{answer_text, refusal_data, refusal_json, refused_at}
use Rattle.hq_json.specs.Replies.{refused_after}
use Rattle.hq_json.specs.Writing.{Tellable, DetailFits, AnswerReads}

-- ---- the text is read as what it was written for

read_back : (d : Data) → ArePrintable (json_tokens (outline d)) →
    depth (outline d) ≤ max_depth → of_json (outline d) ≡ Some d → read (compact_text d) ≡ Some d
read_back d printable shallow seen =
    let ts = json_tokens (outline d) in
    let same = ap tokens (sym (print-outline d)) ∙ tokens-print ts printable ∙ sym (append-nil ts)
    in
    ap (λ o. option_and_then of_json (option_and_then (λ p. json.if_last p.0 p.1) o))
    (ap (json.value max_depth) same ∙ value-json_tokens (outline d) max_depth [] shallow) ∙ seen

-- ---- the text is UTF-8

comma_utf8 : (later : Bool) → IsUtf8 (comma_if later)
comma_utf8 true = IsUtf8-are_ascii (44 ∷ []) refl
comma_utf8 false = IsUtf8-nil

member_utf8 : (later : Bool) (k : List ℕ) (d : Data) (ms : Members) → IsUtf8 k →
    IsUtf8 (compact_text d) → IsUtf8 (members_text true ms) →
    IsUtf8 (members_text later (member k d ms))
member_utf8 later k d ms key value rest = IsUtf8-append (comma_if later) _ (comma_utf8 later)
    (IsUtf8-append (quoted k) _ (IsUtf8-quoted k key)
    (IsUtf8-append (58 ∷ []) _ (IsUtf8-are_ascii (58 ∷ []) refl)
    (IsUtf8-append (compact_text d) (members_text true ms) value rest)))

count_member : (later : Bool) (k : List ℕ) (n : ℕ) (ms : Members) → are_ascii k ≡ true →
    n < 2 ^ 64 → IsUtf8 (members_text true ms) → IsUtf8 (members_text later (member k (count n) ms))
count_member later k n ms key h = member_utf8 later k (count n) ms (IsUtf8-are_ascii k key)
    (IsUtf8-from_ascii (decimal n) (IsAscii-decimal n h))

text_member : (k s : List ℕ) (ms : Members) → are_ascii k ≡ true → IsUtf8 s →
    IsUtf8 (members_text true ms) → IsUtf8 (members_text true (member k (string s) ms))
text_member k s ms key u = member_utf8 true k (string s) ms (IsUtf8-are_ascii k key)
    (IsUtf8-quoted s u)

object_utf8 : (ms : Members) → IsUtf8 (members_text false ms) → IsUtf8 (compact_text (object ms))
object_utf8 ms u = IsUtf8-append (123 ∷ []) _ (IsUtf8-are_ascii (123 ∷ []) refl) u

end_utf8 : IsUtf8 (members_text true no_members)
end_utf8 = IsUtf8-are_ascii (125 ∷ []) refl

-- ---- the three forms of refusals

abbrev Reads : Data → Type 0
Reads d = IsUtf8 (compact_text d) × (read (compact_text d) ≡ Some d)

plain_reads : (r : Refusal) → Tellable r → Reads (refusal_json r)
unfolding ArePrintable
plain_reads r can =
    let n = refusal_number r in
    let s = refusal_name r in
    let name = member (codes "name") (string s) no_members in (
      object_utf8 (member (codes "error") (count n) name)
          (count_member false (codes "error") n name refl can.0
          (text_member (codes "name") s no_members refl can.1 end_utf8)),
      read_back (refusal_json r) (tt, (tt, (IsNumber-decimal n can.0, (tt, (tt, (tt, tt))))))
          (omega arith) (rw (number_of-decimal n can.0)),
    )

row_reads : (r : Refusal) (row : ℕ) → Tellable r → row < 2 ^ 64 → Reads (refused_at r row)
unfolding ArePrintable
row_reads r row can fits =
    let n = refusal_number r in
    let s = refusal_name r in
    let place = member (codes "row") (count row) no_members in
    let name = member (codes "name") (string s) place in (
      object_utf8 (member (codes "error") (count n) name)
          (count_member false (codes "error") n name refl can.0
          (text_member (codes "name") s place refl can.1
          (count_member true (codes "row") row no_members refl fits end_utf8))),
      read_back (refused_at r row) (
        tt,
        (
          tt,
          (
            IsNumber-decimal n can.0,
            (
              tt,
              (
                tt,
                (
                  tt,
                  (IsNumber-decimal row fits, (tt, tt)),
                ),
              ),
            ),
          ),
        ),
      ) (omega arith)
          (rw (number_of-decimal n can.0, number_of-decimal row fits)),
    )

attempts_read : (r : Refusal) (attempts : ℕ) → Tellable r → attempts < 2 ^ 64 →
    Reads (refused_after r attempts)
unfolding ArePrintable
attempts_read r attempts can fits =
    let n = refusal_number r in
    let s = refusal_name r in
    let name = member (codes "name") (string s) no_members in
    let error = member (codes "error") (count n) name in (
      object_utf8 (member (codes "attempts") (count attempts) error)
          (count_member false (codes "attempts") attempts error refl fits
          (count_member true (codes "error") n name refl can.0
          (text_member (codes "name") s no_members refl can.1 end_utf8))),
      read_back (refused_after r attempts) (
        tt,
        (
          tt,
          (
            IsNumber-decimal attempts fits,
            (
              tt,
              (IsNumber-decimal n can.0, (tt, (tt, (tt, tt)))),
            ),
          ),
        ),
      ) (omega arith)
          (rw (number_of-decimal attempts fits, number_of-decimal n can.0)),
    )

refusal_reads : (r : Refusal) → Tellable r → DetailFits r → Reads (refusal_data r)
refusal_reads (AttemptAhead attempts) can fits = attempts_read (AttemptAhead attempts) attempts can
    fits
refusal_reads (BadCsv row) can fits = row_reads (BadCsv row) row can fits
refusal_reads (DoubledPattern row) can fits = row_reads (DoubledPattern row) row can fits
refusal_reads (BadDirectory row) can fits = row_reads (BadDirectory row) row can fits
refusal_reads (DoubledName row) can fits = row_reads (DoubledName row) row can fits
refusal_reads (DoubledKey row) can fits = row_reads (DoubledKey row) row can fits
refusal_reads r can fits = plain_reads r can

pub reads_back : (a : Answer) → AnswerReads a → ReadsBack a (answer_text a)
unfolding answer_text
reads_back (Refused r) can = refusal_reads r can.0 can.1
reads_back _ can = tt
