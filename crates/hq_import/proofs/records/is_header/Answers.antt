use Rattle.std.proofs.Common.{◌≡◌, [], get_or, bytes_eq, None, sym, ap, ◌∙◌, rules}
use Rattle.std.proofs.lemmas.List.{drop_more}
use Rattle.csv.specs.Records.{fields_of, field_at}
use Rattle.hq_import.proofs.Headers.{same_goes_on, other_decides, none_decides, told_apart}
use Rattle.hq_import.proofs.Headers.{told_same}
use Rattle.hq_import.proofs.records.is_header.Goals as goal

pub returns-in_default : goal.returns-in_default
returns-in_default c =
    let names = c.args.names.now in
    let place = c.loop-place.place in
    let nothing : field_at (fields_of c.args.header.now) place ≡ None =
    search (rules, c.get.ensures.value, c.in_default.is) in
    sym (none_decides names (fields_of c.args.header.now) place _
    (drop_more names place (record { ref_ptr = (0, 0); now = [] }) c.loop-place-test.true)
    nothing) ∙ c.loop-place.invariant.left

pub returns-then-ne : goal.returns-then-ne
returns-then-ne c =
    let names = c.args.names.now in
    let place = c.loop-place.place in
    let field = c.in-Some.field.now in
    let other = ap (λ n. bytes_eq n field) (sym c.as_bytes.ensures.value)
    ∙ told_apart _ (sym c.ne.ensures ∙ c.if-ne.true) in
    sym (other_decides names (fields_of c.args.header.now) place
    (get_or names place (record { ref_ptr = (0, 0); now = [] })) field
    (drop_more names place (record { ref_ptr = (0, 0); now = [] }) c.loop-place-test.true)
    (sym c.in-Some.ensures.value) other) ∙ c.loop-place.invariant.left

pub loop-place-preserved : goal.loop-place-preserved
loop-place-preserved c =
    let names = c.args.names.now in
    let place = c.loop-place.place in
    let field = c.in-Some.field.now in
    let same = ap (λ n. bytes_eq n field) (sym c.as_bytes.ensures.value)
    ∙ told_same _ (sym c.ne.ensures ∙ c.if-ne.false) in
    record {
      left = same_goes_on names (fields_of c.args.header.now) place
          (get_or names place (record { ref_ptr = (0, 0); now = [] })) field
          (drop_more names place (record { ref_ptr = (0, 0); now = [] }) c.loop-place-test.true)
          (sym c.in-Some.ensures.value) same ∙ c.loop-place.invariant.left;
      same = c.loop-place.invariant.same;
    }
