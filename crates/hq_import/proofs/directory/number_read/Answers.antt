use Rattle.std.proofs.Common.{◌≡◌, Some, None, IsTrue, sym, rules, ◌∙◌}
use Rattle.csv.specs.Records.{fields_of}
use Rattle.hq_rules.specs.Fields.{number_field}
use Rattle.hq_import.specs.Columns.{place, is_in}
use Rattle.hq_import.proofs.Limits.{number_is, number_over, no_number}
use Rattle.hq_import.proofs.directory.number_read.Goals as goal

pub returns-in_default : goal.returns-in_default
returns-in_default c =
    let none : number_field (place c.args.number) (fields_of c.args.record.now) ≡ None =
    search rules in
    no_number c.args.row (fields_of c.args.record.now) c.args.number none ∙ search rules

pub returns-then-not-allows : goal.returns-then-not-allows
returns-then-not-allows c =
    let found : number_field (place c.args.number) (fields_of c.args.record.now)
    ≡ Some c.in-Some.value = search rules in
    number_over c.args.row (fields_of c.args.record.now) c.args.number c.in-Some.value
    (sym c.if-not-allows.ensures) found ∙ search rules

pub returns : goal.returns
returns c =
    let found : number_field (place c.args.number) (fields_of c.args.record.now)
    ≡ Some c.in-Some.value = search rules in
    let limits : IsTrue (is_in c.args.number c.in-Some.value) = sym c.if-not-allows.ensures in (
      limits,
      number_is c.args.row (fields_of c.args.record.now) c.args.number c.in-Some.value limits found,
    )
