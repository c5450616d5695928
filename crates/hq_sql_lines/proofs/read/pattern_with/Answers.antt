use Rattle.std.proofs.Common.{◌≡◌, sym, ◌∙◌}
use Rattle.std.specs.Cmp.Lexicographic.{bytes_decides}
use Rattle.hq_sql_lines.proofs.Backs.{parsed_class}
use Rattle.hq_sql_lines.proofs.read.pattern_with.Goals as goal

pub returns-then-eq : goal.returns-then-eq
returns-then-eq g c =
    let class = parsed_class c.args.class c.args.text.now c.in-Ok.pattern c.in-Ok.ensures in
    let text : c.in-Ok.pattern.1 ≡ c.args.text.now = sym c.as_str.ensures
    ∙ (bytes_decides c.as_str.result.now c.args.text.now).0 (sym c.eq.ensures ∙ c.if-eq.true) in
    λ i. (class i, text i)
