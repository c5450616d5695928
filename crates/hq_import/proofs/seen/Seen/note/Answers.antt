use Rattle.std.proofs.Common.{◌∙◌, ap, cond, true, string_bytes, bytes_eq}
use Rattle.std.proofs.lemmas.Map.Text.{btree_set_updates_text}
use Rattle.hq_import.specs.Seen.{has}
use Rattle.hq_import.proofs.Seeing.{noted_text}
use Rattle.hq_import.proofs.seen.Seen.note.Goals as goal

pub returns-clause-noted : goal.returns-clause-noted
returns-clause-noted g c other =
    let text = c.in_ok-text.ensures.ok in
    let updates =
    btree_set_updates_text (string_bytes c.in_ok-text.text) c.args.self.now.texts
    c.insert.new.to true c.in_ok-is_new.ensures.values other in
    noted_text c.args.text.now other (has other c.args.self.now) _ (updates
    ∙ ap (λ t. cond (bytes_eq t other) true (has other c.args.self.now)) text)
