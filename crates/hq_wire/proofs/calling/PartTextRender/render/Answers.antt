use Rattle.std.proofs.Common.{◌≡◌, true, rules, subst, sym}
use Rattle.hq_json.specs.PartRoom.{HasRoom, is_for}
use Rattle.hq_json.specs.Parts.{IsObject}
use Rattle.hq_json.proofs.PartTexts.{fits}
use Rattle.hq_wire.proofs.calling.PartTextRender.render.Goals as goal

pub returns-clause-fits : goal.returns-clause-fits
returns-clause-fits g c =
    let of = c.args.self.now.each in
    let taken : is_for of c.args.answer.now ≡ true = search rules in
    subst (λ bytes. HasRoom of bytes × IsObject bytes) (sym c.in_ok-bytes.ensures)
    (fits c.as_bytes-name.result.now c.as_bytes-name.ensures.known of c.args.answer.now taken
    c.tells_numbers.ensures)
