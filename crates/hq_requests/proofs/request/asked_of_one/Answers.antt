use Rattle.std.proofs.Common.{◌≡◌, Ok, ap, sym, ◌∙◌, option_map, string_bytes}
use Rattle.hq_requests.specs.Directories.{held_on, held_seen}
use Rattle.hq_requests.specs.Routes.{last_segment}
use Rattle.hq_requests.proofs.request.asked_of_one.Goals as goal

pub returns-clause-caller : goal.returns-clause-caller
returns-clause-caller g c =
    let d = c.args.directory.now in
    let segment = c.last_segment-segment.ensures ∙ ap last_segment c.as_str.ensures.value in
    let found : Ok (held_seen c.in_ok-holder.holder) ≡ held_on d c.args.role
    (option_map (λ k. k.now) c.key_of.result) c.last_segment-segment.result.now =
    c.in_ok-holder.ensures.seen in
    let asked : held_on d c.args.role (option_map (λ k. k.now) c.key_of.result)
    c.last_segment-segment.result.now ≡ held_on d c.args.role
    (option_map string_bytes c.args.exchange.now.key)
    (last_segment (string_bytes c.args.exchange.now.path)) =
    λ i. held_on d c.args.role (c.key_of.ensures i) (segment i) in
    (c.in_ok-holder.holder.right, sym (found ∙ asked))
