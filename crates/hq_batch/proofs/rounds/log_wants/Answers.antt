use Rattle.std.proofs.Common.{◌≡◌, ◌+◌, ◌∙◌, ◌∷◌, ◌++◌, [], map, take, sym, ap, subst}
use Rattle.std.proofs.lemmas.List.{map_push, take_all, take_more}
use Rattle.hq_batch.specs.Steps.{wanted_entry}
use Rattle.hq_batch.proofs.Lined.{want_told}
use Rattle.hq_batch.proofs.rounds.log_wants.Goals as goal

pub loop-asked-init : goal.loop-asked-init
loop-asked-init g c = g.L.Log.none_told c.args.log.now

pub loop-asked-preserved : goal.loop-asked-preserved
loop-asked-preserved g c =
    let i = c.loop-asked.asked-index in
    let all = c.args.asked.now in
    let item = c.asked-item.result in
    let d = c.args.directory.now in
    let more : take (i + 1) all ≡ take i all ++ item ∷ [] =
    take_more all i item c.loop-asked-test.true ∙ ap (λ x. take i all ++ x ∷ [])
    (sym c.asked-item.is) in
    let entry = want_told d item c.fault_reply-want.result c.fault_reply-want.ensures.told
    (c.fault_reply-want.ensures.whose ∙ c.caller_named.ensures) in
    subst (λ es. g.L.Log.tells c.args.log.now es c.replied.new.self)
    (sym (ap (map (wanted_entry d)) more ∙ map_push (wanted_entry d) (take i all) item))
    (g.L.Log.told_on c.args.log.now c.loop-asked.log c.replied.new.self
    (map (wanted_entry d) (take i all)) (wanted_entry d item ∷ []) c.loop-asked.invariant
    (subst (λ e. g.L.Log.tells c.loop-asked.log (e ∷ []) c.replied.new.self) entry
    c.replied.ensures))

pub returns : goal.returns
returns g c =
    let i = c.loop-asked.asked-index in
    let all = c.args.asked.now in
    subst (λ xs. g.L.Log.tells c.args.log.now (map (wanted_entry c.args.directory.now) xs)
    c.loop-asked.log) (take_all i all c.loop-asked-test.false) c.loop-asked.invariant
