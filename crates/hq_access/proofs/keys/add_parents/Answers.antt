use Rattle.std.proofs.Common.{◌∙◌, Some, None, lit<, rules}
use Rattle.std.proofs.lemmas.Str.Pattern.{split_once_first}
use Rattle.hq_access.proofs.Domains.{one_more_parent, no_more_parents}
use Rattle.hq_access.proofs.keys.add_parents.Goals as goal

pub loop-above-preserved : goal.loop-above-preserved
loop-above-preserved g c =
    let parts = split_once_first 46 c.loop-above.rest.now
    (Some (c.in-Some.field-0-0, c.in-Some.above)) c.in-Some.ensures.cases (lit< tt) in
    record {
      text = search rules;
      so_far = one_more_parent c.loop-above.keys.items c.push.new.to.items _ c.loop-above.rest.now
          c.in-Some.above.now c.new.result parts.0 parts.2 (c.new.ensures ∙ c.in_ok-text.ensures.ok)
          c.in_ok-push.ensures.items c.loop-above.invariant.so_far;
    }

pub returns : goal.returns
returns g c =
    no_more_parents c.loop-above.keys.items _ c.loop-above.rest.now
    (split_once_first 46 c.loop-above.rest.now None c.in_default.ensures.cases (lit< tt))
    c.loop-above.invariant.so_far
