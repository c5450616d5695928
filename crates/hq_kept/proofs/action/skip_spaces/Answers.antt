use Rattle.hq_kept.proofs.Spaces.{skip_spaces_is}
use Rattle.hq_kept.proofs.action.skip_spaces.Goals as goal

pub returns : goal.returns
returns c =
    skip_spaces_is c.args.text.now c.trim_start_matches.result.now
    c.trim_start_matches.ensures.matches
