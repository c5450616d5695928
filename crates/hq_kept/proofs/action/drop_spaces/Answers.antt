use Rattle.hq_kept.proofs.Spaces.{drop_spaces_is}
use Rattle.hq_kept.proofs.action.drop_spaces.Goals as goal

pub returns : goal.returns
returns c =
    drop_spaces_is c.args.text.now c.trim_end_matches.result.now c.trim_end_matches.ensures.matches
