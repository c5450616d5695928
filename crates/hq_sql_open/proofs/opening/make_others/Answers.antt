use Rattle.std.proofs.Common.{inr, drop}
use Rattle.hq_schema.specs.Made.{desk_tables}
use Rattle.hq_schema.specs.Schema.{version_alone}
use Rattle.hq_sql_open.proofs.OpeningTexts.{others_here, others_whole}
use Rattle.hq_sql_open.proofs.opening.make_others.Goals as goal

pub returns-clause-made : goal.returns-clause-made
returns-clause-made g c has none settled clean =
    c.make_desk.ensures.made version_alone (drop 1 desk_tables) others_here others_whole has (
      none,
      tt,
    ) settled clean

pub returns-clause-kept : goal.returns-clause-kept
returns-clause-kept g c has none =
    c.make_desk.ensures.kept version_alone (drop 1 desk_tables) others_here others_whole has (
      none,
      tt,
    ) (inr (has, none))
