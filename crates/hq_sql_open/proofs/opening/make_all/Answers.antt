use Rattle.std.proofs.Common.{inl}
use Rattle.hq_schema.specs.Made.{desk_tables}
use Rattle.hq_schema.specs.Schema.{no_schema}
use Rattle.hq_sql_open.proofs.OpeningTexts.{all_made, all_whole}
use Rattle.hq_sql_open.proofs.opening.make_all.Goals as goal

pub returns-clause-made : goal.returns-clause-made
returns-clause-made g c has settled clean =
    c.make_desk.ensures.made no_schema desk_tables all_made all_whole has tt settled clean

pub returns-clause-kept : goal.returns-clause-kept
returns-clause-kept g c has =
    c.make_desk.ensures.kept no_schema desk_tables all_made all_whole has tt (inl has)
