use Rattle.hq_json.proofs.table_replies.AsEntryFormRefused.put.Goals as goal

pub returns-clause-bytes : goal.returns-clause-bytes
returns-clause-bytes g c = cc
