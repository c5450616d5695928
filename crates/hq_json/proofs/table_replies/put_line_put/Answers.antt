use Rattle.hq_json.proofs.table_replies.put_line_put.Goals as goal

pub returns-clause-bytes : goal.returns-clause-bytes
returns-clause-bytes g c = cc
