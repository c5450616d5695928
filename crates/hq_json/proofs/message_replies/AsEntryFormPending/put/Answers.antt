use Rattle.hq_json.proofs.message_replies.AsEntryFormPending.put.Goals as goal

pub returns-clause-bytes : goal.returns-clause-bytes
returns-clause-bytes g c = cc
