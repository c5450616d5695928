use Rattle.hq_json.proofs.replies.put_answer.Goals as goal

pub returns-in-Used-clause-bytes : goal.returns-in-Used-clause-bytes
returns-in-Used-clause-bytes g c = rw c.in-Used.is c.put_used.ensures.bytes
