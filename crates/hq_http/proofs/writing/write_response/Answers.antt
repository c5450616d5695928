use Rattle.std.proofs.Common.{length}
use Rattle.std.proofs.KnownBytes.{Appends-trans}
use Rattle.hq_lines.proofs.Written.{part_first, part_behind, out_cut, out_flushed}
use Rattle.hq_http.specs.Responses.{fields, response_text}
use Rattle.hq_http.proofs.writing.write_response.Goals as goal

pub returns-in_err-write_status : goal.returns-in_err-write_status
unfolding response_text
returns-in_err-write_status g c = out_cut _ c.from_residual.result _ _ _ c.from_residual.ensures.1
    (part_first _ _ _ c.args.body.now (part_first _ _ _ (fields (length c.args.body.now))
    c.in_err-write_status.ensures))

pub returns-in_err-write_fields : goal.returns-in_err-write_fields
unfolding response_text
returns-in_err-write_fields g c = out_cut _ c.from_residual-in_err-write_fields.result _ _ _
    c.from_residual-in_err-write_fields.ensures.1
    (part_first _ _ _ c.args.body.now
    (part_behind _ _ _ _ _ c.in_ok-write_status.ensures c.in_err-write_fields.ensures))

pub returns-in_err-write_whole : goal.returns-in_err-write_whole
unfolding response_text
returns-in_err-write_whole g c = out_cut _ c.from_residual-in_err-write_whole.result _ _ _
    c.from_residual-in_err-write_whole.ensures.1 (part_behind _ _ _ _ _
    (Appends-trans _ _ _ _ _ c.in_ok-write_status.ensures c.in_ok-write_fields.ensures)
    c.in_err-write_whole.ensures)

pub returns : goal.returns
unfolding response_text
returns g c = out_flushed c.flush.result _ _ _ _ (Appends-trans _ _ _ _ _
    (Appends-trans _ _ _ _ _ c.in_ok-write_status.ensures c.in_ok-write_fields.ensures)
    c.in_ok-write_whole.ensures) c.flush.ensures.bytes
