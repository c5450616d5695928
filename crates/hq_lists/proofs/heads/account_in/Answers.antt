use Rattle.std.proofs.Common.{◌∙◌}
use Rattle.hq_lists.proofs.Counted.{counts_are}
use Rattle.hq_lists.proofs.heads.account_in.Goals as goal

pub returns : goal.returns
returns c u v = λ i. record {
  head = c.head_in.ensures i;
  counts = ((λ j. record {
    messages = c.count_in.ensures j;
    bytes = c.bytes_in.ensures j;
    lines = c.count_in-2.ensures j;
  }) ∙ counts_are c.args.customer.now c.args.messages.now c.args.lines.now u v) i;
}
