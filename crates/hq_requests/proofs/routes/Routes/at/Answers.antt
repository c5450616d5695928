use Rattle.std.proofs.Common.{◌∙◌, arith}
use Rattle.hq_requests.proofs.Entered.{found, text_from}
use Rattle.hq_requests.proofs.routes.Routes.at.Goals as goal

pub returns : goal.returns
returns c = c.methods_in.ensures
    ∙ found c.args.self.now.router c.args.path.now c.args.self.now.whole
    (text_from c.args.path.now (λ i. omega (arith, c.type_inv.path i)))
