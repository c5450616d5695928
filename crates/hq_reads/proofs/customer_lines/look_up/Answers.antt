use Rattle.std.proofs.Common.{rules}
use Rattle.hq_kept.specs.Keys.{keys_of}
use Rattle.hq_reads.proofs.ShelfLines.{shelf_looked}
use Rattle.hq_reads.proofs.customer_lines.look_up.Goals as goal

pub returns-clause-found : goal.returns-clause-found
returns-clause-found g c = λ opened.
    let this = shelf_looked g.M.Memory.refused g.S.Shelf.sight c.args.class (keys_of
    c.args.who.now) _
    c.lookup-found.result c.lookup-found.new.lines c.lookup-found.ensures.asked opened in
    let same = this.0 in
    let found = this.2 in
    search rules

pub returns-clause-kept : goal.returns-clause-kept
returns-clause-kept g c = λ opened.
    let this = shelf_looked g.M.Memory.refused g.S.Shelf.sight c.args.class (keys_of
    c.args.who.now) _
    c.lookup-found.result c.lookup-found.new.lines c.lookup-found.ensures.asked opened in
    let same = this.0 in
    let kept = this.1 in
    search rules
