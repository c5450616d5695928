use Rattle.std.proofs.Common.{◌≡◌, ◌+◌, ◌++◌, ◌∷◌, [], length, take, arith, rules}
use Rattle.std.proofs.lemmas.Grind.{common_steps}
use Rattle.std.proofs.lemmas.List.{take_all}
use Rattle.sqlite.specs.Held.{state}
use Rattle.hq_sql_changes.proofs.Reasoned.{begun, kept_on, stepped, ended}
use Rattle.hq_sql_changes.proofs.sets.give_each.Goals as goal

pub loop-serial-init : goal.loop-serial-init
loop-serial-init g c = begun (state g.S.Store c.args.conn.now) c.args.customer.now c.args.reason.now
    c.args.serials.now

pub loop-serial-preserved : goal.loop-serial-preserved
loop-serial-preserved g c =
    let i = c.loop-serial.serial-index in
    let all = c.args.serials.now in
    let next : take (i + 1) all ≡ take i all ++ c.serial-item.result ∷ [] =
    grind (arith, common_steps) in
    stepped (state g.S.Store c.args.conn.now) (state g.S.Store c.loop-serial.conn)
    c.args.customer.now c.args.reason.now all i c.loop-serial.invariant
    (state g.S.Store c.put.new.conn) c.in_ok-put.ensures.kept c.serial-item.result next
    c.in_ok-put.ensures.made

pub returns-in_err-put-clause-kept : goal.returns-in_err-put-clause-kept
returns-in_err-put-clause-kept g c = kept_on (state g.S.Store c.args.conn.now)
    (state g.S.Store c.loop-serial.conn) c.args.customer.now c.args.reason.now c.args.serials.now
    c.loop-serial.serial-index c.loop-serial.invariant (state g.S.Store c.put.new.conn)
    c.in_err-put.ensures.kept

pub returns-clause-made : goal.returns-clause-made
returns-clause-made g c =
    let i = c.loop-serial.serial-index in
    let all = c.args.serials.now in
    let end : i ≡ length all = search rules in
    let whole : take i all ≡ all = take_all i all (omega arith) in
    ended (state g.S.Store c.args.conn.now) (state g.S.Store c.loop-serial.conn)
    c.args.customer.now c.args.reason.now all i whole c.loop-serial.invariant

pub returns-clause-kept : goal.returns-clause-kept
returns-clause-kept g c = c.loop-serial.invariant.kept
