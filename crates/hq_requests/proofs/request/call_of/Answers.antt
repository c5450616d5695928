use Rattle.std.proofs.Common.{◌≡◌, rules, Ok}
use Rattle.std.specs.Prelude.{string_bytes}
use Rattle.hq_values.specs.Readers.{or_refuse}
use Rattle.hq_values.specs.declared.failure.Refusal.TheVariants.{NoRoute, WrongMethod}
use Rattle.hq_requests.specs.Routes.{methods_at, route_of}
use Rattle.hq_requests.proofs.Whose.{asked_by_one, asked_of_many}
use Rattle.hq_requests.proofs.request.call_of.Goals as goal

pub returns-in-RelayForAll-clause-caller : goal.returns-in-RelayForAll-clause-caller
returns-in-RelayForAll-clause-caller g c =
    let x = c.args.exchange.now in
    let methods = c.in_ok-methods.methods in
    let at : or_refuse NoRoute (methods_at (string_bytes x.path)) ≡ Ok methods = search rules in
    let asked : or_refuse WrongMethod (route_of methods (string_bytes x.method))
    ≡ Ok (c.in_ok-role.role, c.in_ok-role.route) = search rules in
    asked_of_many c.args.directory.now x (string_bytes x.method) methods at c.in_ok-role.role
    c.in_ok-role.route asked c.in-RelayForAll.is c.asked_of_all.result
    c.asked_of_all.ensures.caller

pub returns-in-Customer-clause-caller : goal.returns-in-Customer-clause-caller
returns-in-Customer-clause-caller g c =
    let x = c.args.exchange.now in
    let methods = c.in_ok-methods.methods in
    let at : or_refuse NoRoute (methods_at (string_bytes x.path)) ≡ Ok methods = search rules in
    let asked : or_refuse WrongMethod (route_of methods (string_bytes x.method))
    ≡ Ok (c.in_ok-role.role, c.in_ok-role.route) = search rules in
    asked_by_one c.args.directory.now x (string_bytes x.method) methods at c.in_ok-role.role
    c.in_ok-role.route asked c.in-Customer.is c.asked_of_one.result
    c.asked_of_one.ensures.caller
