use Rattle.std.proofs.Common.{Ok, Err, rules}
use Rattle.hq_settings.proofs.Named.{of_file}
use Rattle.hq_settings.proofs.files.keys_of.Goals as goal

pub returns-in_err-file-clause-keys : goal.returns-in_err-file-clause-keys
returns-in_err-file-clause-keys g c =
    of_file (g.F.Files.reads c.args.rt.now) c.args.customers.now c.args.path c.in-Some.path
    (search rules) _ (Err c.in_err-file.field-0.0, c.in_err-file.ensures, search rules)

pub returns-clause-keys : goal.returns-clause-keys
returns-clause-keys g c =
    of_file (g.F.Files.reads c.args.rt.now) c.args.customers.now c.args.path c.in-Some.path
    (search rules) _ (Ok c.in_ok-file.file.items, c.in_ok-file.ensures, search rules)
