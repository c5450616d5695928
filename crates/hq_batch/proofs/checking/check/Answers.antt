use Rattle.std.proofs.Common.{Ok, Err, refl, option_map, subst, sym}
use Rattle.hq_settings.specs.Seen.{relay_seen}
use Rattle.hq_settings.specs.Steps.{IsFile}
use Rattle.hq_batch.proofs.checking.check.Goals as goal

pub returns-in-Err-read : goal.returns-in-Err-read
returns-in-Err-read g c = (
  Err c.in-Err-read.trouble,
  (
    Ok (option_map relay_seen c.in-Ok.relay),
    c.in-Ok.ensures,
    (Err c.in-Err-read.trouble, c.in-Err-read.ensures, refl),
  ),
  c.print-in-Err-read.ensures,
)

pub returns : goal.returns
returns g c =
    let told = c.print_file.ensures in
    let file = subst (λ bytes. IsFile (g.F.Files.reads c.args.rt.now) c.args.given.now.directory.now
    (Ok bytes)) (sym c.as_slice.ensures.value) c.in-Ok-read.ensures in (
      told.0,
      (
        Ok (option_map relay_seen c.in-Ok.relay),
        c.in-Ok.ensures,
        (Ok c.as_slice.result.now, file, told.1),
      ),
      told.2,
    )
