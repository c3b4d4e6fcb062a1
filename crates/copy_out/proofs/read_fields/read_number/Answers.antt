use Rattle.std.proofs.Common.{subst, sym}
use Rattle.std.specs.Str.{IsAscii}
use Rattle.std.proofs.lemmas.Fmt.{IsAscii-signed}
use Rattle.std.proofs.lemmas.Str.{IsUtf8-from_ascii}
use Rattle.copy_out.proofs.read_fields.read_number.Goals as goal

pub returns-in-Err : goal.returns-in-Err
returns-in-Err c z small is = absurd (c.in-Err.ensures.cases.0 (IsUtf8-from_ascii c.args.text.now (subst IsAscii (sym is) (IsAscii-signed z small))))
