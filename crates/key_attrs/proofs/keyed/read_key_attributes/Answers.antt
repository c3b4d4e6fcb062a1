use Rattle.std.proofs.Common.{refl}
use Rattle.key_attrs.proofs.Keying.{first_aligned, first_fit, fits_first}
use Rattle.key_attrs.proofs.keyed.read_key_attributes.Goals as goal

pub read_plain_key-requires-clause-aligned : goal.read_plain_key-requires-clause-aligned
read_plain_key-requires-clause-aligned c = first_aligned c.args.kept c.args.columns.now.specs.now c.args.columns.now.aligned

pub returns-then-read_plain_key-clause-fits : goal.returns-then-read_plain_key-clause-fits
returns-then-read_plain_key-clause-fits c = fits_first c.args.kept c.args.columns.now.specs.now c.read_plain_key.new.key (c.if-read_plain_key.ensures.fits refl)

pub read_any_key-requires-clause-aligned : goal.read_any_key-requires-clause-aligned
read_any_key-requires-clause-aligned c = first_aligned c.args.kept c.args.columns.now.specs.now c.args.columns.now.aligned

pub returns-clause-fits : goal.returns-clause-fits
returns-clause-fits c = first_fit c.args.kept c.args.columns.now.specs.now c.read_any_key.new.key c.read_any_key.result c.read_any_key.ensures.fits
