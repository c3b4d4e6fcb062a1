use Rattle.key_attrs.proofs.KeyAttributes.{key_values_say}
use Rattle.key_attrs.proofs.keyed.key_values_are_attributes.Goals as goal

pub returns : goal.returns
returns c types body nulls known = key_values_say types body nulls known
