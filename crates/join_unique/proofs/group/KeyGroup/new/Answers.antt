use Rattle.std.proofs.Common.{◌∙◌, false, ap}
use Rattle.key_storage.specs.Stored.{key_read}
use Rattle.join_unique.proofs.Steps.{empty-key}
use Rattle.join_unique.proofs.group.KeyGroup.new.Goals as goal

pub returns : goal.returns
returns c = λ i. record {
  key = (ap key_read c.new.ensures.items ∙ empty-key) i;
  counted = c.counts.ensures i;
  count = 0;
  block = 0;
  met = record { some = false; later = c.new-2.ensures.items i };
  looks = 0;
}
