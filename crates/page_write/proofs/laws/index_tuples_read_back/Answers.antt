use Rattle.std.proofs.Common.{◌≡◌, List, ℕ, [], None, Ok, length, refl, arith}
use Rattle.bt_tuples.specs.declared.items.Spot3.TheVariants.{FirstInner, HighKey, Inner}
use Rattle.bt_tuples.specs.Rules.{includes_some}
use Rattle.key_attrs.specs.Keyed.{key_values, read_inline}
use Rattle.page_write.specs.Tuples.{fixed_width}
use Rattle.page_write.proofs.TupleReading.{first_form, high_key_form, pivot_means, plain_means}
use Rattle.page_write.proofs.laws.index_tuples_read_back.Goals as goal

-- no columns have no values
no_values : (body : List ℕ) → key_values [] body None ≡ Ok []
unfolding key_values read_inline
no_values body = refl

pub returns : goal.returns
returns c = record {
  plain = λ specs more tid flags body killed values is some fits told.
      plain_means specs more tid flags body killed values is some fits.short fits.bits told;
  high_key = λ specs more down kept tid flags body killed values small keeps fits told.
      pivot_means specs more HighKey down kept tid flags body killed values small keeps.few keeps.fits fits.short fits.bits
      (high_key_form (length specs) (includes_some more) down kept tid flags body keeps.few keeps.some keeps.most keeps.whole) told;
  inner = λ specs more down kept tid flags body killed values small keeps fits told.
      pivot_means specs more Inner down kept tid flags body killed values small keeps.few keeps.fits fits.short fits.bits
      (high_key_form (length specs) (includes_some more) down kept tid flags body keeps.few keeps.some keeps.most keeps.whole) told;
  first = λ specs more down killed small.
      pivot_means specs more FirstInner down 0 None fixed_width [] killed [] small (omega arith) (λ x e. absurd (cc)) (omega arith) (omega arith)
      (first_form (length specs) (includes_some more) down fixed_width []) (no_values _);
}
