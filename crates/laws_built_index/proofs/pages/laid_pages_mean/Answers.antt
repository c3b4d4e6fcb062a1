use Rattle.laws_built_index.proofs.Images.{entries_are, image_is}
use Rattle.laws_built_index.proofs.pages.laid_pages_mean.Goals as goal

pub returns : goal.returns
returns c = record {
  image = λ specs more p well. image_is specs more p well;
  entries = λ specs more p well. entries_are specs more p well;
}
