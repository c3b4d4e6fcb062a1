use Rattle.laws_built_index.proofs.Laid.{page_entries_are, page_is, tree_entries, tree_is}
use Rattle.laws_built_index.proofs.trees.built_bytes_mean.Goals as goal

pub returns : goal.returns
returns c =
    let items = c.laid_items_mean.ensures in
    let seps = c.laid_separators_mean.ensures in
    record {
      page = λ specs more p fit. page_is specs more (items specs more) (seps.meaning specs more) (seps.nothing specs more) p fit;
      page_entries = λ specs more p fit. page_entries_are specs more (items specs more) (seps.meaning specs more) (seps.nothing specs more) p fit;
      image = λ specs more x blocks block fit same. tree_is specs more (items specs more) (seps.meaning specs more) (seps.nothing specs more) x blocks block fit same;
      entries = λ specs more x blocks block fit same. tree_entries specs more (items specs more) (seps.meaning specs more) (seps.nothing specs more) x blocks block fit same;
    }
