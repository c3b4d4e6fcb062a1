-- What a search of an index needs to know of its levels.
use Rattle.std.specs.Prelude.{◌≡◌, None}
use Rattle.bt_pages.specs.Trees.{Tree}
use Rattle.bt_level_check.specs.declared.shape.TreeShape.{TreeShape}
use Rattle.bt_level_check.specs.Counts.{half_dead_in, right_halves_in}
use Rattle.bt_level_check.specs.Trees.{first_broken_in, image_of}

-- the fast root and its level are those of the metapage; and where no rule on levels is broken, the counts are those of
-- all levels
pub record IsShapeOf (tree : Tree) (shape : TreeShape) : Type 0 where
  pub fastroot : shape.fastroot ≡ (image_of tree).fastroot
  pub fastlevel : shape.fastlevel ≡ (image_of tree).fastlevel
  pub right_halves : first_broken_in tree ≡ None → shape.right_halves ≡ right_halves_in (image_of tree)
  pub half_dead : first_broken_in tree ≡ None → shape.half_dead ≡ half_dead_in (image_of tree)
