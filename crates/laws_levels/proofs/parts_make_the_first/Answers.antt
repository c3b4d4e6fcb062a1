use Rattle.laws_levels.proofs.Descent.{whole_empty, whole_roots, whole_levels, whole_blocks}
use Rattle.laws_levels.proofs.parts_make_the_first.Goals as goal

pub returns : goal.returns
returns g c = record {
  empty = λ same o x local zero stands none. whole_empty same o x local zero stands none;
  roots = λ same o x local ne misplaced. whole_roots same o x local ne misplaced;
  levels = λ same o x local ne roots f is. whole_levels same o x local ne roots f is;
  blocks = λ same o x local ne roots none stands are. whole_blocks same o x local ne roots none stands are;
}
