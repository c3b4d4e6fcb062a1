use Rattle.laws_levels.proofs.First.{unbroken, first}
use Rattle.laws_levels.proofs.Broken.{breaks_here, breaks_none, silent}
use Rattle.laws_levels.proofs.Searchable.{searchable}
use Rattle.laws_levels.proofs.Kept.{all_unbroken, no_finding}
use Rattle.laws_levels.proofs.Items.{items_above}
use Rattle.laws_levels.proofs.rules_are_exact.Goals as goal

pub returns : goal.returns
returns g c = record {
  found = λ same o x law local rule block is. breaks_here o x (rule, block) (first same o x law local.pages local (rule, block) is);
  first = λ same o x law local f is. first same o x law local.pages local f is;
  silent = λ same o x law local. ((λ none. breaks_none o x (unbroken same o x law local.pages local none)), silent same o x law local);
  searchable = λ same o x law local keeps. searchable same o x law local (silent same o x law local keeps);
  kept = λ o x chained fit. breaks_none o x (all_unbroken o x fit (items_above o chained x fit));
  none = λ same o x law chained fit. no_finding same o x law fit (items_above o chained x fit);
}
