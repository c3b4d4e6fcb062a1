-- The first rule of a list that is broken.
use Rattle.std.proofs.Common.{◌≡◌, ℕ, Bool, true, false, cond, List}
use Rattle.std.specs.Prelude.{Option, Some, None, find}
use Rattle.page_layout.specs.Page.{has_bad_places, has_other_version, has_unknown_page_flag, is_new_but_written, page_rule_of}
use Rattle.page_layout.specs.declared.page.PageKind.TheVariants.{Tree as tree_kind}
use Rattle.page_layout.specs.declared.rules.Rule.{Rule}
use Rattle.page_layout.specs.declared.rules.Rule.TheVariants.{P1, P2, P3, P4}
use Rattle.bt_meta.specs.Pages.{is_idle}
use Rattle.bt_pages.specs.Questions.{breaks_lone_rule, lone_rule, laws_levels}

-- what is asked after others that are broken changes nothing
first_of_four : (a b c d : Bool) (r : Rule) (rest : Option Rule) → cond a (Some P1) (cond b (Some P2) (cond c (Some P3) (cond d (Some P4) None))) ≡ Some r
    → cond a (Some P1) (cond b (Some P2) (cond c (Some P3) (cond d (Some P4) rest))) ≡ Some r
first_of_four true b c d r rest e = e
first_of_four false true c d r rest e = e
first_of_four false false true d r rest e = e
first_of_four false false false true r rest e = e
first_of_four false false false false r rest e = absurd cc

pub lone_rule-header : (page : List ℕ) (rule : Rule) → page_rule_of tree_kind page ≡ Some rule → lone_rule page ≡ Some rule
unfolding page_rule_of lone_rule
lone_rule-header page rule e =
    first_of_four (has_other_version page) (has_unknown_page_flag page) (has_bad_places tree_kind page) (is_new_but_written page) rule
    (find (breaks_lone_rule page) (laws_levels (is_idle page))) e
