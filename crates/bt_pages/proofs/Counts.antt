-- How many items a page has.
use Rattle.std.proofs.Common.{◌≡◌, ℕ, ◌-◌, ◌/◌, ◌≤◌, Bool, true, false, cond, List, refl, arith}
use Rattle.std.specs.Prelude.{not, ◌==◌, ◌&&◌, nat_le, Some, None}
use Rattle.std.proofs.lemmas.Bool.{and_parts, eqb-true, leb-true}
use Rattle.page_layout.specs.Page.{count_of, has_bad_places, has_good_places, has_other_version, has_unknown_page_flag, is_new, is_new_but_written, lower_of, page_rule_of, special_of, upper_of}
use Rattle.page_layout.specs.declared.page.PageKind.TheVariants.{Tree as tree_kind}
use Rattle.page_layout.specs.declared.rules.Rule.TheVariants.{P1, P2, P3, P4}

-- none of four rules, and so not the third
third_of_four : (a b c d : Bool) → cond a (Some P1) (cond b (Some P2) (cond c (Some P3) (cond d (Some P4) None))) ≡ None → c ≡ false
third_of_four true b c d e = absurd cc
third_of_four false true c d e = absurd cc
third_of_four false false true d e = absurd cc
third_of_four false false false d e = refl

-- none where the page is new, else as many as its places leave room for
few_by : (new good : Bool) (n : ℕ) → (not new && not good) ≡ false → (good ≡ true → n ≤ 2038) → cond new 0 n ≤ 2038
few_by true good n e le = omega arith
few_by false true n e le = le refl
few_by false false n e le = absurd cc

few_between : (lower upper special : ℕ) (whole : Bool)
    → (nat_le 24 lower && nat_le lower upper && nat_le upper special && (special == 8176) && whole) ≡ true → (lower - 24) / 4 ≤ 2038
few_between lower upper special whole e =
    let a = and_parts _ whole e in
    let b = and_parts _ (special == 8176) a.0 in
    let c = and_parts _ (nat_le upper special) b.0 in
    let d = and_parts (nat_le 24 lower) (nat_le lower upper) c.0 in
    omega (arith, leb-true lower upper d.1, leb-true upper special c.1, eqb-true special 8176 b.1)

pub few_items : (page : List ℕ) → page_rule_of tree_kind page ≡ None → count_of page ≤ 2038
unfolding page_rule_of count_of
few_items page e =
    few_by (is_new page) (has_good_places tree_kind page) _
    (third_of_four (has_other_version page) (has_unknown_page_flag page) (has_bad_places tree_kind page) (is_new_but_written page) e)
    (few_between (lower_of page) (upper_of page) (special_of page) _)
