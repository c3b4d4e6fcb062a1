-- What is found of an item among the others, by what a pass over them told.
use Rattle.std.proofs.Common.{◌≡◌, ℕ, ◌≤◌, ◌∙◌, Bool, true, false, cond, List, [], ◌∷◌, refl, sym, ap, inl, inr}
use Rattle.std.specs.Prelude.{◌&&◌, ◌==◌, find, is_none, Option, Some, None}
use Rattle.std.specs.Option.{option_or}
use Rattle.std.proofs.lemmas.List.Folds.{find-append}
use Rattle.std.proofs.lemmas.Bool.{cases_Bool, or_parts}
use Rattle.page_layout.specs.Page.{count_of}
use Rattle.page_layout.specs.declared.rules.Rule.{Rule}
use Rattle.page_layout.specs.declared.rules.Rule.TheVariants.{B5, B10, B11}
use Rattle.key_orders.specs.declared.columns.KeySpec.{KeySpec}
use Rattle.key_orders.specs.declared.more.MoreSpec.{MoreSpec}
use Rattle.bt_meta.specs.Flags.{is_half_dead}
use Rattle.bt_meta.specs.Pages.{opaque_of}
use Rattle.bt_tuples.specs.Rules.{breaks_item_rule, breaks_place, has_packed, tuple_of}
use Rattle.bt_image.specs.Image.{spot_of}
use Rattle.bt_image.specs.Pages.{breaks_high_key, breaks_order}
use Rattle.bt_pages.specs.declared.pass.Pass.TheVariants.{HalfDead, NotPlain, Disordered, Ordered}
use Rattle.bt_pages.specs.Passes.{are_disordered, is_disordered, pass_by, pass_of}
use Rattle.bt_pages.specs.Questions.{are_plain, breaks_on_page, doubt_by, is_without_fault, own_doubt, own_rule, own_rules, rule_on_page, rules_by}
use Rattle.bt_pages.proofs.Passing.{order-each, plain-each}

-- what each answer of the pass says
pub record Says (half_dead plain disordered h p d : Bool) : Type 0 where
  pub dead : half_dead ≡ h
  pub all : plain ≡ p
  pub order : disordered ≡ d

says_HalfDead : (h p d : Bool) → HalfDead ≡ pass_by h p d → h ≡ true
says_HalfDead true p d e = refl
says_HalfDead false false d e = absurd cc
says_HalfDead false true true e = absurd cc
says_HalfDead false true false e = absurd cc

says_NotPlain : (h p d : Bool) → NotPlain ≡ pass_by h p d → (h ≡ false) × (p ≡ false)
says_NotPlain true p d e = absurd cc
says_NotPlain false false d e = (refl, refl)
says_NotPlain false true true e = absurd cc
says_NotPlain false true false e = absurd cc

says_Disordered : (h p d : Bool) → Disordered ≡ pass_by h p d → (h ≡ false) × (p ≡ true)
says_Disordered true p d e = absurd cc
says_Disordered false false d e = absurd cc
says_Disordered false true true e = (refl, refl)
says_Disordered false true false e = absurd cc

says_Ordered : (h p d : Bool) → Ordered ≡ pass_by h p d → Says h p d false true false
says_Ordered true p d e = absurd cc
says_Ordered false false d e = absurd cc
says_Ordered false true true e = absurd cc
says_Ordered false true false e = record { dead = refl; all = refl; order = refl }

second_false : (a b : Bool) → b ≡ false → (a && b) ≡ false
second_false true b q = q
second_false false b q = refl

-- a first test that was passed
pub passed : (b : Bool) (r : Rule) (rest : Option Rule) → cond b (Some r) rest ≡ None → b ≡ false
passed false r rest e = refl
passed true r rest e = absurd cc

none_is : {X : Type 0} (o : Option X) → is_none o ≡ true → o ≡ None
none_is None e = refl
none_is (Some x) e = absurd cc

both_of : (a b : Bool) → (a && b) ≡ true → (a ≡ true) × (b ≡ true)
both_of true b e = (refl, e)
both_of false b e = absurd cc

module _ (specs : List KeySpec) (more : List MoreSpec) (page : List ℕ) where
  pub dead_by : HalfDead ≡ pass_of specs more page → is_half_dead (opaque_of page) ≡ true
  unfolding pass_of
  dead_by e = says_HalfDead _ _ _ e

  pub not_plain_by : NotPlain ≡ pass_of specs more page → (is_half_dead (opaque_of page) ≡ false) × (are_plain specs more page (count_of page) ≡ false)
  unfolding pass_of
  not_plain_by e = says_NotPlain _ _ _ e

  pub plain_by : Disordered ≡ pass_of specs more page → (is_half_dead (opaque_of page) ≡ false) × (are_plain specs more page (count_of page) ≡ true)
  unfolding pass_of
  plain_by e = says_Disordered _ _ _ e

  pub ordered_by : Ordered ≡ pass_of specs more page → Says (is_half_dead (opaque_of page)) (are_plain specs more page (count_of page)) (is_disordered specs more page) false true false
  unfolding pass_of
  ordered_by e = says_Ordered _ _ _ e

  module _ (i : ℕ) where
    pub own_is : (h : Bool) → find (breaks_on_page specs more page i) (own_rules h) ≡ find (breaks_item_rule specs more (spot_of page i) page i) (own_rules h)
    own_is true = refl
    own_is false = refl

    pub rule_by : (h p : Bool) → is_half_dead (opaque_of page) ≡ h → are_plain specs more page (count_of page) ≡ p → rule_on_page specs more page i ≡ find (breaks_on_page specs more page i) (rules_by h p)
    unfolding rule_on_page
    rule_by h p dead plain = λ k. find (breaks_on_page specs more page i) (rules_by (dead k) (plain k))

    pub own_by : (h : Bool) → is_half_dead (opaque_of page) ≡ h → own_rule specs more page i ≡ find (breaks_item_rule specs more (spot_of page i) page i) (own_rules h)
    unfolding own_rule
    own_by h dead = λ k. find (breaks_item_rule specs more (spot_of page i) page i) (own_rules (dead k))

    pub rule-dead : is_half_dead (opaque_of page) ≡ true → rule_on_page specs more page i ≡ own_rule specs more page i
    rule-dead dead = rule_by true (are_plain specs more page (count_of page)) dead refl ∙ sym (own_by true dead)

    pub rule-not_plain : is_half_dead (opaque_of page) ≡ false → are_plain specs more page (count_of page) ≡ false → rule_on_page specs more page i ≡ own_rule specs more page i
    rule-not_plain live plain = rule_by false false live plain ∙ sym (own_by false live)

    pub own_rule-plain : is_without_fault specs more page i ≡ true → own_rule specs more page i ≡ None
    unfolding is_without_fault
    own_rule-plain plain = none_is (own_rule specs more page i) (both_of _ _ plain).0

    pub own_doubt-plain : is_without_fault specs more page i ≡ true → own_doubt specs more page i ≡ None
    unfolding is_without_fault
    own_doubt-plain plain = none_is (own_doubt specs more page i) (both_of _ _ plain).1

    pub own_doubt-dead : is_half_dead (opaque_of page) ≡ true → own_doubt specs more page i ≡ None
    unfolding own_doubt
    own_doubt-dead dead = ap (λ (h : Bool). doubt_by h (own_rule specs more page i) (has_packed specs more (tuple_of page i))) dead

    pub rule-plain : is_half_dead (opaque_of page) ≡ false → are_plain specs more page (count_of page) ≡ true → is_without_fault specs more page i ≡ true
        → rule_on_page specs more page i ≡ find (breaks_on_page specs more page i) (B10 ∷ B11 ∷ [])
    rule-plain live all plain =
        rule_by false true live all
        ∙ find-append (breaks_on_page specs more page i) (own_rules false) (B10 ∷ B11 ∷ [])
        ∙ ap (λ (o : Option Rule). option_or o (find (breaks_on_page specs more page i) (B10 ∷ B11 ∷ []))) (sym (own_by false live) ∙ own_rule-plain plain)

    high_is : breaks_high_key specs more page ≡ false → ((i == 1) && breaks_high_key specs more page) ≡ false
    high_is none = second_false (i == 1) _ none

    pub order-none : breaks_order specs more page i ≡ false → breaks_high_key specs more page ≡ false → find (breaks_on_page specs more page i) (B10 ∷ B11 ∷ []) ≡ None
    order-none low high = λ k. cond (low k) (Some B10) (cond (high_is high k) (Some B11) None)

    pub rule-ordered : 1 ≤ i → i ≤ count_of page → Ordered ≡ pass_of specs more page → rule_on_page specs more page i ≡ None
    rule-ordered first last e =
        let says = ordered_by e in
        let parts = or_parts (are_disordered specs more page (count_of page)) (breaks_high_key specs more page) says.order in
        rule-plain says.dead says.all (plain-each specs more page i _ first last says.all)
        ∙ order-none (order-each specs more page i _ first last parts.0) parts.1

    pub placed-by_rule : rule_on_page specs more page i ≡ None → breaks_place page i ≡ false
    placed-by_rule none = elim (cases_Bool (is_half_dead (opaque_of page))) [
      | inl e ↦ passed (breaks_place page i) B5 _ (sym (rule_by true (are_plain specs more page (count_of page)) e refl) ∙ none)
      | inr e ↦ passed (breaks_place page i) B5 _ (sym (rule_by false (are_plain specs more page (count_of page)) e refl) ∙ none)
    ]
