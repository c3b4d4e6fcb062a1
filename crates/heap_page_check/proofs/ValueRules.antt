-- The first rule that a tuple's values break, as a loop over their places finds it.
use Rattle.std.proofs.Common.{◌≡◌, ℕ, suc, ◌+◌, ◌<◌, ◌≤◌, List, ◌∷◌, refl, ap, sym, ◌∙◌, length, drop, get_or, add-one}
use Rattle.std.specs.Prelude.{Option, Some, None}
use Rattle.std.specs.Option.{option_or}
use Rattle.std.proofs.Math.Seq.{drop-cons}
use Rattle.std.proofs.Math.ListN.{drop_of_length-le}
use Rattle.page_layout.specs.declared.rules.Rule.{Rule}
use Rattle.tuple_head.specs.declared.HeapHead.{HeapHead}
use Rattle.varlena_attrs.specs.Shown.{shown_at, shown_in}
use Rattle.varlena_attrs.specs.declared.places.AttrPlace.{AttrPlace}
use Rattle.heap_page_check.specs.Values.{first_value_rule, value_rule}

on_cons : (toast : Option ℕ) (head : HeapHead) (body : List ℕ) (place : AttrPlace) (rest : List AttrPlace) → first_value_rule toast head (shown_in body (place ∷ rest)) ≡ option_or (value_rule toast head (shown_at body place)) (first_value_rule toast head (shown_in body rest))
unfolding first_value_rule
on_cons toast head body place rest = refl

-- the values from place k on: that of place k first
pub rule_from : (toast : Option ℕ) (head : HeapHead) (body : List ℕ) (places : List AttrPlace) (k : ℕ) (d : AttrPlace) → k < length places → first_value_rule toast head (shown_in body (drop k places)) ≡ option_or (value_rule toast head (shown_at body (get_or places k d))) (first_value_rule toast head (shown_in body (drop (k + 1) places)))
rule_from toast head body places k d lt =
    ap (λ (ps : List AttrPlace). first_value_rule toast head (shown_in body ps)) (drop-cons places k d lt)
    ∙ on_cons toast head body (get_or places k d) (drop (suc k) places)
    ∙ rw add-one refl

-- a value without a rule is passed over
pub no_rule_here : (toast : Option ℕ) (head : HeapHead) (body : List ℕ) (places : List AttrPlace) (k : ℕ) (d : AttrPlace) → k < length places → None ≡ value_rule toast head (shown_at body (get_or places k d)) → first_value_rule toast head (shown_in body (drop (k + 1) places)) ≡ first_value_rule toast head (shown_in body (drop k places))
no_rule_here toast head body places k d lt e = sym (rule_from toast head body places k d lt ∙ rw (← e) refl)

-- a value with a rule ends the search
pub rule_here : (toast : Option ℕ) (head : HeapHead) (body : List ℕ) (places : List AttrPlace) (k : ℕ) (d : AttrPlace) (rule : Rule) → k < length places → Some rule ≡ value_rule toast head (shown_at body (get_or places k d)) → Some rule ≡ first_value_rule toast head (shown_in body (drop k places))
rule_here toast head body places k d rule lt e = sym (rule_from toast head body places k d lt ∙ rw (← e) refl)

-- past the last value there is none
pub no_rule_left : (toast : Option ℕ) (head : HeapHead) (body : List ℕ) (places : List AttrPlace) (k : ℕ) → length places ≤ k → None ≡ first_value_rule toast head (shown_in body (drop k places))
unfolding first_value_rule
no_rule_left toast head body places k le = rw (drop_of_length-le places le) refl
