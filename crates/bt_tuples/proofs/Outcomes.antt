-- The chain of an item's tests, case by case.
use Rattle.std.proofs.Common.{◌≡◌, ◌↔◌, ℕ, Bool, true, false, cond, List, length, refl, ap, sym, ◌∙◌}
use Rattle.std.specs.Prelude.{Option, Some, None, Result, Ok, Err, IfSome, ◌||◌}
use Rattle.std.proofs.lemmas.Bool.{or_parts}
use Rattle.page_layout.specs.declared.rules.Rule.{Rule}
use Rattle.page_layout.specs.declared.rules.Rule.TheVariants.{B5, B6, B7, B8, B9}
use Rattle.page_layout.specs.Page.{item_of}
use Rattle.key_orders.specs.declared.columns.KeySpec.{KeySpec}
use Rattle.key_orders.specs.declared.more.MoreSpec.{MoreSpec}
use Rattle.bt_meta.specs.Heads.{tree_head_of}
use Rattle.bt_tuples.specs.declared.items.Spot3.{Spot3}
use Rattle.bt_tuples.specs.declared.items.ItemFault.{ItemFault}
use Rattle.bt_tuples.specs.declared.items.ItemFault.TheVariants.{Broken, Packed}
use Rattle.bt_tuples.specs.Items.{Item, is_dead, item_outcome, item_rule_of, meaning_of, rule_in, tuple_outcome}
use Rattle.bt_tuples.specs.Rules.{KeepsItemRules, begins_past_end, breaks_form, breaks_item_rule, breaks_place, breaks_size, breaks_tids, breaks_values, has_packed, is_packed, includes_some, is_unread, tuple_of}
use Rattle.bt_tuples.specs.Tuples.{values_in}

abbrev pub Answer : Type 0
Answer = Result Item ItemFault

-- the tests, in their order: place, size, form, values past their end, values unread, TIDs, a compressed value
abbrev chain : (place size form past unread tids packed : Bool) → Item → Answer
chain place size form past unread tids packed item =
    cond place (Err (Broken B5)) (cond size (Err (Broken B6)) (cond form (Err (Broken B7)) (cond past (Err (Broken B8))
    (cond unread (Err (Broken B8)) (cond tids (Err (Broken B9)) (cond packed (Err Packed) (Ok item)))))))

abbrev rules : (place size form values tids : Bool) → Option Rule
rules place size form values tids =
    cond place (Some B5) (cond size (Some B6) (cond form (Some B7) (cond values (Some B8) (cond tids (Some B9) None))))

chain_rule : (place size form past unread tids packed : Bool) (item : Item) → rule_in (chain place size form past unread tids packed item) ≡ rules place size form (past || unread) tids
chain_rule true size form past unread tids packed item = refl
chain_rule false true form past unread tids packed item = refl
chain_rule false false true past unread tids packed item = refl
chain_rule false false false true unread tids packed item = refl
chain_rule false false false false true tids packed item = refl
chain_rule false false false false false true packed item = refl
chain_rule false false false false false false true item = refl
chain_rule false false false false false false false item = refl

-- all tests are passed
record Passes (place size form values tids : Bool) : Type 0 where
  place_ok : place ≡ false
  size_ok : size ≡ false
  form_ok : form ≡ false
  values_ok : values ≡ false
  tids_ok : tids ≡ false

rules_none : (place size form values tids : Bool) → rules place size form values tids ≡ None → Passes place size form values tids
rules_none true size form values tids e = absurd cc
rules_none false true form values tids e = absurd cc
rules_none false false true values tids e = absurd cc
rules_none false false false true tids e = absurd cc
rules_none false false false false true e = absurd cc
rules_none false false false false false e = record { place_ok = refl; size_ok = refl; form_ok = refl; values_ok = refl; tids_ok = refl }

none_rules : (place size form values tids : Bool) → place ≡ false → size ≡ false → form ≡ false → values ≡ false → tids ≡ false → rules place size form values tids ≡ None
none_rules place size form values tids a b c d e = λ i. rules (a i) (b i) (c i) (d i) (e i)

rules_some : (P : Rule → Bool) (place size form values tids : Bool) → P B5 ≡ place → P B6 ≡ size → P B7 ≡ form → P B8 ≡ values → P B9 ≡ tids → IfSome (rules place size form values tids) (λ rule. P rule ≡ true)
rules_some P true size form values tids a b c d e = a
rules_some P false true form values tids a b c d e = b
rules_some P false false true values tids a b c d e = c
rules_some P false false false true tids a b c d e = d
rules_some P false false false false true a b c d e = e
rules_some P false false false false false a b c d e = tt

chain_ok : (place size form past unread tids packed : Bool) (item got : Item) → chain place size form past unread tids packed item ≡ Ok got → Passes place size form (past || unread) tids × (packed ≡ false) × (item ≡ got)
chain_ok true size form past unread tids packed item got e = absurd cc
chain_ok false true form past unread tids packed item got e = absurd cc
chain_ok false false true past unread tids packed item got e = absurd cc
chain_ok false false false true unread tids packed item got e = absurd cc
chain_ok false false false false true tids packed item got e = absurd cc
chain_ok false false false false false true packed item got e = absurd cc
chain_ok false false false false false false true item got e = absurd cc
chain_ok false false false false false false false item got e =
    (record { place_ok = refl; size_ok = refl; form_ok = refl; values_ok = refl; tids_ok = refl }, refl, inner e)
  where
    inner : ◌≡◌ {A = Answer} (Ok item) (Ok got) → item ≡ got
    inner h = cc

clash : (e d : ItemFault) → ◌≡◌ {A = Answer} (Err e) (Err d) → e ≡ d
clash e d h = cc

chain_packed : (place size form past unread tids packed : Bool) (item : Item) → chain place size form past unread tids packed item ≡ Err Packed → Passes place size form (past || unread) tids × (packed ≡ true)
chain_packed true size form past unread tids packed item e = absurd cc
chain_packed false true form past unread tids packed item e = absurd cc
chain_packed false false true past unread tids packed item e = absurd cc
chain_packed false false false true unread tids packed item e = absurd cc
chain_packed false false false false true tids packed item e = absurd cc
chain_packed false false false false false true packed item e = absurd cc
chain_packed false false false false false false true item e =
    (record { place_ok = refl; size_ok = refl; form_ok = refl; values_ok = refl; tids_ok = refl }, refl)
chain_packed false false false false false false false item e = absurd cc

passed_chain : (place size form past unread tids packed : Bool) (item : Item) → place ≡ false → size ≡ false → form ≡ false → (past || unread) ≡ false → tids ≡ false → chain place size form past unread tids packed item ≡ cond packed (Err Packed) (Ok item)
passed_chain place size form past unread tids packed item a b c d e =
    let both = or_parts past unread d in
    λ i. chain (a i) (b i) (c i) (both.0 i) (both.1 i) (e i) packed item

-- OF AN ITEM

outcome_is : (specs : List KeySpec) (more : List MoreSpec) (spot : Spot3) (page : List ℕ) (i : ℕ) → item_outcome specs more spot page i ≡ chain (breaks_place page i) (breaks_size (tuple_of page i)) (breaks_form spot (length specs) (includes_some more) (tree_head_of (tuple_of page i))) (begins_past_end (tuple_of page i)) (is_unread (values_in specs more (tuple_of page i))) (breaks_tids (tuple_of page i)) (is_packed (values_in specs more (tuple_of page i))) (meaning_of specs more (tuple_of page i) (is_dead (item_of page i).flag))
unfolding item_outcome tuple_outcome
outcome_is specs more spot page i = refl

pub rule_is : (specs : List KeySpec) (more : List MoreSpec) (spot : Spot3) (page : List ℕ) (i : ℕ) → rule_in (item_outcome specs more spot page i) ≡ item_rule_of specs more spot page i
unfolding item_rule_of
rule_is specs more spot page i = ap rule_in (outcome_is specs more spot page i) ∙ chain_rule (breaks_place page i) (breaks_size (tuple_of page i)) (breaks_form spot (length specs) (includes_some more) (tree_head_of (tuple_of page i))) (begins_past_end (tuple_of page i)) (is_unread (values_in specs more (tuple_of page i))) (breaks_tids (tuple_of page i)) (is_packed (values_in specs more (tuple_of page i))) (meaning_of specs more (tuple_of page i) (is_dead (item_of page i).flag))

keeps_from : (specs : List KeySpec) (more : List MoreSpec) (spot : Spot3) (page : List ℕ) (i : ℕ) → Passes (breaks_place page i) (breaks_size (tuple_of page i)) (breaks_form spot (length specs) (includes_some more) (tree_head_of (tuple_of page i))) (breaks_values specs more (tuple_of page i)) (breaks_tids (tuple_of page i)) → KeepsItemRules specs more spot page i
keeps_from specs more spot page i p = record { place = p.place_ok; size = p.size_ok; form = p.form_ok; values = p.values_ok; tids = p.tids_ok }

pub none_is : (specs : List KeySpec) (more : List MoreSpec) (spot : Spot3) (page : List ℕ) (i : ℕ) → (item_rule_of specs more spot page i ≡ None) ↔ KeepsItemRules specs more spot page i
unfolding item_rule_of
none_is specs more spot page i = (
  λ e. keeps_from specs more spot page i (rules_none _ _ _ _ _ e),
  λ k. none_rules _ _ _ _ _ k.place k.size k.form k.values k.tids,
)

pub some_is : (specs : List KeySpec) (more : List MoreSpec) (spot : Spot3) (page : List ℕ) (i : ℕ) → IfSome (item_rule_of specs more spot page i) (λ rule. breaks_item_rule specs more spot page i rule ≡ true)
unfolding item_rule_of
some_is specs more spot page i = rules_some (breaks_item_rule specs more spot page i) _ _ _ _ _ refl refl refl refl refl

pub kept_means : (specs : List KeySpec) (more : List MoreSpec) (spot : Spot3) (page : List ℕ) (i : ℕ) (packed : Bool) → KeepsItemRules specs more spot page i → has_packed specs more (tuple_of page i) ≡ packed → item_outcome specs more spot page i ≡ cond packed (Err Packed) (Ok (meaning_of specs more (tuple_of page i) (is_dead (item_of page i).flag)))
kept_means specs more spot page i packed k is =
    outcome_is specs more spot page i
    ∙ passed_chain _ _ _ (begins_past_end (tuple_of page i)) (is_unread (values_in specs more (tuple_of page i))) _ (has_packed specs more (tuple_of page i)) _ k.place k.size k.form k.values k.tids
    ∙ ap (λ (t : Bool). cond t (Err Packed) (Ok (meaning_of specs more (tuple_of page i) (is_dead (item_of page i).flag)))) is

pub read_means : (specs : List KeySpec) (more : List MoreSpec) (spot : Spot3) (page : List ℕ) (i : ℕ) (item : Item) → item_outcome specs more spot page i ≡ Ok item → KeepsItemRules specs more spot page i × (has_packed specs more (tuple_of page i) ≡ false) × (item ≡ meaning_of specs more (tuple_of page i) (is_dead (item_of page i).flag))
read_means specs more spot page i item e =
    let p = chain_ok _ _ _ (begins_past_end (tuple_of page i)) (is_unread (values_in specs more (tuple_of page i))) _ _ _ item (sym (outcome_is specs more spot page i) ∙ e) in
    (keeps_from specs more spot page i p.0, p.1, sym p.2)

pub packed_means : (specs : List KeySpec) (more : List MoreSpec) (spot : Spot3) (page : List ℕ) (i : ℕ) → (item_outcome specs more spot page i ≡ Err Packed) ↔ (KeepsItemRules specs more spot page i × (has_packed specs more (tuple_of page i) ≡ true))
packed_means specs more spot page i = (
  λ e.
      let p = chain_packed _ _ _ (begins_past_end (tuple_of page i)) (is_unread (values_in specs more (tuple_of page i))) _ _ _ (sym (outcome_is specs more spot page i) ∙ e) in
      (keeps_from specs more spot page i p.0, p.1),
  λ k. kept_means specs more spot page i true k.0 k.1,
)
