-- A page of which nothing is listed is true.
use Rattle.std.proofs.Common.{◌≡◌, ℕ, ◌-◌, ◌≤◌, List, length, get_or, refl, sym, subst, ap, ◌∙◌, arith}
use Rattle.std.specs.Prelude.{is_some}
use Rattle.std.specs.List.{All}
use Rattle.std.proofs.lemmas.Bool.{cond-false, ne_eqb}
use Rattle.std.proofs.lemmas.List.Elements.{All-get_or}
use Rattle.page_layout.specs.Page.{item_of}
use Rattle.page_layout.specs.declared.page.LineFlag.{LineFlag}
use Rattle.page_layout.specs.declared.page.LineFlag.TheVariants as flag
use Rattle.liveness.specs.Life.{judged_of}
use Rattle.liveness.specs.declared.states.ItemState.{ItemState}
use Rattle.liveness.specs.declared.states.ItemState.TheVariants.{Unused, Dead, Tuple}
use Rattle.hot_chains.proofs.Law.{one_root}
use Rattle.hot_chains.specs.Chains.{chain_rule, is_live, is_live_tuple, item_at}
use Rattle.hot_chains.specs.Quiet.{HasOneRoot, IsLiveItem, KeepsChainRules}
use Rattle.vis_map.proofs.Exact.{none_is_true}
use Rattle.vis_map.specs.Rules.{map_rule_of}
use Rattle.vis_map.specs.Truth.{AreTrue, IsAllFrozen, IsAllVisible, IsSettled, IsVisible}
use Rattle.vis_map.specs.declared.bits.MapBits.{MapBits}
use Rattle.reports.proofs.Parts.{first_is_empty, second_is_empty, upto_is_empty}
use Rattle.reports.specs.Added.{finding_at, report_lists}
use Rattle.reports.specs.declared.places.Place.TheVariants.{Block, Item}
use Rattle.heap_page_check.specs.Broken.{HoldsLiveTuple, IsNormalItem}
use Rattle.heap_page_check.specs.Found.{states_of}
use Rattle.heap_page_check.specs.Pages.{chain_found, is_flagged_visible, joint_found}
use Rattle.heap_page_check.specs.States.{AreStatesOf, IsStateOf, unused, dead, redirect, tuple}
use Rattle.heap_page_check.specs.Table.{Table, logs_in, rel_of}
use Rattle.heap_page_check.specs.Truth.{AreTrueBits, IsFrozenPage, IsTruePage, IsVisiblePage}
use Rattle.heap_page_check.specs.Verdicts.{head_at}
use Rattle.heap_page_check.proofs.HeaderLaws.{no_finding_at}
use Rattle.heap_page_check.proofs.ItemLaws.{live_passes}
use Rattle.heap_page_check.proofs.LifeLaws.{live_is}
use Rattle.heap_page_check.proofs.ItemRules.{flag_is_normal}
use Rattle.heap_page_check.proofs.PageLaws.{IsQuietPage, each_passes}
use Rattle.heap_page_check.proofs.StateLaws.{passes_there, states_are_one, states_are_there}

-- the state of a normal item, and of a dead one
tuple_by : (table : Table) (page : List ℕ) (i : ℕ) (f : LineFlag) (s : ItemState) → (item_of page i).flag ≡ f → f ≡ flag.Normal → IsStateOf table page i s → s ≡ Tuple (head_at page i) (judged_of (logs_in table) (head_at page i))
tuple_by table page i f _ is normal (tuple e) = refl
tuple_by table page i f _ is normal (unused e) = absurd (no (sym e ∙ (is ∙ normal)))
  where
    no : ◌≡◌ {A = LineFlag} flag.Unused flag.Normal → ⊥
    no e = cc
tuple_by table page i f _ is normal (dead e) = absurd (no (sym e ∙ (is ∙ normal)))
  where
    no : ◌≡◌ {A = LineFlag} flag.Dead flag.Normal → ⊥
    no e = cc
tuple_by table page i f _ is normal (redirect e) = absurd (no (sym e ∙ (is ∙ normal)))
  where
    no : ◌≡◌ {A = LineFlag} flag.Redirect flag.Normal → ⊥
    no e = cc

dead_by : (table : Table) (page : List ℕ) (i : ℕ) (s : ItemState) → (item_of page i).flag ≡ flag.Dead → IsStateOf table page i s → s ≡ Dead
dead_by table page i _ is (dead e) = refl
dead_by table page i _ is (tuple e) = absurd (no (sym e ∙ is))
  where
    no : ◌≡◌ {A = LineFlag} flag.Normal flag.Dead → ⊥
    no e = cc
dead_by table page i _ is (unused e) = absurd (no (sym e ∙ is))
  where
    no : ◌≡◌ {A = LineFlag} flag.Unused flag.Dead → ⊥
    no e = cc
dead_by table page i _ is (redirect e) = absurd (no (sym e ∙ is))
  where
    no : ◌≡◌ {A = LineFlag} flag.Redirect flag.Dead → ⊥
    no e = cc

-- what holds of all states holds of each
at_item : (P : ItemState → Type 0) (states : List ItemState) (i : ℕ) → 1 ≤ i → i ≤ length states → All P states → P (item_at states i)
unfolding item_at
at_item P states i first last all =
    let other : i ≡ 0 → ⊥ = λ e. absurd (omega (arith, e, first)) in
    let here : item_at states i ≡ get_or states (i - 1) Unused = cond-false _ _ _ (ne_eqb i 0 other) in
    subst P (sym here) (All-get_or P states (i - 1) Unused (omega (arith, first, last)) all)

module _ (table : Table) (map : MapBits) (block : ℕ) (page : List ℕ) (quiet : IsQuietPage table map block page) where
  states : List ItemState
  states = states_of table page

  are : AreStatesOf table page (states_of table page)
  are = states_are_there table page (each_passes table block page quiet.pass)

  normal_state : (i : ℕ) → IsNormalItem page i → item_at (states_of table page) i ≡ Tuple (head_at page i) (judged_of (logs_in table) (head_at page i))
  normal_state i at = tuple_by table page i (item_of page i).flag _ refl (flag_is_normal (item_of page i).flag at.normal) (are.each i at.first at.last)

  -- all that is said of visibility
  bits_of_states : AreTrue map (is_flagged_visible page) (states_of table page)
  unfolding joint_found
  bits_of_states =
      none_is_true map (is_flagged_visible page) (states_of table page)
      (ap is_some (no_finding_at (Block (rel_of table.kind) block) (map_rule_of map (is_flagged_visible page) (states_of table page)) (first_is_empty _ _ quiet.joint)))

  visible_page : IsAllVisible (states_of table page) → IsVisiblePage table page
  visible_page all = record {
    none_dead = λ i first last is. subst IsVisible (dead_by table page i _ is (are.each i first last)) (at_item IsVisible (states_of table page) i first (omega (arith, last, are.count)) all);
    each_live = λ i at.
        let live : IsVisible (Tuple (head_at page i) (judged_of (logs_in table) (head_at page i))) = subst IsVisible (normal_state i at) (at_item IsVisible (states_of table page) i at.first (omega (arith, at.last, are.count)) all) in
        let says = live_is table.names table.logs (head_at page i) live in
        record { item = at; inserted = says.0; kept = says.1 };
  }

  frozen_page : IsAllFrozen (states_of table page) → IsFrozenPage page
  frozen_page all i at = subst IsSettled (normal_state i at) (at_item IsSettled (states_of table page) i at.first (omega (arith, at.last, are.count)) all)

  pub bits_are_true : AreTrueBits table map page
  bits_are_true =
      let true_bits = bits_of_states in
      record {
        flagged = λ set. visible_page (true_bits.flag set);
        visible = λ set. ((true_bits.visible set).0, visible_page (true_bits.visible set).1);
        frozen = λ set. ((true_bits.frozen set).0, frozen_page (true_bits.frozen set).1);
      }

  -- no rule of chains is broken
  pub chains_are_kept : KeepsChainRules block (states_of table page)
  unfolding joint_found chain_found
  chains_are_kept i first last =
      no_finding_at (Item (rel_of table.kind) block i) (chain_rule block (states_of table page) i)
      (upto_is_empty report_lists (λ l. l.findings) refl (λ a b. refl) (chain_found (rel_of table.kind) block (states_of table page)) (length (states_of table page)) i (second_is_empty (finding_at (Block (rel_of table.kind) block) (map_rule_of map (is_flagged_visible page) (states_of table page))).findings _ quiet.joint) first last)

  -- a live tuple is a live item
  live_item : (i : ℕ) → HoldsLiveTuple table page i → IsLiveItem (states_of table page) i
  live_item i holds =
      let passes = passes_there table page (each_passes table block page quiet.pass) i holds.item.first holds.item.last in
      let live = live_passes table page i _ passes holds in
      ap is_live_tuple (normal_state i holds.item) ∙ ap is_live live

  one_root_here : (s : List ItemState) → AreStatesOf table page s → (i : ℕ) → HoldsLiveTuple table page i → HasOneRoot block s i
  one_root_here s also i holds =
      subst (λ (x : List ItemState). HasOneRoot block x i) (sym (states_are_one table page s (states_of table page) also are)) (one_root block (states_of table page) chains_are_kept i (live_item i holds))

  pub page_is_true : IsTruePage table map block page
  page_is_true = record { header = quiet.pass.header; bits = bits_are_true; roots = one_root_here }
