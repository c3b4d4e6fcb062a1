use Rattle.std.proofs.Common.{◌≡◌, ◌∙◌, ℕ, ◌+◌, ◌-◌, List, false, subst, sym}
use Rattle.std.specs.Prelude.{Some, ◌==◌}
use Rattle.std.proofs.lemmas.Bool.{cond-false, ne_eqb}
use Rattle.std.specs.Ordering.{is_lt}
use Rattle.laws_search.specs.Keys.{Entry, as_separator, compare_keys}
use Rattle.laws_search.specs.Order.{IsOrder}
use Rattle.laws_search.specs.Probe.{halves_down, leaf_after}
use Rattle.key_orders.specs.declared.columns.KeySpec.{KeySpec}
use Rattle.key_orders.specs.declared.columns.Value.{Value}
use Rattle.key_orders.specs.declared.Tid.{Tid}
use Rattle.key_orders.specs.Keys.{columns_of, entry_of, tid_order}
use Rattle.key_orders.specs.Scans.{order_of}
use Rattle.bt_levels.specs.Sound.{block_count, fastroot_of, image_of, specs_of}
use Rattle.bt_steps.specs.Pages.{is_killed}
use Rattle.bt_steps.specs.Sought.{IsSought, is_below}
use Rattle.bt_search.specs.Lookups.{way_length}
use Rattle.bt_search.proofs.Lookups.{has-leaf, none-alive}
use Rattle.bt_search.proofs.look_up.entries_have_a_leaf.Goals as goal

-- an entry that is sought stands where the key and the TID do
level : (specs : List KeySpec) → IsOrder (order_of specs) → (key : List Value) (tid : Tid) (d : Entry Value Tid) → IsSought key tid d → ((order_of specs).precedes d (entry_of key tid) ≡ false) × ((order_of specs).precedes (entry_of key tid) d ≡ false)
level specs laws key tid d s =
    let same : as_separator d ≡ as_separator (entry_of key tid) = λ i. record { kept = s.values i; tid = Some (s.tid_is i) } in
    let itself = laws.strict (entry_of key tid) in (
      (λ i. is_lt (compare_keys (columns_of specs) tid_order (same i) (as_separator (entry_of key tid)))) ∙ itself,
      (λ i. is_lt (compare_keys (columns_of specs) tid_order (as_separator (entry_of key tid)) (same i))) ∙ itself,
    )

pub returns-clause-leaf : goal.returns-clause-leaf
returns-clause-leaf c names sound key tid holds some =
    let specs = specs_of sound in
    let x = image_of names sound in
    let laws = c.keys_are_searchable.ensures.order specs in
    let l = has-leaf (order_of specs) x laws (c.sound_trees_are_searchable.ensures names sound holds) (entry_of key tid) is_killed (λ none. some (holds.fastroot ∙ none)) in
    record {
      leaf = l.leaf;
      soon = subst (λ (b : ℕ). leaf_after x (is_below specs key tid) (way_length names sound) b ≡ Some l.leaf) (sym holds.fastroot)
          (subst (λ (n : ℕ). leaf_after x (is_below specs key tid) n x.fastroot ≡ Some l.leaf) (sym (cond-false (fastroot_of sound == 0) 0 (x.fastlevel + 1 + halves_down x x.fastlevel (x.level - x.fastlevel)) (ne_eqb (fastroot_of sound) 0 some))) l.soon);
      inside = subst (λ (b : ℕ). leaf_after x (is_below specs key tid) (block_count sound) b ≡ Some l.leaf) (sym holds.fastroot) l.inside;
      only = λ d there s. l.only d there (level specs laws key tid d s);
    }

pub returns-clause-empty : goal.returns-clause-empty
returns-clause-empty c names sound key tid holds none =
    let specs = specs_of sound in
    let laws = c.keys_are_searchable.ensures.order specs in
    λ d there s. none-alive (order_of specs) (image_of names sound) laws (c.sound_trees_are_searchable.ensures names sound holds) (entry_of key tid) is_killed (sym holds.fastroot ∙ none) d there (level specs laws key tid d s)
