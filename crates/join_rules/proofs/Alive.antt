-- The test for an unkilled entry, and what it says.
use Rattle.std.proofs.Common.{◌≡◌, ◌∙◌, ℕ, Bool, true, false, List, [], ◌∷◌, refl, ap, sym, subst, arith}
use Rattle.std.specs.Prelude.{Contains, not, ◌==◌, ◌&&◌, ◌||◌}
use Rattle.std.specs.List.{list_any}
use Rattle.std.proofs.lemmas.Bool.{and_from, and_parts, not_from_false, not-true}
use Rattle.std.proofs.lemmas.Bool.Decides.{nat_tests}
use Rattle.std.proofs.lemmas.List.Folds.{list_any_at}
use Rattle.laws_search.specs.Keys.{Entry}
use Rattle.key_orders.specs.declared.columns.Value.{Value}
use Rattle.key_orders.specs.declared.Tid.{Tid}
use Rattle.key_storage.specs.Same.{same_key}
use Rattle.key_storage.proofs.SameLaws.{keys_decide}
use Rattle.bt_image.specs.Image.{LeafEntry}
use Rattle.bt_image.proofs.Gathered.{gathered}
use Rattle.bt_pages.specs.Trees.{Tree}
use Rattle.bt_level_check.specs.Trees.{image_of}
use Rattle.bt_steps.specs.Sought.{HasAlive as IsSearched, IsSought}
use Rattle.bt_steps.proofs.Members.{first-in, in-map, other-in}
use Rattle.join_slots.specs.Met.{same_tid}
use Rattle.join_rules.specs.Entries.{HasAlive, has_alive, is_alive, is_alive_of, tree_entries}

-- Places

pub tid-is : (s t : Tid) → same_tid s t ≡ true → t ≡ s
tid-is s t same =
    let parts = and_parts (s.block == t.block) (s.item == t.item) same in
    let block : t.block ≡ s.block = grind (arith, nat_tests, parts.0) in
    let item : t.item ≡ s.item = grind (arith, nat_tests, parts.1) in
    λ i. record { block = block i; item = item i }

number-same : (n : ℕ) → (n == n) ≡ true
number-same n = grind (arith, nat_tests)

pub tid-same : (t : Tid) → same_tid t t ≡ true
tid-same t = and_from (t.block == t.block) (t.item == t.item) (number-same t.block) (number-same t.item)

-- One entry, without included values

pub is-sought : (key : List Value) (tid : Tid) (e : Entry Value Tid) → is_alive key tid e ≡ true → IsSought key tid e × (e.killed ≡ false)
is-sought key tid e t =
    let parts = and_parts (same_tid tid e.tid && same_key key e.values) (not e.killed) t in
    let both = and_parts (same_tid tid e.tid) (same_key key e.values) parts.0 in
    (record { values = sym ((keys_decide key e.values).0 both.1); tid_is = tid-is tid e.tid both.0 }, not-true _ parts.1)

pub sought-is : (key : List Value) (tid : Tid) (e : Entry Value Tid) → IsSought key tid e → e.killed ≡ false → is_alive key tid e ≡ true
sought-is key tid e s alive =
    and_from (same_tid tid e.tid && same_key key e.values) (not e.killed)
    (and_from (same_tid tid e.tid) (same_key key e.values) (ap (same_tid tid) s.tid_is ∙ tid-same tid) ((keys_decide key e.values).1 (sym s.values)))
    (not_from_false _ alive)

-- And with them

module _ (key more : List Value) (tid : Tid) where
  -- one that passes the test
  pub passed : (e : LeafEntry) → is_alive_of key more tid e ≡ true → IsSought key tid e.entry × (e.more ≡ more) × (e.entry.killed ≡ false)
  passed e t =
      let parts = and_parts (is_alive key tid e.entry) (same_key more e.more) t in
      let what = is-sought key tid e.entry parts.0 in
      (what.0, sym ((keys_decide more e.more).0 parts.1), what.1)

  -- one that is sought passes it
  pub passes : (e : LeafEntry) → IsSought key tid e.entry → e.more ≡ more → e.entry.killed ≡ false → is_alive_of key more tid e ≡ true
  passes e s included alive =
      and_from (is_alive key tid e.entry) (same_key more e.more) (sought-is key tid e.entry s alive) ((keys_decide more e.more).1 (sym included))

  -- Some entry

  found-in : (es : List LeafEntry) → list_any (is_alive_of key more tid) es ≡ true → (e : LeafEntry) × Contains es e × (is_alive_of key more tid e ≡ true)
  found-in [] h = absurd cc
  found-in (e ∷ es) h = go (is_alive_of key more tid e) refl (λ t. found-in es t) h
    where
      go : (b : Bool) → is_alive_of key more tid e ≡ b
          → (list_any (is_alive_of key more tid) es ≡ true → (d : LeafEntry) × Contains es d × (is_alive_of key more tid d ≡ true))
          → (b || list_any (is_alive_of key more tid) es) ≡ true → (d : LeafEntry) × Contains (e ∷ es) d × (is_alive_of key more tid d ≡ true)
      go true is again t = (e, first-in e es, is)
      go false is again t = let rest = again t in (rest.0, other-in e rest.0 es rest.1, rest.2)

  pub is-there : (es : List LeafEntry) → has_alive es key more tid ≡ true → HasAlive es key more tid
  unfolding has_alive
  is-there es h =
      let found = found-in es h in
      let what = passed found.0 found.2 in
      record { entry = found.0; among = found.1; sought = what.0; included = what.1; alive = what.2 }

  pub counts : (es : List LeafEntry) → HasAlive es key more tid → has_alive es key more tid ≡ true
  unfolding has_alive
  counts es h =
      let at = h.among in
      list_any_at (is_alive_of key more tid) es at.0 h.entry at.1
      (subst (λ (d : LeafEntry). is_alive_of key more tid d ≡ true) (sym at.2) (passes h.entry h.sought h.included h.alive))

-- a search sees the key and the TID of the entry
pub searched : (tree : Tree) (key more : List Value) (tid : Tid) → HasAlive (tree_entries tree) key more tid → IsSearched (image_of tree) key tid
searched tree key more tid has = record {
  entry = has.entry.entry;
  among =
      subst (λ es. Contains es has.entry.entry) (sym (gathered tree.specs tree.more tree.blocks tree.block))
      (in-map (λ (e : LeafEntry). e.entry) (tree_entries tree) has.entry has.among);
  sought = has.sought;
  alive = has.alive;
}
