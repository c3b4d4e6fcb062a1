-- The rows that entries met are those with an entry in the index.
use Rattle.std.proofs.Common.{◌≡◌, ◌∙◌, Bool, true, false, List, [], ◌∷◌, ◌++◌, length, refl, ap, sym}
use Rattle.std.specs.Prelude.{All, cond, filter, map, not, ◌&&◌, ◌||◌, Some}
use Rattle.std.specs.List.{list_any}
use Rattle.std.proofs.lemmas.List.Elements.{All-head, All-tail}
use Rattle.outside.specs.Outside.{Names}
use Rattle.key_orders.specs.declared.columns.Value.{Value}
use Rattle.key_orders.specs.declared.Tid.{Tid}
use Rattle.key_attrs.specs.Columns.{TreeColumns}
use Rattle.key_storage.specs.Same.{same_key}
use Rattle.key_storage.proofs.SameLaws.{two_parts}
use Rattle.bt_image.specs.Image.{LeafEntry, index_entries}
use Rattle.bt_levels.specs.declared.sound.SoundTree.{SoundTree}
use Rattle.bt_levels.specs.Sound.{HoldsTree, block_count, held_block, index_columns, specs_of}
use Rattle.join_slots.specs.Met.{Keyed, Keys, Mets, keyed, has_entry as meets_entry, is_entry_of, meets, met_after, same_tid}
use Rattle.join_slots.specs.Slots.{Tables, keys_in, met_in}
use Rattle.join_slots.proofs.MetLaws.{met_after_is, met_if_entry}
use Rattle.join_meet.specs.Meeting.{HaveMet, HaveMetSome, alive_in, all_entries, is_alive as is_unkilled, keyed_entry, leaf_entries}
use Rattle.join_rules.specs.Entries.{has_alive, is_alive_of}
use Rattle.join_look_ups.specs.Judging.{MetHave, TellsOf}
use Rattle.join_look_ups.specs.Looking.{entries_of, has_entry}
use Rattle.join_look_ups.proofs.Widths.{HasKeyOf, entries-keyed}

-- The entries that met rows are those of the index

all-same : (columns : TreeColumns) (blocks : _) (block : _) → all_entries columns blocks block ≡ index_entries columns.specs columns.more blocks block
unfolding all_entries leaf_entries
all-same columns blocks block = refl

-- An entry that meets a row is one that is sought

regroup : (tid key more : Bool) → (tid && (key && more)) ≡ (((tid && key) && true) && more)
regroup false key more = refl
regroup true false more = refl
regroup true true more = refl

no-killed : (there more : Bool) → false ≡ ((there && false) && more)
no-killed false more = refl
no-killed true more = refl

module _ (key more : List Value) (tid : Tid) where
  one-same : (e : LeafEntry) → length key ≡ length e.entry.values → is_entry_of (keyed tid (key ++ more)) (keyed_entry e) ≡ (((same_tid tid e.entry.tid && same_key key e.entry.values) && true) && same_key more e.more)
  one-same e count =
      ap (λ (b : Bool). same_tid tid e.entry.tid && b) (two_parts key e.entry.values more e.more count)
      ∙ regroup (same_tid tid e.entry.tid) (same_key key e.entry.values) (same_key more e.more)

  some-same : (es : List LeafEntry) → All (HasKeyOf (length key)) es → meets_entry (alive_in es) (keyed tid (key ++ more)) ≡ list_any (is_alive_of key more tid) es
  some-same [] all = refl
  some-same (e ∷ es) all =
      let there = same_tid tid e.entry.tid && same_key key e.entry.values in
      by e.entry.killed there (same_key more e.more) (one-same e (sym (All-head (HasKeyOf (length key)) e es all))) (some-same es (All-tail (HasKeyOf (length key)) e es all))
    where
      by : (killed there beside : Bool) → is_entry_of (keyed tid (key ++ more)) (keyed_entry e) ≡ ((there && true) && beside) → meets_entry (alive_in es) (keyed tid (key ++ more)) ≡ list_any (is_alive_of key more tid) es
          → meets_entry (map keyed_entry (cond (not killed) (e ∷ filter is_unkilled es) (filter is_unkilled es))) (keyed tid (key ++ more)) ≡ (((there && not killed) && beside) || list_any (is_alive_of key more tid) es)
      by true there beside one rest = rest ∙ (λ i. no-killed there beside i || list_any (is_alive_of key more tid) es)
      by false there beside one rest = λ i. one i || rest i

-- The laws

-- an entry more or less that says what is said already
absorbed : (a b : Bool) → (a ≡ true → b ≡ true) → (a || b) ≡ b
absorbed true b so = sym (so refl)
absorbed false b so = refl

abbrev index-entries : Names → SoundTree → List LeafEntry
index-entries names tree = all_entries (index_columns tree) (block_count tree) (held_block names tree)

-- after all entries of the index a row that is kept was met exactly if it has one, where no row was met before
module _ (names : Names) (tree : SoundTree) (holds : HoldsTree names tree) (old : Tables) (unmet : (tid : Tid) → met_in old tid ≡ false) where
  all-met : (tid : Tid) (key more : List Value) → length key ≡ length (specs_of tree) → keys_in old tid ≡ Some (key ++ more) → met_after (keys_in old) (alive_in (index-entries names tree)) (met_in old) tid ≡ has_entry names tree key more tid
  unfolding has_alive
  all-met tid key more count there =
      let es : List LeafEntry = entries_of names tree in
      let met-es : List LeafEntry = index-entries names tree in
      (λ i. met_after (keys_in old) (alive_in met-es) (λ (t : Tid). unmet t i) tid)
      ∙ met_if_entry (keys_in old) (alive_in met-es) (keyed tid (key ++ more)) there
      ∙ ap (λ (l : List LeafEntry). meets_entry (alive_in l) (keyed tid (key ++ more))) (all-same (index_columns tree) (block_count tree) (held_block names tree))
      ∙ some-same key more tid es (entries-keyed names tree holds (length key) count)

  -- so it is after some of them and then all of them
  pub tells-of : (some new : Tables) → HaveMetSome (index-entries names tree) old some → HaveMet (index-entries names tree) some new → TellsOf names tree new
  tells-of some new early late tid key more count kept =
      let es : List Keyed = alive_in (index-entries names tree) in
      let keys : keys_in new ≡ keys_in old = late.keys ∙ early.keys in
      let there : keys_in old tid ≡ Some (key ++ more) = sym (ap (λ k. k tid) keys) ∙ kept in
      let after : (m : Mets) → met_after (keys_in old) es m tid ≡ (m tid || list_any (λ e. meets (keys_in old) e tid) es) = λ m. met_after_is (keys_in old) es m tid in
      let any : Bool = list_any (λ e. meets (keys_in old) e tid) es in
      let is : met_after (keys_in old) es (met_in old) tid ≡ any = after (met_in old) ∙ ap (λ (b : Bool). b || any) (unmet tid) in
      ap (λ m. m tid) late.met
      ∙ ap (λ (k : Keys). met_after k es (met_in some) tid) early.keys
      ∙ after (met_in some)
      ∙ absorbed (met_in some tid) any (λ met. sym is ∙ early.sound tid met)
      ∙ sym is
      ∙ all-met tid key more count there

  -- and after some of them a row that was met has one
  pub sound-of : (some : Tables) → HaveMetSome (index-entries names tree) old some → MetHave names tree some
  sound-of some early tid key more count kept met =
      sym (all-met tid key more count (sym (ap (λ k. k tid) early.keys) ∙ kept))
      ∙ early.sound tid met
