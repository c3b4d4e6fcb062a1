-- Entries after others, and none.
use Rattle.std.proofs.Common.{◌≡◌, ◌∙◌, ℕ, zero, suc, ◌+◌, ◌-◌, List, [], ◌∷◌, ◌++◌, length, Bool, true, false, get_or, refl, ap, arith, sym, take}
use Rattle.std.proofs.lemmas.Bool.{false≢true, le-leb, lt-ltb}
use Rattle.std.specs.Prelude.{◌&&◌, cond, filter, if◌then◌else◌, map, nat_le, nat_lt, Option, Some, None, slice_get}
use Rattle.key_orders.specs.declared.columns.Value.{Value}
use Rattle.key_orders.specs.declared.Tid.{Tid}
use Rattle.bt_tuples.specs.Items.{Posting}
use Rattle.key_attrs.specs.Columns.{TreeColumns}
use Rattle.bt_image.specs.Image.{LeafEntry, entries_in, leaf_entry, page_entries}
use Rattle.bt_steps.specs.Pages.{is_live_leaf}
use Rattle.join_slots.specs.Met.{Keyed, Keys, Mets, is_key, keyed, met_after, met_by}
use Rattle.join_slots.specs.Slots.{SameRange, Tables, blocks_in, is_within, key_of, keys_in, keys_of, met_in, slot_of}
use Rattle.join_slots.proofs.SlotLaws.{is_within_tells, not_met}
use Rattle.join_meet.specs.Meeting.{HaveMet, alive_in, is_alive, keyed_entry, leaf_entries}

pub alive-append : (xs ys : List LeafEntry) → alive_in (xs ++ ys) ≡ alive_in xs ++ alive_in ys
alive-append [] ys = refl
alive-append (e ∷ xs) ys = by (is_alive e) (alive-append xs ys)
  where
    by : (alive : Bool) → alive_in (xs ++ ys) ≡ alive_in xs ++ alive_in ys → map keyed_entry (cond alive (e ∷ filter is_alive (xs ++ ys)) (filter is_alive (xs ++ ys))) ≡ map keyed_entry (cond alive (e ∷ filter is_alive xs) (filter is_alive xs)) ++ alive_in ys
    by true rest = ap (λ (l : List Keyed). keyed_entry e ∷ l) rest
    by false rest = rest

pub met-append : (keys : Keys) (xs ys : List Keyed) (met : Mets) → met_after keys (xs ++ ys) met ≡ met_after keys ys (met_after keys xs met)
met-append keys [] ys met = refl
met-append keys (x ∷ xs) ys met = met-append keys xs ys (met_by keys met x)

pub none : (t : Tables) → HaveMet [] t t
none t = record { met = refl; keys = refl; range = record { first = refl; blocks = refl; has = refl } }

pub range-then : (a b c : Tables) → SameRange a b → SameRange b c → SameRange a c
range-then a b c h g = record { first = g.first ∙ h.first; blocks = g.blocks ∙ h.blocks; has = g.has ∙ h.has }

pub met-then : (xs ys : List LeafEntry) (a b c : Tables) → HaveMet xs a b → HaveMet ys b c → HaveMet (xs ++ ys) a c
met-then xs ys a b c h g = record {
  met =
      g.met
      ∙ (λ i. met_after (h.keys i) (alive_in ys) (h.met i))
      ∙ sym (met-append (keys_in a) (alive_in xs) (alive_in ys) (met_in a))
      ∙ ap (λ (l : List Keyed). met_after (keys_in a) l (met_in a)) (sym (alive-append xs ys));
  keys = g.keys ∙ h.keys;
  range = range-then a b c h.range g.range;
}

-- the same entries by another list
pub same : (xs ys : List LeafEntry) (a b : Tables) → xs ≡ ys → HaveMet xs a b → HaveMet ys a b
same xs ys a b is h = record { met = h.met ∙ ap (λ (l : List LeafEntry). met_after (keys_in a) (alive_in l) (met_in a)) is; keys = h.keys; range = h.range }

-- one entry that isn't killed, and one that is
pub one : (key more : List Value) (tid : Tid) (a b : Tables) → met_in b ≡ met_by (keys_in a) (met_in a) (keyed tid (key ++ more)) → keys_in b ≡ keys_in a → SameRange a b → HaveMet (leaf_entry key more tid false ∷ []) a b
one key more tid a b met keys range = record { met = met; keys = keys; range = range }

pub killed-one : (key more : List Value) (tid : Tid) (a : Tables) → HaveMet (leaf_entry key more tid true ∷ []) a a
killed-one key more tid a = record { met = refl; keys = refl; range = record { first = refl; blocks = refl; has = refl } }

-- one where it points no row is kept
pub absent-one : (key more : List Value) (tid : Tid) (a : Tables) → keys_in a tid ≡ None → HaveMet (leaf_entry key more tid false ∷ []) a a
absent-one key more tid a none =
    one key more tid a a (not_met (keys_in a) (met_in a) tid (key ++ more) (ap (is_key (key ++ more)) none)) refl (record { first = refl; blocks = refl; has = refl })

-- none is kept in a block outside the range
both-hold : (a b : Bool) → a ≡ true → b ≡ true → (a && b) ≡ false → ⊥
both-hold true true p q none = false≢true (sym none)
both-hold true false p q none = false≢true q
both-hold false b p q none = false≢true p

pub uncovered : (t : Tables) (tid : Tid) → (nat_le t.first tid.block && nat_lt (tid.block - t.first) (blocks_in t)) ≡ false → keys_in t tid ≡ None
unfolding keys_of
uncovered t tid none = by (is_within t.first t.starts tid) refl
  where
    by : (b : Bool) → is_within t.first t.starts tid ≡ b → keys_in t tid ≡ None
    by false out = ap (λ (b : Bool). cond b (key_of t.arena (get_or t.records (slot_of t.first t.starts tid) 0)) None) out
    by true in_it =
        let w = is_within_tells t.first t.starts tid in_it in
        absurd (both-hold (nat_le t.first tid.block) (nat_lt (tid.block - t.first) (blocks_in t)) (le-leb t.first tid.block w.low) (lt-ltb (tid.block - t.first) (blocks_in t) (omega (arith, w.high))) none)

killed-none : (key : List Value) (tids : List Tid) → alive_in (entries_in (Posting key tids true)) ≡ []
killed-none key [] = refl
killed-none key (t ∷ ts) = killed-none key ts

pub killed-list : (key : List Value) (tids : List Tid) (a : Tables) → HaveMet (entries_in (Posting key tids true)) a a
killed-list key tids a = record {
  met = ap (λ (l : List Keyed). met_after (keys_in a) l (met_in a)) (sym (killed-none key tids));
  keys = refl;
  range = record { first = refl; blocks = refl; has = refl };
}

-- the entries of a list of TIDs
pub list-count : (key : List Value) (tids : List Tid) (killed : Bool) → length (entries_in (Posting key tids killed)) ≡ length tids
list-count key [] killed = refl
list-count key (t ∷ ts) killed = ap suc (list-count key ts killed)

pub list-get : (key : List Value) (tids : List Tid) (killed : Bool) (k : ℕ) (t : Tid) → slice_get tids k ≡ Some t → slice_get (entries_in (Posting key tids killed)) k ≡ Some (leaf_entry key [] t killed)
list-get key [] killed k t e = absurd cc
list-get key (u ∷ ts) killed zero t e = ap (λ (o : Tid). Some (leaf_entry key [] o killed)) (inner e)
  where
    inner : ◌≡◌ {A = Option Tid} (Some u) (Some t) → u ≡ t
    inner h = cc
list-get key (u ∷ ts) killed (suc k) t e = list-get key ts killed k t e

-- a list with one more
abbrev as_entry : LeafEntry → Option LeafEntry → LeafEntry
as_entry d (Some e) = e
as_entry d None = d

pub taken : (es : List LeafEntry) (k : ℕ) (e : LeafEntry) → slice_get es k ≡ Some e → take (k + 1) es ≡ take k es ++ e ∷ []
taken [] k e is = absurd cc
taken (x ∷ xs) zero e is = ap (λ (o : Option LeafEntry). as_entry x o ∷ []) is
taken (x ∷ xs) (suc k) e is =
    let n : suc k + 1 ≡ suc (k + 1) = omega arith in
    ap (λ (m : ℕ). take m (x ∷ xs)) n ∙ ap (λ (l : List LeafEntry). x ∷ l) (taken xs k e is)

-- a page that is no leaf in use has none, and one that is those of its items
pub no-leaf : (columns : TreeColumns) (page : List ℕ) → is_live_leaf page ≡ false → leaf_entries columns page ≡ []
unfolding leaf_entries
no-leaf columns page none = ap (λ (live : Bool). if live then page_entries columns.specs columns.more page else []) none

pub a-leaf : (columns : TreeColumns) (page : List ℕ) → is_live_leaf page ≡ true → leaf_entries columns page ≡ page_entries columns.specs columns.more page
unfolding leaf_entries
a-leaf columns page live = ap (λ (l : Bool). if l then page_entries columns.specs columns.more page else []) live
