-- The roots of the live rows of a heap in which nothing was found: none is another row's, and entries may name each.
use Rattle.std.proofs.Common.{◌≡◌, ◌≢◌, ◌∙◌, ◌+◌, ◌-◌, ◌<◌, ◌≤◌, ℕ, zero, suc, true, false, not, ◌&&◌, nat_le, nat_lt, List, [], ◌∷◌, get_or, length, refl, sym, ap, subst, arith, inl, inr}
use Rattle.std.specs.Prelude.{Bool, Contains, ◌==◌, if◌then◌else◌}
use Rattle.std.proofs.lemmas.Bool.{and_from, and_right, cases_eq, false≢true, le-leb, lt-ltb, ne_eqb, not-true}
use Rattle.std.proofs.lemmas.List.Elements.{All-contains}
use Rattle.outside.specs.Outside.{Names}
use Rattle.page_layout.specs.Items.{is_normal}
use Rattle.page_layout.specs.Page.{count_of, item_of, piece_of}
use Rattle.key_orders.specs.declared.Tid.{Tid}
use Rattle.case_file.specs.Record.{CaseRecord}
use Rattle.tuple_head.specs.Head.{is_heap_only, tuple_head_of}
use Rattle.heap_targets.specs.Targets.{is_heap_only_item, is_target, is_unused}
use Rattle.liveness.specs.declared.states.ItemState.{ItemState}
use Rattle.liveness.specs.declared.states.ItemState.TheVariants.{Unused}
use Rattle.hot_chains.specs.Chains.{Reaches, is_live, is_live_tuple, is_root, item_at}
use Rattle.hot_chains.specs.Quiet.{IsLiveItem}
use Rattle.hot_chains.proofs.Law.{one_live}
use Rattle.heap_page_check.specs.declared.verdict.ItemVerdict.TheVariants.{Passes}
use Rattle.heap_page_check.specs.Broken.{HoldsLiveTuple}
use Rattle.heap_page_check.specs.States.{IsStateOf, dead, redirect, tuple as of_tuple, unused}
use Rattle.heap_page_check.specs.Table.{Table}
use Rattle.heap_page_check.specs.Verdicts.{head_at, item_verdict}
use Rattle.heap_page_check.proofs.ItemLaws.{live_passes}
use Rattle.heap_page_check.proofs.PageLaws.{each_passes}
use Rattle.heap_page_check.proofs.StateLaws.{EachPasses, passes_there, states_are_there}
use Rattle.heap_table_check.specs.Case.{heap_blocks, table_of}
use Rattle.heap_table_check.specs.Found.{IsQuiet}
use Rattle.heap_rows.specs.declared.rows.LiveRow.{LiveRow}
use Rattle.heap_rows.specs.RowLaws.{AreLiveTuples, IsLiveAt, IsWholeRow, states_at}
use Rattle.heap_rows.specs.Rows.{heap_page, rows_of}
use Rattle.heap_rows.proofs.QuietHeap.{page_passes}
use Rattle.join_rules.specs.Entries.{may_be_named}

-- A root is an item of its page

inside : (items : List ItemState) (i : ℕ) → is_root (get_or items i Unused) ≡ true → i < length items
inside [] i is = absurd (false≢true is)
inside (x ∷ items) zero is = omega arith
inside (x ∷ items) (suc i) is = let lt = inside items i is in omega (arith, lt)

no-item : (items : List ItemState) (r : ℕ) → r ≡ 0 → is_root (item_at items r) ≡ true → ⊥
unfolding item_at
no-item items r none is = false≢true (ap (λ (k : ℕ). is_root (if k == 0 then Unused else get_or items (k - 1) Unused)) (sym none) ∙ is)

item-is : (items : List ItemState) (r : ℕ) → (r ≡ 0 → ⊥) → item_at items r ≡ get_or items (r - 1) Unused
unfolding item_at
item-is items r some = ap (λ (b : Bool). if b then Unused else get_or items (r - 1) Unused) (ne_eqb r 0 some)

pub root-inside : (items : List ItemState) (r : ℕ) → is_root (item_at items r) ≡ true → (r ≢ 0) × (r ≤ length items)
root-inside items r is = elim (cases_eq r 0) [
  | inl none ↦ absurd (no-item items r none is)
  | inr some ↦ (some, (let lt = inside items (r - 1) (ap is_root (sym (item-is items r some)) ∙ is) in omega (arith, lt, some)))
]

-- A root may be named

module _ (page : List ℕ) (i : ℕ) (first : 1 ≤ i) (last : i ≤ count_of page) where
  target : is_unused (item_of page i).flag ≡ false → is_heap_only_item page (item_of page i) ≡ false → is_target page i ≡ true
  unfolding is_target
  target used alone =
      λ k. le-leb 1 i first k && le-leb i (count_of page) last k && not (used k) && not (alone k)

  pub root-is-target : (table : Table) (state : ItemState) → IsStateOf table page i state → is_root state ≡ true → is_target page i ≡ true
  unfolding is_heap_only_item
  root-is-target table _ (unused e) root = absurd (false≢true root)
  root-is-target table _ (dead e) root = absurd (false≢true root)
  root-is-target table _ (redirect e) root =
      let p = item_of page i in
      target (ap is_unused e) (λ k. is_normal (e k) && nat_le (p.off + p.len) 8192 && is_heap_only (tuple_head_of (piece_of page p.off p.len)))
  root-is-target table _ (of_tuple e) root =
      let p = item_of page i in
      let own : is_heap_only (tuple_head_of (piece_of page p.off p.len)) ≡ false = not-true (is_heap_only (head_at page i)) root in
      target (ap is_unused e) ((λ k. is_normal (e k) && nat_le (p.off + p.len) 8192 && own k) ∙ and_right (nat_le (p.off + p.len) 8192) false refl)

-- A row's tuple is live

live-state : (table : Table) (page : List ℕ) (i : ℕ) (state : ItemState) → item_verdict table page i ≡ Passes state → IsStateOf table page i state → HoldsLiveTuple table page i → is_live_tuple state ≡ true
live-state table page i _ passes (of_tuple normal) live = ap is_live (live_passes table page i _ passes live)
live-state table page i _ passes (unused e) live = absurd (false≢true (sym (ap is_normal e) ∙ live.item.normal))
live-state table page i _ passes (dead e) live = absurd (false≢true (sym (ap is_normal e) ∙ live.item.normal))
live-state table page i _ passes (redirect e) live = absurd (false≢true (sym (ap is_normal e) ∙ live.item.normal))

module _ (case : CaseRecord) (names : Names) (quiet : IsQuiet case names) (whole : AreLiveTuples case names (rows_of case names)) where
  pub each-of : (block : ℕ) → block < heap_blocks case names → EachPasses (table_of case names) (heap_page case names block)
  each-of block below = each_passes (table_of case names) block (heap_page case names block) (page_passes case names quiet block below)

  live-item : (tid : Tid) → IsLiveAt case names tid → IsLiveItem (states_at case names tid.block) tid.item
  live-item tid at =
      let table = table_of case names in
      let page = heap_page case names tid.block in
      let each : EachPasses table page = each-of tid.block at.block in
      let i = tid.item in
      live-state table page i (item_at (states_at case names tid.block) i) (passes_there table page each i at.live.item.first at.live.item.last)
      ((states_are_there table page each).each i at.live.item.first at.live.item.last) at.live

  pub of-row : (row : LiveRow) → Contains (rows_of case names) row → IsWholeRow case names row
  of-row row among = All-contains (IsWholeRow case names) (rows_of case names) row whole.each among

  -- two rows with one root are one
  pub roots-apart : (row other : LiveRow) → Contains (rows_of case names) row → Contains (rows_of case names) other → row.root ≡ other.root → row.tid ≡ other.tid
  roots-apart row other first second same =
      let a = of-row row first in
      let b = of-row other second in
      let block : other.tid.block ≡ row.tid.block = sym b.root.block ∙ sym (ap (λ (t : Tid). t.block) same) ∙ a.root.block in
      let reaches : Reaches row.tid.block (states_at case names row.tid.block) row.root.item other.tid.item =
      subst (λ (i : ℕ). Reaches row.tid.block (states_at case names row.tid.block) i other.tid.item) (sym (ap (λ (t : Tid). t.item) same))
      (subst (λ (k : ℕ). Reaches k (states_at case names k) other.root.item other.tid.item) block b.root.reaches) in
      let live : IsLiveItem (states_at case names row.tid.block) other.tid.item =
      subst (λ (k : ℕ). IsLiveItem (states_at case names k) other.tid.item) block (live-item other.tid b.live) in
      let item = one_live row.tid.block (states_at case names row.tid.block) row.root.item row.tid.item other.tid.item a.root.reaches reaches (live-item row.tid a.live) live in
      λ i. record { block = sym block i; item = item i }

  -- an entry may name the root of each
  pub root-named : (row : LiveRow) → Contains (rows_of case names) row → may_be_named case names row.root ≡ true
  root-named row among =
      let own : IsWholeRow case names row = of-row row among in
      let block = row.tid.block in
      let page = heap_page case names block in
      let table = table_of case names in
      let each : EachPasses table page = each-of block own.live.block in
      let are = states_are_there table page each in
      let r = row.root.item in
      let within = root-inside (states_at case names block) r own.root.reaches.0 in
      let some = within.0 in
      let low = within.1 in
      let count = are.count in
      let first : 1 ≤ r = omega (arith, some) in
      let last : r ≤ count_of page = omega (arith, low, count) in
      let named = root-is-target page r first last table (item_at (states_at case names block) r) (are.each r first last) own.root.reaches.0 in
      let same = own.root.block in
      let below = own.live.block in
      and_from (nat_lt row.root.block (heap_blocks case names)) (is_target (heap_page case names row.root.block) r)
      (lt-ltb row.root.block (heap_blocks case names) (omega (arith, same, below)))
      (ap (λ (k : ℕ). is_target (heap_page case names k) r) same ∙ named)
