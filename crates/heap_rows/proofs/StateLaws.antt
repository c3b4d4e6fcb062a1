-- The states of the items of a page, by their line pointers, headers and the logs.
use Rattle.std.proofs.Common.{◌≡◌, ◌⊎◌, inl, inr, ℕ, ◌+◌, ◌-◌, ◌≤◌, true, false, List, [], ◌∷◌, ◌++◌, length, get_or, ap, sym, subst, ◌∙◌, arith}
use Rattle.std.proofs.lemmas.Bool.{cond-false, ne_eqb}
use Rattle.std.proofs.lemmas.List.{get_or_append_left, get_or_push}
use Rattle.page_layout.specs.Items.{is_misplaced_heap_item, is_normal}
use Rattle.page_layout.specs.Page.{count_of, item_of, piece_of, upper_of}
use Rattle.page_layout.specs.declared.page.LineFlag.{LineFlag}
use Rattle.page_layout.specs.declared.page.LineFlag.TheVariants as flag
use Rattle.page_layout.specs.declared.page.LinePtr.{LinePtr}
use Rattle.tuple_head.specs.Head.{tuple_head_of}
use Rattle.liveness.specs.Life.{judged_of}
use Rattle.liveness.specs.Logs.{Logs}
use Rattle.liveness.specs.declared.states.ItemState.{ItemState}
use Rattle.liveness.specs.declared.states.ItemState.TheVariants.{Redirect, Tuple, Unused}
use Rattle.hot_chains.specs.Chains.{item_at}
use Rattle.heap_page_check.specs.States.{IsStateOf, redirect, tuple}
use Rattle.heap_page_check.specs.Table.{Table, logs_in}
use Rattle.heap_rows.specs.Places.{AreInPlace}

counts : (items : List ItemState) (i : ℕ) → 1 ≤ i → item_at items i ≡ get_or items (i - 1) Unused
unfolding item_at
counts items i some = let other : i ≡ 0 → ⊥ = λ e. absurd (omega (arith, e, some)) in cond-false _ _ _ (ne_eqb i 0 other)

-- One state after the other

before_or_last : (j k : ℕ) → j ≤ k + 1 → (j ≤ k) ⊎ (j ≡ k + 1)
before_or_last j k le = search (arith, inl, inr)

-- so far each item has its state
abbrev pub AreStatesUpto : Table → List ℕ → List ItemState → ℕ → Type 0
AreStatesUpto table page items k = (i : ℕ) → 1 ≤ i → i ≤ k → IsStateOf table page i (item_at items i)

pub none_upto : (table : Table) (page : List ℕ) (items : List ItemState) → AreStatesUpto table page items 0
none_upto table page items i first last = absurd (omega (arith, first, last))

pub next_upto : (table : Table) (page : List ℕ) (items new : List ItemState) (s : ItemState) (k : ℕ) → length items ≡ k → new ≡ items ++ s ∷ [] → AreStatesUpto table page items k → IsStateOf table page (k + 1) s → AreStatesUpto table page new (k + 1)
next_upto table page items new s k long is before own i first last =
    let cases = before_or_last i k last in
    elim cases [
      | inl le ↦
          subst (IsStateOf table page i)
          (counts items i first ∙ sym (get_or_append_left items (s ∷ []) Unused (i - 1) (omega (arith, long, le, first))) ∙ sym (counts (items ++ s ∷ []) i first) ∙ ap (λ (xs : List ItemState). item_at xs i) (sym is))
          (before i first le)
      | inr at ↦
          subst (λ (j : ℕ). IsStateOf table page j (item_at new j)) (sym at)
          (subst (IsStateOf table page (k + 1)) (sym (ap (λ (xs : List ItemState). item_at xs (k + 1)) is ∙ counts (items ++ s ∷ []) (k + 1) (omega arith) ∙ get_or_push items s Unused (k + 1 - 1) (omega (arith, long)))) own)
    ]

-- The state of an item by its line pointer

pub flag_at : (page : List ℕ) (i : ℕ) (p : LinePtr) (f : LineFlag) → p ≡ item_of page i → p.flag ≡ f → (item_of page i).flag ≡ f
flag_at page i p f at is = ap (λ (q : LinePtr). q.flag) (sym at) ∙ is

pub redirect_is_state : (table : Table) (page : List ℕ) (i : ℕ) (p : LinePtr) → p ≡ item_of page i → p.flag ≡ flag.Redirect → IsStateOf table page i (Redirect p.off)
redirect_is_state table page i p at is = subst (λ (q : LinePtr). IsStateOf table page i (Redirect q.off)) (sym at) (redirect (flag_at page i p flag.Redirect at is))

-- what a header and the logs say of a tuple
abbrev pub tuple_by : Logs → List ℕ → LinePtr → ItemState
tuple_by logs page p = Tuple (tuple_head_of (piece_of page p.off p.len)) (judged_of logs (tuple_head_of (piece_of page p.off p.len)))

pub normal_is_state : (table : Table) (page : List ℕ) (i : ℕ) (p : LinePtr) (logs : Logs) (state : ItemState) → p ≡ item_of page i → p.flag ≡ flag.Normal → logs_in table ≡ logs → AreInPlace page → 1 ≤ i → i ≤ count_of page
    → (is_normal p.flag ≡ true → is_misplaced_heap_item (upper_of page) p ≡ false → state ≡ tuple_by logs page p) → IsStateOf table page i state
normal_is_state table page i p logs state at is same placed first last says =
    let own : state ≡ tuple_by logs page p = says (ap is_normal is) (ap (λ (q : LinePtr). is_misplaced_heap_item (upper_of page) q) at ∙ placed i first last) in
    let here : state ≡ tuple_by (logs_in table) page (item_of page i) = own ∙ ap (λ (q : LinePtr). tuple_by logs page q) at ∙ ap (λ (l : Logs). tuple_by l page (item_of page i)) (sym same) in
    subst (IsStateOf table page i) (sym here) (tuple (flag_at page i p flag.Normal at is))
