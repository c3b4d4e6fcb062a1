-- The states of a page are those of its items.
use Rattle.std.proofs.Common.{◌≡◌, ℕ, zero, suc, ◌+◌, ◌-◌, ◌≤◌, ◌<◌, Bool, true, false, List, [], ◌∷◌, ◌++◌, length, get_or, refl, sym, subst, ap, ◌∙◌, arith, ◌⊎◌, inl, inr}
use Rattle.std.specs.Prelude.{Option, Some, None, if◌then◌else◌}
use Rattle.std.proofs.lemmas.Bool.{cond-false, ne_eqb}
use Rattle.std.proofs.lemmas.List.{get_or_append_left, get_or_push, length-append}
use Rattle.outside.specs.Adds.{one_list}
use Rattle.page_layout.specs.Items.{is_misplaced_heap_item}
use Rattle.page_layout.specs.Page.{count_of, item_of, upper_of}
use Rattle.page_layout.specs.declared.page.LineFlag.{LineFlag}
use Rattle.page_layout.specs.declared.page.LineFlag.TheVariants as flag
use Rattle.page_layout.specs.declared.rules.Rule.{Rule}
use Rattle.page_layout.specs.declared.rules.Rule.TheVariants.{H1, H2}
use Rattle.tuple_head.specs.Head.{head_rule_of, is_old_form}
use Rattle.heap_tuples.specs.Places.{tuple_at}
use Rattle.heap_tuples.specs.Tuples.{attributes_in}
use Rattle.liveness.specs.Life.{judged_of}
use Rattle.liveness.specs.declared.states.ItemState.{ItemState}
use Rattle.liveness.specs.declared.states.ItemState.TheVariants.{Unused, Dead, Redirect, Tuple}
use Rattle.liveness.specs.declared.states.Life.{Life}
use Rattle.liveness.specs.declared.states.Life.TheVariants as life
use Rattle.hot_chains.specs.Chains.{item_at}
use Rattle.reports.specs.Added.{each_upto}
use Rattle.reports.specs.declared.places.Reason.TheVariants.{U1}
use Rattle.heap_page_check.specs.Found.{item_state, state_in, states_of}
use Rattle.heap_page_check.specs.States.{AreStatesOf, IsStateOf, unused, dead, redirect, tuple}
use Rattle.heap_page_check.specs.Storage.{overlaps_lower_item}
use Rattle.heap_page_check.specs.Table.{Table, logs_in}
use Rattle.heap_page_check.specs.Values.{values_rule}
use Rattle.heap_page_check.specs.Verdicts.{flag_verdict, head_at, header_verdict, item_verdict, life_verdict, normal_verdict, tuple_verdict, values_verdict}
use Rattle.heap_page_check.specs.declared.verdict.ItemVerdict.{ItemVerdict}
use Rattle.heap_page_check.specs.declared.verdict.ItemVerdict.TheVariants.{Passes, Breaks, InDoubt}

-- What a verdict shows

-- an item that passes has its state
abbrev pub Shows : Table → List ℕ → ℕ → ItemVerdict → Type 0
Shows table page i (Passes state) = IsStateOf table page i state
Shows table page i (Breaks rule) = Unit {0}
Shows table page i (InDoubt reason) = Unit {0}

module _ (table : Table) (page : List ℕ) (i : ℕ) where
  either_shows : (t : Bool) (v w : ItemVerdict) → Shows table page i v → Shows table page i w → Shows table page i (if t then v else w)
  either_shows true v w first second = first
  either_shows false v w first second = second

  values_show : (found : Option Rule) → (item_of page i).flag ≡ flag.Normal → Shows table page i (values_verdict (head_at page i) (judged_of (logs_in table) (head_at page i)) found)
  values_show (Some rule) is = tt
  values_show None is = tuple is

  life_shows : (l : Life) → (item_of page i).flag ≡ flag.Normal → Shows table page i (life_verdict table.toast table.columns (tuple_at page i) (head_at page i) (judged_of (logs_in table) (head_at page i)) l)
  life_shows life.Live is = values_show (values_rule table.toast (head_at page i) (attributes_in table.columns (tuple_at page i))) is
  life_shows life.Dead is = tuple is
  life_shows (life.Unjudged u) is = tt
  life_shows (life.Broken rule) is = tt

  header_shows : (found : Option Rule) → (item_of page i).flag ≡ flag.Normal → Shows table page i (header_verdict table (tuple_at page i) (head_at page i) found)
  header_shows (Some rule) is = tt
  header_shows None is = life_shows (judged_of (logs_in table) (head_at page i)).life is

  tuple_shows : (item_of page i).flag ≡ flag.Normal → Shows table page i (tuple_verdict table (item_of page i).len (tuple_at page i))
  unfolding tuple_verdict
  tuple_shows is =
      either_shows (is_old_form (head_at page i)) (InDoubt U1)
      (header_verdict table (tuple_at page i) (head_at page i) (head_rule_of (length table.columns) (item_of page i).len (head_at page i)))
      tt (header_shows (head_rule_of (length table.columns) (item_of page i).len (head_at page i)) is)

  normal_shows : (item_of page i).flag ≡ flag.Normal → Shows table page i (normal_verdict table page i)
  unfolding normal_verdict
  normal_shows is =
      either_shows (is_misplaced_heap_item (upper_of page) (item_of page i)) (Breaks H1)
      (if overlaps_lower_item page i then Breaks H2 else tuple_verdict table (item_of page i).len (tuple_at page i)) tt
      (either_shows (overlaps_lower_item page i) (Breaks H2) (tuple_verdict table (item_of page i).len (tuple_at page i)) tt (tuple_shows is))

  flag_shows : (f : LineFlag) → (item_of page i).flag ≡ f → Shows table page i (flag_verdict table page i f)
  flag_shows flag.Unused is = unused is
  flag_shows flag.Normal is = normal_shows is
  flag_shows flag.Redirect is = redirect is
  flag_shows flag.Dead is = dead is

  pub verdict_shows : Shows table page i (item_verdict table page i)
  unfolding item_verdict
  verdict_shows = flag_shows (item_of page i).flag refl

  -- the state of an item that passes is what the page has there
  pub passed_state : (state : ItemState) → item_verdict table page i ≡ Passes state → IsStateOf table page i state
  passed_state state passes = subst (Shows table page i) passes verdict_shows

-- The states of a page whose items all pass

last_or_before : (i n : ℕ) → i ≤ suc n → (i ≤ n) ⊎ (i ≡ suc n)
last_or_before i n le = search (arith, inl, inr)

-- places that give one thing each give as many as there are
length-each_upto : {X : Type 0} (f : ℕ → List X) (n : ℕ) → ((i : ℕ) → 1 ≤ i → i ≤ n → length (f i) ≡ 1) → length (each_upto one_list f n) ≡ n
unfolding each_upto
length-each_upto f zero one = refl
length-each_upto f (suc n) one =
    let before = length-each_upto f n (λ i first last. one i first (omega arith)) in
    omega (arith, length-append (each_upto one_list f n) (f (suc n)), before, one (suc n) (omega arith) (omega arith))

-- and what the place i gives is the thing of that number
get_or-each_upto : {X : Type 0} (f : ℕ → List X) (n i : ℕ) (x d : X) → ((j : ℕ) → 1 ≤ j → j ≤ n → length (f j) ≡ 1) → 1 ≤ i → i ≤ n → f i ≡ x ∷ [] → get_or (each_upto one_list f n) (i - 1) d ≡ x
unfolding each_upto
get_or-each_upto f zero i x d one some le is = absurd (omega arith)
get_or-each_upto {X = X} f (suc n) i x d one some le is =
    let P : ℕ → Type 0 = λ j. f j ≡ x ∷ [] in
    let before_one : (j : ℕ) → 1 ≤ j → j ≤ n → length (f j) ≡ 1 = λ j first last. one j first (omega arith) in
    let long : length (each_upto one_list f n) ≡ n = length-each_upto f n before_one in
    let cases = last_or_before i n le in
    elim cases [
      | inl before ↦
          get_or_append_left (each_upto one_list f n) (f (suc n)) d (i - 1) (omega (arith, long, before, some))
          ∙ get_or-each_upto f n i x d before_one some before is
      | inr last ↦
          let here : f (suc n) ≡ x ∷ [] = subst P last is in
          ap (λ (l : List X). get_or (each_upto one_list f n ++ l) (i - 1) d) here
          ∙ get_or_push (each_upto one_list f n) x d (i - 1) (omega (arith, long, last))
    ]

-- an item that is counted is the one before it in the list
pub item_at-counted : (items : List ItemState) (i : ℕ) → 1 ≤ i → item_at items i ≡ get_or items (i - 1) Unused
unfolding item_at
item_at-counted items i some = let other : i ≡ 0 → ⊥ = λ e. absurd (omega (arith, e, some)) in cond-false _ _ _ (ne_eqb i 0 other)

-- each item passes
abbrev pub EachPasses : Table → List ℕ → Type 0
EachPasses table page = (i : ℕ) → 1 ≤ i → i ≤ count_of page → (state : ItemState) × (item_verdict table page i ≡ Passes state)

module _ (table : Table) (page : List ℕ) (pass : EachPasses table page) where
  one_state : (i : ℕ) → 1 ≤ i → i ≤ count_of page → length (item_state table page i) ≡ 1
  unfolding item_state
  one_state i first last = ap (λ (v : ItemVerdict). length (state_in v)) (pass i first last).1

  pub state_there : (i : ℕ) (state : ItemState) → 1 ≤ i → i ≤ count_of page → item_verdict table page i ≡ Passes state → item_at (states_of table page) i ≡ state
  unfolding states_of item_state
  state_there i state first last passes =
      item_at-counted (each_upto one_list (item_state table page) (count_of page)) i first
      ∙ get_or-each_upto (item_state table page) (count_of page) i state Unused one_state first last (ap state_in passes)

  -- each item passes with its state in the list
  pub passes_there : (i : ℕ) → 1 ≤ i → i ≤ count_of page → item_verdict table page i ≡ Passes (item_at (states_of table page) i)
  passes_there i first last =
      let own = pass i first last in
      own.1 ∙ ap Passes (sym (state_there i own.0 first last own.1))

  -- the list has the states of the items
  pub states_are_there : AreStatesOf table page (states_of table page)
  unfolding states_of
  states_are_there = record {
    count = length-each_upto (item_state table page) (count_of page) one_state;
    each = λ i first last. passed_state table page i (item_at (states_of table page) i) (passes_there i first last);
  }

-- A page has one list of states

state_here : Table → List ℕ → ℕ → LineFlag → ItemState
state_here table page i flag.Unused = Unused
state_here table page i flag.Dead = Dead
state_here table page i flag.Redirect = Redirect (item_of page i).off
state_here table page i flag.Normal = Tuple (head_at page i) (judged_of (logs_in table) (head_at page i))

state_is : (table : Table) (page : List ℕ) (i : ℕ) (s : ItemState) → IsStateOf table page i s → s ≡ state_here table page i (item_of page i).flag
unfolding state_here
state_is table page i _ (unused e) = ap (state_here table page i) (sym e)
state_is table page i _ (dead e) = ap (state_here table page i) (sym e)
state_is table page i _ (redirect e) = ap (state_here table page i) (sym e)
state_is table page i _ (tuple e) = ap (state_here table page i) (sym e)

-- lists of the same length with the same members are the same
same_lists : (xs ys : List ItemState) → length xs ≡ length ys → ((k : ℕ) → k < length xs → get_or xs k Unused ≡ get_or ys k Unused) → xs ≡ ys
same_lists [] [] long same = refl
same_lists [] (y ∷ ys) long same = absurd (omega (arith, long))
same_lists (x ∷ xs) [] long same = absurd (omega (arith, long))
same_lists (x ∷ xs) (y ∷ ys) long same =
    let first : x ≡ y = same 0 (omega arith) in
    let later : xs ≡ ys = same_lists xs ys (omega (arith, long)) (λ k lt. same (suc k) (omega (arith, lt))) in
    λ i. first i ∷ later i

pub states_are_one : (table : Table) (page : List ℕ) (s t : List ItemState) → AreStatesOf table page s → AreStatesOf table page t → s ≡ t
states_are_one table page s t are also =
    same_lists s t (are.count ∙ sym also.count) (λ k lt.
    let first : 1 ≤ k + 1 = omega arith in
    let last : k + 1 ≤ count_of page = omega (arith, lt, are.count) in
    let same : item_at s (k + 1) ≡ item_at t (k + 1) = state_is table page (k + 1) _ (are.each (k + 1) first last) ∙ sym (state_is table page (k + 1) _ (also.each (k + 1) first last)) in
    there s k ∙ same ∙ sym (there t k))
  where
    there : (items : List ItemState) (k : ℕ) → get_or items k Unused ≡ item_at items (k + 1)
    there items k =
        let back : k + 1 - 1 ≡ k = omega arith in
        ap (λ (n : ℕ). get_or items n Unused) (sym back) ∙ sym (item_at-counted items (k + 1) (omega arith))
