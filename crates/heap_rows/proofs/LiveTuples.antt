-- What a verdict that a tuple passes says of it, and of a live one.
use Rattle.std.proofs.Common.{◌≡◌, ℕ, Bool, true, false, List, length, refl, ap, sym, subst, ◌∙◌}
use Rattle.std.specs.Prelude.{Option, Some, None, Ok, Err, if◌then◌else◌}
use Rattle.page_layout.specs.Items.{is_misplaced_heap_item, is_normal}
use Rattle.page_layout.specs.Page.{item_of, upper_of}
use Rattle.page_layout.specs.declared.page.LineFlag.{LineFlag}
use Rattle.page_layout.specs.declared.page.LineFlag.TheVariants as flag
use Rattle.page_layout.specs.declared.rules.Rule.{Rule}
use Rattle.page_layout.specs.declared.rules.Rule.TheVariants.{H1, H2}
use Rattle.tuple_head.specs.Head.{has_misplaced_attributes, has_more_attributes_than_columns, head_rule_of, is_old_form}
use Rattle.tuple_head.specs.declared.HeapHead.{HeapHead}
use Rattle.tuple_head.proofs.Exact.{none_is_exact}
use Rattle.varlena_attrs.specs.Forms.{Attribute}
use Rattle.varlena_attrs.specs.Reading.{Outcome}
use Rattle.heap_tuples.specs.Tuples.{IsReadAs, attributes_in}
use Rattle.varlena_attrs.specs.declared.fault.AttrFault.TheVariants as fault
use Rattle.liveness.specs.Life.{judged_of}
use Rattle.liveness.specs.declared.states.ItemState.{ItemState}
use Rattle.liveness.specs.declared.states.ItemState.TheVariants.{Unused, Dead, Redirect, Tuple}
use Rattle.liveness.specs.declared.states.Judged.{Judged}
use Rattle.liveness.specs.declared.states.Life.{Life}
use Rattle.liveness.specs.declared.states.Life.TheVariants as life
use Rattle.hot_chains.specs.Chains.{is_live, is_live_tuple}
use Rattle.heap_tuples.specs.Places.{tuple_at}
use Rattle.reports.specs.declared.places.Reason.TheVariants as reason
use Rattle.heap_page_check.specs.declared.verdict.ItemVerdict.{ItemVerdict}
use Rattle.heap_page_check.specs.declared.verdict.ItemVerdict.TheVariants.{Passes, Breaks, InDoubt}
use Rattle.heap_page_check.specs.Found.{attributes_by, attributes_by_life, attributes_read, live_attributes}
use Rattle.heap_page_check.specs.Storage.{overlaps_lower_item}
use Rattle.heap_page_check.specs.Table.{Table, logs_in}
use Rattle.heap_page_check.specs.Values.{values_rule}
use Rattle.heap_page_check.specs.Verdicts.{flag_verdict, head_at, header_verdict, item_verdict, life_verdict, normal_verdict, tuple_verdict, values_verdict}

-- a live tuple that breaks nothing
pub record IsSoundTuple (table : Table) (page : List ℕ) (i : ℕ) : Type 0 where
  pub normal : is_normal (item_of page i).flag ≡ true
  pub placed : is_misplaced_heap_item (upper_of page) (item_of page i) ≡ false
  pub form : is_old_form (head_at page i) ≡ false
  pub header : head_rule_of (length table.columns) (item_of page i).len (head_at page i) ≡ None
  pub values : values_rule table.toast (head_at page i) (attributes_in table.columns (tuple_at page i)) ≡ None
  pub life : (judged_of (logs_in table) (head_at page i)).life ≡ life.Live

-- a verdict of a live tuple says so
abbrev Says : Table → List ℕ → ℕ → ItemVerdict → Type 0
Says table page i (Passes state) = is_live_tuple state ≡ true → IsSoundTuple table page i
Says table page i (Breaks rule) = Unit {0}
Says table page i (InDoubt reason) = Unit {0}

values_say : (table : Table) (page : List ℕ) (i : ℕ) (judged : Judged) (found : Option Rule) → (judged_of (logs_in table) (head_at page i)).life ≡ life.Live → is_normal (item_of page i).flag ≡ true → is_misplaced_heap_item (upper_of page) (item_of page i) ≡ false → is_old_form (head_at page i) ≡ false → head_rule_of (length table.columns) (item_of page i).len (head_at page i) ≡ None → values_rule table.toast (head_at page i) (attributes_in table.columns (tuple_at page i)) ≡ found → Says table page i (values_verdict (head_at page i) judged found)
values_say table page i judged (Some rule) l n p f h v = tt
values_say table page i judged None l n p f h v = λ live. record { normal = n; placed = p; form = f; header = h; values = v; life = l }

dead_is_not : (l : Life) → l ≡ life.Dead → is_live l ≡ true → ⊥
dead_is_not l e h = cc

life_says : (table : Table) (page : List ℕ) (i : ℕ) (l : Life) → (judged_of (logs_in table) (head_at page i)).life ≡ l → is_normal (item_of page i).flag ≡ true → is_misplaced_heap_item (upper_of page) (item_of page i) ≡ false → is_old_form (head_at page i) ≡ false → head_rule_of (length table.columns) (item_of page i).len (head_at page i) ≡ None → Says table page i (life_verdict table.toast table.columns (tuple_at page i) (head_at page i) (judged_of (logs_in table) (head_at page i)) l)
life_says table page i life.Live is n p f h = values_say table page i (judged_of (logs_in table) (head_at page i)) _ is n p f h refl
life_says table page i life.Dead is n p f h = λ live. absurd (dead_is_not (judged_of (logs_in table) (head_at page i)).life is live)
life_says table page i (life.Unjudged u) is n p f h = tt
life_says table page i (life.Broken rule) is n p f h = tt

header_says : (table : Table) (page : List ℕ) (i : ℕ) (found : Option Rule) → head_rule_of (length table.columns) (item_of page i).len (head_at page i) ≡ found → is_normal (item_of page i).flag ≡ true → is_misplaced_heap_item (upper_of page) (item_of page i) ≡ false → is_old_form (head_at page i) ≡ false → Says table page i (header_verdict table (tuple_at page i) (head_at page i) found)
header_says table page i (Some rule) is n p f = tt
header_says table page i None is n p f = life_says table page i (judged_of (logs_in table) (head_at page i)).life refl n p f is

form_says : (table : Table) (page : List ℕ) (i : ℕ) (old : Bool) → is_old_form (head_at page i) ≡ old → is_normal (item_of page i).flag ≡ true → is_misplaced_heap_item (upper_of page) (item_of page i) ≡ false → Says table page i (if old then InDoubt reason.U1 else header_verdict table (tuple_at page i) (head_at page i) (head_rule_of (length table.columns) (item_of page i).len (head_at page i)))
form_says table page i true is n p = tt
form_says table page i false is n p = header_says table page i _ refl n p is

tuple_says : (table : Table) (page : List ℕ) (i : ℕ) → is_normal (item_of page i).flag ≡ true → is_misplaced_heap_item (upper_of page) (item_of page i) ≡ false → Says table page i (tuple_verdict table (item_of page i).len (tuple_at page i))
unfolding tuple_verdict
tuple_says table page i n p = form_says table page i _ refl n p

apart_says : (table : Table) (page : List ℕ) (i : ℕ) (overlaps : Bool) → is_normal (item_of page i).flag ≡ true → is_misplaced_heap_item (upper_of page) (item_of page i) ≡ false → Says table page i (if overlaps then Breaks H2 else tuple_verdict table (item_of page i).len (tuple_at page i))
apart_says table page i true n p = tt
apart_says table page i false n p = tuple_says table page i n p

placed_says : (table : Table) (page : List ℕ) (i : ℕ) (astray : Bool) → is_misplaced_heap_item (upper_of page) (item_of page i) ≡ astray → is_normal (item_of page i).flag ≡ true → Says table page i (if astray then Breaks H1 else if overlaps_lower_item page i then Breaks H2 else tuple_verdict table (item_of page i).len (tuple_at page i))
placed_says table page i true is n = tt
placed_says table page i false is n = apart_says table page i _ n is

normal_says : (table : Table) (page : List ℕ) (i : ℕ) → is_normal (item_of page i).flag ≡ true → Says table page i (normal_verdict table page i)
unfolding normal_verdict
normal_says table page i n = placed_says table page i _ refl n

false_is_not : ◌≡◌ {A = Bool} false true → ⊥
false_is_not e = cc

flag_says : (table : Table) (page : List ℕ) (i : ℕ) (f : LineFlag) → (item_of page i).flag ≡ f → Says table page i (flag_verdict table page i f)
flag_says table page i flag.Normal is = normal_says table page i (ap is_normal is)
flag_says table page i flag.Unused is = λ live. absurd (false_is_not live)
flag_says table page i flag.Redirect is = λ live. absurd (false_is_not live)
flag_says table page i flag.Dead is = λ live. absurd (false_is_not live)

item_says : (table : Table) (page : List ℕ) (i : ℕ) → Says table page i (item_verdict table page i)
unfolding item_verdict
item_says table page i = flag_says table page i (item_of page i).flag refl

pub sound_tuple : (table : Table) (page : List ℕ) (i : ℕ) (state : ItemState) → item_verdict table page i ≡ Passes state → is_live_tuple state ≡ true → IsSoundTuple table page i
sound_tuple table page i state verdict live = subst (λ (v : ItemVerdict). Says table page i v) verdict (item_says table page i) live

-- ITS ATTRIBUTES

live_life : (outcome : Outcome) (l : Life) → is_live l ≡ true → attributes_by_life outcome l ≡ attributes_read outcome
live_life outcome life.Live live = refl
live_life outcome life.Dead live = cc
live_life outcome (life.Unjudged u) live = cc
live_life outcome (life.Broken rule) live = cc

live_state : (outcome : Outcome) (state : ItemState) → is_live_tuple state ≡ true → attributes_by outcome (Passes state) ≡ attributes_read outcome
live_state outcome (Tuple head judged) live = live_life outcome judged.life live
live_state outcome Unused live = cc
live_state outcome Dead live = cc
live_state outcome (Redirect target) live = cc

pub attributes_of_live : (table : Table) (page : List ℕ) (i : ℕ) (state : ItemState) → item_verdict table page i ≡ Passes state → is_live_tuple state ≡ true → live_attributes table page i ≡ attributes_read (attributes_in table.columns (tuple_at page i))
unfolding live_attributes
attributes_of_live table page i state verdict live =
    ap (λ (v : ItemVerdict). attributes_by (attributes_in table.columns (tuple_at page i)) v) verdict ∙ live_state (attributes_in table.columns (tuple_at page i)) state live

-- attributes that break no rule were read
read_by_rule : (toast : Option ℕ) (head : HeapHead) (outcome : Outcome) → values_rule toast head outcome ≡ None → IsReadAs outcome (attributes_read outcome)
read_by_rule toast head (Ok list) none = refl
read_by_rule toast head (Err (fault.PastEnd column)) none = absurd cc
read_by_rule toast head (Err (fault.BadHeader column)) none = absurd cc
read_by_rule toast head (Err (fault.BadTag column)) none = absurd cc
read_by_rule toast head (Err fault.NoMemory) none = tt

-- the attributes of a live tuple that passes
pub live_are_read : (table : Table) (page : List ℕ) (i : ℕ) (state : ItemState) → item_verdict table page i ≡ Passes state → is_live_tuple state ≡ true → IsReadAs (attributes_in table.columns (tuple_at page i)) (live_attributes table page i)
live_are_read table page i state verdict live =
    let sound = sound_tuple table page i state verdict live in
    subst (λ (list : List Attribute). IsReadAs (attributes_in table.columns (tuple_at page i)) list) (sym (attributes_of_live table page i state verdict live))
    (read_by_rule table.toast (head_at page i) (attributes_in table.columns (tuple_at page i)) sound.values)

-- its header keeps H4 and H5
pub header_place : (table : Table) (page : List ℕ) (i : ℕ) → IsSoundTuple table page i → has_misplaced_attributes (item_of page i).len (head_at page i) ≡ false
header_place table page i sound = ((none_is_exact _ _ _).0 sound.header).place

pub header_count : (table : Table) (page : List ℕ) (i : ℕ) → IsSoundTuple table page i → has_more_attributes_than_columns (length table.columns) (head_at page i) ≡ false
header_count table page i sound = ((none_is_exact _ _ _).0 sound.header).count
