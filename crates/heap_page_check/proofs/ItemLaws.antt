-- What is found of an item is what is broken there.
use Rattle.std.proofs.Common.{◌≡◌, ℕ, ◌≤◌, Bool, true, false, List, [], length, refl, subst, arith, ◌⊎◌, inl, inr}
use Rattle.std.specs.Prelude.{Option, Some, None, if◌then◌else◌}
use Rattle.std.specs.List.{All}
use Rattle.std.proofs.lemmas.Bool.{both_ways}
use Rattle.std.proofs.lemmas.List.Elements.{All-nil, All-cons}
use Rattle.page_layout.specs.Items.{is_misplaced_heap_item, is_normal}
use Rattle.page_layout.specs.Page.{count_of, item_of, upper_of}
use Rattle.page_layout.specs.declared.page.LineFlag.{LineFlag}
use Rattle.page_layout.specs.declared.page.LineFlag.TheVariants as flag
use Rattle.page_layout.specs.declared.rules.Rule.{Rule}
use Rattle.page_layout.specs.declared.rules.Rule.TheVariants.{H1, H2, H4, H5, H6, H7, H8}
use Rattle.tuple_head.specs.Head.{KeepsHeadRules, breaks_head_rule, head_rule_of, is_old_form}
use Rattle.tuple_head.specs.declared.HeapHead.{HeapHead}
use Rattle.tuple_head.proofs.Exact.{first_is_broken, none_is_exact}
use Rattle.heap_tuples.specs.Places.{tuple_at}
use Rattle.heap_tuples.specs.Tuples.{attributes_in}
use Rattle.liveness.specs.Life.{BreaksRule, IsInDoubt, judged_of}
use Rattle.liveness.specs.declared.states.Doubt.{Doubt}
use Rattle.liveness.specs.declared.states.Doubt.TheVariants as doubt
use Rattle.liveness.specs.declared.states.ItemState.{ItemState}
use Rattle.liveness.specs.declared.states.Judged.{Judged}
use Rattle.liveness.specs.declared.states.Life.{Life}
use Rattle.liveness.specs.declared.states.Life.TheVariants as life
use Rattle.reports.specs.Added.{IsListed, found, in_doubt}
use Rattle.reports.specs.Lists.{Lists}
use Rattle.reports.specs.declared.places.Place.{Place}
use Rattle.reports.specs.declared.places.Place.TheVariants.{Item}
use Rattle.reports.specs.declared.places.Reason.{Reason}
use Rattle.heap_page_check.specs.Broken.{BreaksAt, misplaced, overlapping, in_header, in_logs, past_end, bad_length, bad_tag, stray_pointer, bad_pointer}
use Rattle.heap_page_check.specs.Broken.{BreaksItem, at_item, DoubtsItem, doubt_at_item, HoldsLiveTuple, IsNormalItem}
use Rattle.heap_page_check.specs.Found.{verdict_lists}
use Rattle.heap_page_check.specs.Storage.{overlaps_lower_item}
use Rattle.heap_page_check.specs.Table.{Table, logs_in, rel_of}
use Rattle.heap_page_check.specs.Values.{values_rule}
use Rattle.heap_page_check.specs.Verdicts.{flag_verdict, head_at, header_verdict, item_verdict, life_verdict, normal_verdict, reason_of}
use Rattle.heap_page_check.specs.Verdicts.{tuple_verdict, values_verdict}
use Rattle.heap_page_check.specs.declared.verdict.ItemVerdict.{ItemVerdict}
use Rattle.heap_page_check.specs.declared.verdict.ItemVerdict.TheVariants.{Passes, Breaks, InDoubt}
use Rattle.heap_page_check.proofs.HeaderLaws.{rule_holds}
use Rattle.heap_page_check.proofs.Overlaps.{overlap_told}
use Rattle.heap_page_check.proofs.LifeLaws.{broken_is, dead_is, doubt_is, live_is}
use Rattle.liveness.proofs.Told.{broken_is_told, doubt_is_told}
use Rattle.heap_page_check.proofs.ValueLaws.{KeepsValues, external_keeps, read_is_kept, values_break}

-- What a verdict says, where the item is normal

-- what the logs say of the tuple of an item
abbrev pub life_at : Table → List ℕ → ℕ → Life
life_at table page i = (judged_of (logs_in table) (head_at page i)).life

-- the item lies where it may, and its header can be judged and breaks no rule
record KeepsForm (table : Table) (page : List ℕ) (i : ℕ) : Type 0 where
  placed : is_misplaced_heap_item (upper_of page) (item_of page i) ≡ false
  apart : overlaps_lower_item page i ≡ false
  form : is_old_form (head_at page i) ≡ false
  header : head_rule_of (length table.columns) (item_of page i).len (head_at page i) ≡ None

-- a normal item that breaks nothing and isn't in doubt
record Keeps (table : Table) (page : List ℕ) (i : ℕ) : Type 0 where
  form : KeepsForm table page i
  settled : (life_at table page i ≡ life.Live) ⊎ (life_at table page i ≡ life.Dead)
  logs : (rule : Rule) → BreaksRule table.names table.logs (head_at page i) rule → ⊥
  sure : (d : Doubt) → IsInDoubt table.names table.logs (head_at page i) d → ⊥
  values : HoldsLiveTuple table page i → KeepsValues table page i

-- a reason is that of a doubt
record IsDoubtful (table : Table) (page : List ℕ) (i : ℕ) (reason : Reason) : Type 0 where
  doubt : Doubt
  reason_is : reason_of doubt ≡ reason
  is : IsInDoubt table.names table.logs (head_at page i) doubt

-- a verdict that is told: it breaks a rule that is broken at the item, or doubts what is in doubt there, or passes and nothing is
-- broken or in doubt
abbrev Tells : Table → List ℕ → ℕ → ItemVerdict → Type 0
Tells table page i (Breaks rule) = BreaksAt table page i rule
Tells table page i (InDoubt reason) = IsDoubtful table page i reason
Tells table page i (Passes state) = Keeps table page i

module _ (table : Table) (page : List ℕ) (i : ℕ) (at : IsNormalItem page i) where
  live_here : life_at table page i ≡ life.Live → HoldsLiveTuple table page i
  live_here is = let says = live_is table.names table.logs (head_at page i) is in record { item = at; inserted = says.0; kept = says.1 }

  values_tell : (judged : Judged) (found : Option Rule) → life_at table page i ≡ life.Live → KeepsForm table page i → values_rule table.toast (head_at page i) (attributes_in table.columns (tuple_at page i)) ≡ found → Tells table page i (values_verdict (head_at page i) judged found)
  values_tell judged (Some rule) live form is = values_break table page i _ rule (live_here live) refl is
  values_tell judged None live form is = record {
    form = form;
    settled = inl live;
    logs = λ rule broken. (broken_is_told table.names table.logs (head_at page i) form.form rule broken).0 live;
    sure = λ d doubted. (doubt_is_told table.names table.logs (head_at page i) form.form d doubted).0 live;
    values = λ holds. is;
  }

  life_tells : (judged : Judged) (l : Life) → life_at table page i ≡ l → KeepsForm table page i → Tells table page i (life_verdict table.toast table.columns (tuple_at page i) (head_at page i) judged l)
  life_tells judged life.Live is form = values_tell judged _ is form refl
  life_tells judged life.Dead is form = record {
    form = form;
    settled = inr is;
    logs = λ rule broken. (broken_is_told table.names table.logs (head_at page i) form.form rule broken).1 is;
    sure = λ d doubted. (doubt_is_told table.names table.logs (head_at page i) form.form d doubted).1 is;
    values = λ holds. absurd (holds.kept (dead_is table.names table.logs (head_at page i) is holds.inserted));
  }
  life_tells judged (life.Unjudged d) is form = record { doubt = d; reason_is = refl; is = doubt_is table.names table.logs (head_at page i) d is }
  life_tells judged (life.Broken rule) is form = in_logs rule (broken_is table.names table.logs (head_at page i) rule is)

  header_tells : (found : Option Rule) → head_rule_of (length table.columns) (item_of page i).len (head_at page i) ≡ found → is_misplaced_heap_item (upper_of page) (item_of page i) ≡ false → overlaps_lower_item page i ≡ false → is_old_form (head_at page i) ≡ false → Tells table page i (header_verdict table (tuple_at page i) (head_at page i) found)
  header_tells (Some rule) is p a f =
      in_header rule (rule_holds _ rule (λ r. breaks_head_rule (length table.columns) (item_of page i).len (head_at page i) r ≡ true) is (first_is_broken (length table.columns) (item_of page i).len (head_at page i)))
  header_tells None is p a f =
      life_tells (judged_of (logs_in table) (head_at page i)) _ refl (record { placed = p; apart = a; form = f; header = is })

  form_tells : (old : Bool) → is_old_form (head_at page i) ≡ old → is_misplaced_heap_item (upper_of page) (item_of page i) ≡ false → overlaps_lower_item page i ≡ false → Tells table page i (if old then InDoubt (reason_of doubt.U1) else header_verdict table (tuple_at page i) (head_at page i) (head_rule_of (length table.columns) (item_of page i).len (head_at page i)))
  form_tells true is p a = record { doubt = doubt.U1; reason_is = refl; is = is }
  form_tells false is p a = header_tells _ refl p a is

  tuple_tells : is_misplaced_heap_item (upper_of page) (item_of page i) ≡ false → overlaps_lower_item page i ≡ false → Tells table page i (tuple_verdict table (item_of page i).len (tuple_at page i))
  unfolding tuple_verdict
  tuple_tells p a = form_tells _ refl p a

  apart_tells : (overlaps : Bool) → overlaps_lower_item page i ≡ overlaps → is_misplaced_heap_item (upper_of page) (item_of page i) ≡ false → Tells table page i (if overlaps then Breaks H2 else tuple_verdict table (item_of page i).len (tuple_at page i))
  apart_tells true is p = overlapping ((overlap_told page i).0 is)
  apart_tells false is p = tuple_tells p is

  placed_tells : (astray : Bool) → is_misplaced_heap_item (upper_of page) (item_of page i) ≡ astray → Tells table page i (if astray then Breaks H1 else if overlaps_lower_item page i then Breaks H2 else tuple_verdict table (item_of page i).len (tuple_at page i))
  placed_tells true is = misplaced is
  placed_tells false is = apart_tells _ refl is

  normal_tells : Tells table page i (normal_verdict table page i)
  unfolding normal_verdict
  normal_tells = placed_tells _ refl

  flag_tells : (f : LineFlag) → (item_of page i).flag ≡ f → Tells table page i (flag_verdict table page i f)
  flag_tells flag.Normal is = normal_tells
  flag_tells flag.Unused is = absurd (both_ways (is_normal (item_of page i).flag) (rw is refl) at.normal)
  flag_tells flag.Redirect is = absurd (both_ways (is_normal (item_of page i).flag) (rw is refl) at.normal)
  flag_tells flag.Dead is = absurd (both_ways (is_normal (item_of page i).flag) (rw is refl) at.normal)

  -- the verdict on a normal item is told
  verdict_tells : Tells table page i (item_verdict table page i)
  unfolding item_verdict
  verdict_tells = flag_tells (item_of page i).flag refl

-- What the lists say

module _ (table : Table) (block : ℕ) (page : List ℕ) where
  abbrev pub place_of : ℕ → Place
  place_of i = Item (rel_of table.kind) block i

  abbrev pub lists_of : ℕ → Lists
  lists_of i = verdict_lists (place_of i) (item_verdict table page i)

  -- a verdict that lists something is of a normal item
  normal_by : (i : ℕ) (f : LineFlag) (rule : Rule) → 1 ≤ i → i ≤ count_of page → (item_of page i).flag ≡ f → flag_verdict table page i f ≡ Breaks rule → IsNormalItem page i
  normal_by i flag.Normal rule first last is e = record { first = first; last = last; normal = rw is refl }
  normal_by i flag.Unused rule first last is e = cc
  normal_by i flag.Redirect rule first last is e = cc
  normal_by i flag.Dead rule first last is e = cc

  normal_doubted : (i : ℕ) (f : LineFlag) (reason : Reason) → 1 ≤ i → i ≤ count_of page → (item_of page i).flag ≡ f → flag_verdict table page i f ≡ InDoubt reason → IsNormalItem page i
  normal_doubted i flag.Normal reason first last is e = record { first = first; last = last; normal = rw is refl }
  normal_doubted i flag.Unused reason first last is e = cc
  normal_doubted i flag.Redirect reason first last is e = cc
  normal_doubted i flag.Dead reason first last is e = cc

  pub broken_at : (i : ℕ) (rule : Rule) → 1 ≤ i → i ≤ count_of page → item_verdict table page i ≡ Breaks rule → BreaksItem table block page rule (place_of i)
  unfolding item_verdict
  broken_at i rule first last e =
      let at = normal_by i (item_of page i).flag rule first last refl e in
      at_item i rule at (subst (Tells table page i) e (verdict_tells table page i at))

  doubted_by : (i : ℕ) (reason : Reason) → IsNormalItem page i → IsDoubtful table page i reason → DoubtsItem table block page reason (place_of i)
  doubted_by i reason at is = subst (λ (r : Reason). DoubtsItem table block page r (place_of i)) is.reason_is (doubt_at_item i is.doubt at is.is)

  pub doubted_at : (i : ℕ) (reason : Reason) → 1 ≤ i → i ≤ count_of page → item_verdict table page i ≡ InDoubt reason → DoubtsItem table block page reason (place_of i)
  unfolding item_verdict
  doubted_at i reason first last e =
      let at = normal_doubted i (item_of page i).flag reason first last refl e in
      doubted_by i reason at (subst (Tells table page i) e (verdict_tells table page i at))

  sound_by : (i : ℕ) (verdict : ItemVerdict) → 1 ≤ i → i ≤ count_of page → item_verdict table page i ≡ verdict → All (λ f. BreaksItem table block page f.rule f.place) (verdict_lists (place_of i) verdict).findings
  sound_by i (Passes state) first last e = All-nil (λ f. BreaksItem table block page f.rule f.place)
  sound_by i (Breaks rule) first last e =
      All-cons (λ f. BreaksItem table block page f.rule f.place) (record { rule = rule; place = place_of i }) [] (broken_at i rule first last e) (All-nil (λ f. BreaksItem table block page f.rule f.place))
  sound_by i (InDoubt reason) first last e = All-nil (λ f. BreaksItem table block page f.rule f.place)

  -- each finding of an item is a rule that is broken there
  pub item_sound : (i : ℕ) → 1 ≤ i → i ≤ count_of page → All (λ f. BreaksItem table block page f.rule f.place) (lists_of i).findings
  item_sound i first last = sound_by i (item_verdict table page i) first last refl

  doubts_by : (i : ℕ) (verdict : ItemVerdict) → 1 ≤ i → i ≤ count_of page → item_verdict table page i ≡ verdict → All (λ u. DoubtsItem table block page u.reason u.place) (verdict_lists (place_of i) verdict).unjudged
  doubts_by i (Passes state) first last e = All-nil (λ u. DoubtsItem table block page u.reason u.place)
  doubts_by i (Breaks rule) first last e = All-nil (λ u. DoubtsItem table block page u.reason u.place)
  doubts_by i (InDoubt reason) first last e =
      All-cons (λ u. DoubtsItem table block page u.reason u.place) (record { reason = reason; place = place_of i }) [] (doubted_at i reason first last e) (All-nil (λ u. DoubtsItem table block page u.reason u.place))

  -- each doubt of an item is one
  pub item_doubts_sound : (i : ℕ) → 1 ≤ i → i ≤ count_of page → All (λ u. DoubtsItem table block page u.reason u.place) (lists_of i).unjudged
  item_doubts_sound i first last = doubts_by i (item_verdict table page i) first last refl

-- a header that keeps its rules breaks none
header_keeps : (columns len : ℕ) (head : HeapHead) (rule : Rule) → KeepsHeadRules columns len head → breaks_head_rule columns len head rule ≡ true → ⊥
header_keeps columns len head H4 keeps e = both_ways _ keeps.count e
header_keeps columns len head H5 keeps e = both_ways _ keeps.place e
header_keeps columns len head H6 keeps e = both_ways _ keeps.multixact e
header_keeps columns len head H7 keeps e = both_ways _ keeps.update e
header_keeps columns len head H8 keeps e = both_ways _ keeps.chain e
header_keeps columns len head _ keeps e = cc

no_rule : {rule : Rule} → Some rule ≡ None → ⊥
no_rule e = cc

-- an item that keeps the rules breaks none
breaks_none : (table : Table) (page : List ℕ) (i : ℕ) → Keeps table page i → (rule : Rule) → BreaksAt table page i rule → ⊥
breaks_none table page i keeps _ (misplaced t) = both_ways _ keeps.form.placed t
breaks_none table page i keeps _ (overlapping t) = both_ways _ keeps.form.apart ((overlap_told page i).1 t)
breaks_none table page i keeps _ (in_header rule t) = header_keeps _ _ _ rule ((none_is_exact _ _ _).0 keeps.form.header) t
breaks_none table page i keeps _ (in_logs rule t) = keeps.logs rule t
breaks_none table page i keeps _ (past_end column live t) = no_rule (read_is_kept table page i _ (keeps.values live) t)
breaks_none table page i keeps _ (bad_length column live t) = no_rule (read_is_kept table page i _ (keeps.values live) t)
breaks_none table page i keeps _ (bad_tag column live t) = no_rule (read_is_kept table page i _ (keeps.values live) t)
breaks_none table page i keeps _ (stray_pointer p has t) = both_ways _ (external_keeps table page i p (keeps.values has.live) has).0 t
breaks_none table page i keeps _ (bad_pointer p has t) = t (external_keeps table page i p (keeps.values has.live) has).1

module _ (table : Table) (block : ℕ) (page : List ℕ) where
  listed_by : (i : ℕ) (verdict : ItemVerdict) → Tells table page i verdict → (Keeps table page i → ⊥) → IsListed (verdict_lists (Item (rel_of table.kind) block i) verdict) (Item (rel_of table.kind) block i)
  listed_by i (Passes state) keeps broken = absurd (broken keeps)
  listed_by i (Breaks rule) tells broken = found rule (0, omega arith, refl)
  listed_by i (InDoubt reason) tells broken = in_doubt reason (0, omega arith, refl)

  -- where an item breaks a rule, its lists name the place
  pub item_listed : (i : ℕ) (rule : Rule) → IsNormalItem page i → BreaksAt table page i rule → IsListed (verdict_lists (Item (rel_of table.kind) block i) (item_verdict table page i)) (Item (rel_of table.kind) block i)
  item_listed i rule at broken = listed_by i (item_verdict table page i) (verdict_tells table page i at) (λ keeps. breaks_none table page i keeps rule broken)

  -- and where it is in doubt
  pub item_doubt_listed : (i : ℕ) (d : Doubt) → IsNormalItem page i → IsInDoubt table.names table.logs (head_at page i) d → IsListed (verdict_lists (Item (rel_of table.kind) block i) (item_verdict table page i)) (Item (rel_of table.kind) block i)
  item_doubt_listed i d at doubted = listed_by i (item_verdict table page i) (verdict_tells table page i at) (λ keeps. keeps.sure d doubted)

-- a live tuple that passes keeps the rules of its values
pub live_keeps : (table : Table) (page : List ℕ) (i : ℕ) (state : ItemState) → item_verdict table page i ≡ Passes state → HoldsLiveTuple table page i → KeepsValues table page i
live_keeps table page i state passes holds =
    let keeps : Keeps table page i = subst (Tells table page i) passes (verdict_tells table page i holds.item) in keeps.values holds

-- and the logs call it live
pub live_passes : (table : Table) (page : List ℕ) (i : ℕ) (state : ItemState) → item_verdict table page i ≡ Passes state → HoldsLiveTuple table page i → life_at table page i ≡ life.Live
live_passes table page i state passes holds =
    let keeps : Keeps table page i = subst (Tells table page i) passes (verdict_tells table page i holds.item) in by_life keeps.settled
  where
    by_life : (life_at table page i ≡ life.Live) ⊎ (life_at table page i ≡ life.Dead) → life_at table page i ≡ life.Live
    by_life (inl live) = live
    by_life (inr is) = absurd (holds.kept (dead_is table.names table.logs (head_at page i) is holds.inserted))
