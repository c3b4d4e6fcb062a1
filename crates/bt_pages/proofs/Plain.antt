-- What is found of an item by itself, by what reading it tells.
use Rattle.std.proofs.Common.{◌≡◌, ℕ, ◌∙◌, Bool, true, false, List, [], refl, sym, ap}
use Rattle.std.specs.Prelude.{◌&&◌, find, is_none, Option, Some, None, Ok, Err}
use Rattle.key_orders.specs.declared.columns.KeySpec.{KeySpec}
use Rattle.key_orders.specs.declared.more.MoreSpec.{MoreSpec}
use Rattle.key_orders.specs.Keys.{IsKeySeparator}
use Rattle.bt_meta.specs.Flags.{is_half_dead}
use Rattle.bt_meta.specs.Pages.{opaque_of}
use Rattle.bt_tuples.specs.declared.items.ItemFault.{ItemFault}
use Rattle.bt_tuples.specs.declared.items.Spot3.{Spot3}
use Rattle.bt_tuples.specs.declared.items.ItemFault.TheVariants.{Broken, Packed}
use Rattle.bt_tuples.specs.Items.{Item, ItemFits, ItemOutcome, Pivot, Plain, Posting, item_outcome, item_rule_of, rule_in}
use Rattle.bt_tuples.specs.Rules.{breaks_item_rule, has_packed, tuple_of}
use Rattle.bt_tuples.specs.Keys.{first_key, last_key}
use Rattle.bt_tuples.proofs.Outcomes.{packed_means, read_means, rule_is}
use Rattle.bt_image.specs.Image.{item_at, separator_in, spot_of}
use Rattle.reports.specs.declared.places.Reason.{Reason}
use Rattle.reports.specs.declared.places.Reason.TheVariants.{U5}
use Rattle.bt_pages.specs.Questions.{doubt_by, is_without_fault, own_doubt, own_rule, own_rules}

-- the doubt that an outcome names
abbrev pub doubt_in : ItemOutcome → Option Reason
doubt_in (Ok item) = None
doubt_in (Err (Broken rule)) = None
doubt_in (Err Packed) = Some U5

module _ (specs : List KeySpec) (more : List MoreSpec) (page : List ℕ) (i : ℕ) (live : is_half_dead (opaque_of page) ≡ false) where
  pub own_rule-live : (o : ItemOutcome) → item_outcome specs more (spot_of page i) page i ≡ o → own_rule specs more page i ≡ rule_in o
  unfolding own_rule item_rule_of
  own_rule-live o is =
      ap (λ (dead : Bool). find (breaks_item_rule specs more (spot_of page i) page i) (own_rules dead)) live
      ∙ sym (rule_is specs more (spot_of page i) page i) ∙ ap rule_in is

  doubt_is : (o : ItemOutcome) → item_outcome specs more (spot_of page i) page i ≡ o → doubt_by false (rule_in o) (has_packed specs more (tuple_of page i)) ≡ doubt_in o
  doubt_is (Ok item) is = ap (doubt_by false None) (read_means specs more (spot_of page i) page i item is).1
  doubt_is (Err (Broken rule)) is = refl
  doubt_is (Err Packed) is = ap (doubt_by false None) ((packed_means specs more (spot_of page i) page i).0 is).1

  pub own_doubt-live : (o : ItemOutcome) → item_outcome specs more (spot_of page i) page i ≡ o → own_doubt specs more page i ≡ doubt_in o
  unfolding own_doubt
  own_doubt-live o is =
      (λ k. doubt_by (live k) (own_rule-live o is k) (has_packed specs more (tuple_of page i))) ∙ doubt_is o is

  pub is_plain-live : (o : ItemOutcome) → item_outcome specs more (spot_of page i) page i ≡ o → is_without_fault specs more page i ≡ (is_none (rule_in o) && is_none (doubt_in o))
  unfolding is_without_fault
  is_plain-live o is = λ k. is_none (own_rule-live o is k) && is_none (own_doubt-live o is k)

  pub item-means : (item : Item) → item_outcome specs more (spot_of page i) page i ≡ Ok item → item ≡ item_at specs more page i
  unfolding item_at
  item-means item is = (read_means specs more (spot_of page i) page i item is).2

-- the keys of an item that was read fit the columns
pub fits-first : (specs : List KeySpec) (item : Item) → ItemFits specs item → IsKeySeparator specs (first_key item)
fits-first specs (Pivot sep down) h = h
fits-first specs (Plain key more tid killed) h = record { fits = h.fits; whole = λ with. h.whole }
fits-first specs (Posting key tids killed) h = record { fits = h.0.fits; whole = λ with. h.0.whole }

pub fits-last : (specs : List KeySpec) (item : Item) → ItemFits specs item → IsKeySeparator specs (last_key item)
fits-last specs (Pivot sep down) h = h
fits-last specs (Plain key more tid killed) h = record { fits = h.fits; whole = λ with. h.whole }
fits-last specs (Posting key tids killed) h = record { fits = h.0.fits; whole = λ with. h.0.whole }

pub fits-separator : (specs : List KeySpec) (item : Item) → ItemFits specs item → IsKeySeparator specs (separator_in item)
fits-separator specs (Pivot sep down) h = h
fits-separator specs (Plain key more tid killed) h = record { fits = refl; whole = λ with. absurd cc }
fits-separator specs (Posting key tids killed) h = record { fits = refl; whole = λ with. absurd cc }

pub nothing-fits : (specs : List KeySpec) → IsKeySeparator specs (record { kept = []; tid = None })
nothing-fits specs = record { fits = refl; whole = λ with. absurd cc }

-- what was read of an item, at its place
pub at_spot : (specs : List KeySpec) (more : List MoreSpec) (page : List ℕ) (i : ℕ) (spot : Spot3) (o : ItemOutcome)
    → spot ≡ spot_of page i → o ≡ item_outcome specs more spot page i → item_outcome specs more (spot_of page i) page i ≡ o
at_spot specs more page i spot o is e = sym (e ∙ ap (λ (s : Spot3). item_outcome specs more s page i) is)

fault_plain : (e : ItemFault) → (is_none (rule_in (Err e)) && is_none (doubt_in (Err e))) ≡ false
fault_plain (Broken rule) = refl
fault_plain Packed = refl

-- an item is plain exactly where it is read
pub plain-read : (specs : List KeySpec) (more : List MoreSpec) (page : List ℕ) (i : ℕ) (item : Item) → is_half_dead (opaque_of page) ≡ false
    → item_outcome specs more (spot_of page i) page i ≡ Ok item → is_without_fault specs more page i ≡ true
plain-read specs more page i item live e = is_plain-live specs more page i live (Ok item) e

pub plain-unread : (specs : List KeySpec) (more : List MoreSpec) (page : List ℕ) (i : ℕ) (fault : ItemFault) → is_half_dead (opaque_of page) ≡ false
    → item_outcome specs more (spot_of page i) page i ≡ Err fault → is_without_fault specs more page i ≡ false
plain-unread specs more page i fault live e = is_plain-live specs more page i live (Err fault) e ∙ fault_plain fault
