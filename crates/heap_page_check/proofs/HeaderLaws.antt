-- What is found of a page's header is what it breaks.
use Rattle.std.proofs.Common.{◌≡◌, ℕ, Bool, true, false, List, [], refl, sym, subst}
use Rattle.std.specs.Prelude.{Option, Some, None, IfSome, if◌then◌else◌}
use Rattle.std.specs.List.{All}
use Rattle.std.proofs.lemmas.Bool.{both_ways}
use Rattle.std.proofs.lemmas.List.Elements.{All-nil, All-cons}
use Rattle.page_layout.specs.Page.{has_other_version, has_unknown_page_flag, has_bad_places, is_new_but_written, page_rule_of}
use Rattle.page_layout.specs.declared.page.PageKind.{PageKind}
use Rattle.page_layout.specs.declared.rules.Rule.{Rule}
use Rattle.page_layout.specs.declared.rules.Rule.TheVariants.{P1, P2, P3, P4}
use Rattle.reports.specs.Added.{finding_at}
use Rattle.reports.specs.declared.places.Finding.{Finding}
use Rattle.reports.specs.declared.places.Place.{Place}
use Rattle.reports.specs.declared.places.Place.TheVariants.{Block}
use Rattle.reports.specs.declared.places.Rel.{Rel}
use Rattle.heap_page_check.specs.Alone.{BreaksHeader, other_version, unknown_flag, bad_places, stray_byte}

-- a rule that is the first of four, by their tests
header_by : (kind : PageKind) (rel : Rel) (block : ℕ) (page : List ℕ) (t1 t2 t3 t4 : Bool) → t1 ≡ has_other_version page → t2 ≡ has_unknown_page_flag page → t3 ≡ has_bad_places kind page → t4 ≡ is_new_but_written page → (rule : Rule) → (if t1 then Some P1 else if t2 then Some P2 else if t3 then Some P3 else if t4 then Some P4 else None) ≡ Some rule → BreaksHeader kind rel block page rule (Block rel block)
header_by kind rel block page true t2 t3 t4 e1 e2 e3 e4 rule e =
    let r : P1 ≡ rule = cc in subst (λ (q : Rule). BreaksHeader kind rel block page q (Block rel block)) r (other_version (sym e1))
header_by kind rel block page false true t3 t4 e1 e2 e3 e4 rule e =
    let r : P2 ≡ rule = cc in subst (λ (q : Rule). BreaksHeader kind rel block page q (Block rel block)) r (unknown_flag (sym e2))
header_by kind rel block page false false true t4 e1 e2 e3 e4 rule e =
    let r : P3 ≡ rule = cc in subst (λ (q : Rule). BreaksHeader kind rel block page q (Block rel block)) r (bad_places (sym e3))
header_by kind rel block page false false false true e1 e2 e3 e4 rule e =
    let r : P4 ≡ rule = cc in subst (λ (q : Rule). BreaksHeader kind rel block page q (Block rel block)) r (stray_byte (sym e4))
header_by kind rel block page false false false false e1 e2 e3 e4 rule e = cc

-- the page's rule is broken
pub page_rule_is_broken : (kind : PageKind) (rel : Rel) (block : ℕ) (page : List ℕ) (rule : Rule) → page_rule_of kind page ≡ Some rule → BreaksHeader kind rel block page rule (Block rel block)
unfolding page_rule_of
page_rule_is_broken kind rel block page rule e =
    header_by kind rel block page (has_other_version page) (has_unknown_page_flag page) (has_bad_places kind page) (is_new_but_written page) refl refl refl refl rule e

none_by : (t1 t2 t3 t4 : Bool) → (if t1 then Some P1 else if t2 then Some P2 else if t3 then Some P3 else if t4 then Some P4 else None) ≡ None → (t1 ≡ false) × (t2 ≡ false) × (t3 ≡ false) × (t4 ≡ false)
none_by true t2 t3 t4 e = cc
none_by false true t3 t4 e = cc
none_by false false true t4 e = cc
none_by false false false true e = cc
none_by false false false false e = (refl, refl, refl, refl)

-- the four tests of a header that breaks no rule
record KeepsHeaderRules (kind : PageKind) (page : List ℕ) : Type 0 where
  version : has_other_version page ≡ false
  flags : has_unknown_page_flag page ≡ false
  places : has_bad_places kind page ≡ false
  bytes : is_new_but_written page ≡ false

refuted : (kind : PageKind) (rel : Rel) (block : ℕ) (page : List ℕ) → KeepsHeaderRules kind page → (rule : Rule) (place : Place) → BreaksHeader kind rel block page rule place → ⊥
refuted kind rel block page keeps _ _ (other_version t) = both_ways _ keeps.version t
refuted kind rel block page keeps _ _ (unknown_flag t) = both_ways _ keeps.flags t
refuted kind rel block page keeps _ _ (bad_places t) = both_ways _ keeps.places t
refuted kind rel block page keeps _ _ (stray_byte t) = both_ways _ keeps.bytes t

-- where there is no page rule, the header breaks none
pub no_header_is_broken : (kind : PageKind) (rel : Rel) (block : ℕ) (page : List ℕ) → page_rule_of kind page ≡ None → (rule : Rule) (place : Place) → BreaksHeader kind rel block page rule place → ⊥
unfolding page_rule_of
no_header_is_broken kind rel block page e =
    let none = none_by (has_other_version page) (has_unknown_page_flag page) (has_bad_places kind page) (is_new_but_written page) e in
    refuted kind rel block page (record { version = none.0; flags = none.1; places = none.2; bytes = none.3 })

-- a finding at a place is of the rule there
pub All-finding_at : (P : Finding → Type 0) (place : Place) (found : Option Rule) → ((rule : Rule) → found ≡ Some rule → P (record { rule = rule; place = place })) → All P (finding_at place found).findings
All-finding_at P place None each = All-nil P
All-finding_at P place (Some rule) each = All-cons P (record { rule = rule; place = place }) [] (each rule refl) (All-nil P)

pub no_finding_at : (place : Place) (found : Option Rule) → (finding_at place found).findings ≡ [] → found ≡ None
no_finding_at place None e = refl
no_finding_at place (Some rule) e = cc

-- what holds of the rule that is found holds of this one, if it is this one
pub rule_holds : (found : Option Rule) (rule : Rule) (P : Rule → Type 0) → found ≡ Some rule → IfSome found P → P rule
rule_holds None rule P e holds = cc
rule_holds (Some r) rule P e holds = let same : r ≡ rule = cc in subst P same holds

-- a header breaks its rules at its block
pub place_of_header : (kind : PageKind) (rel : Rel) (block : ℕ) (page : List ℕ) (rule : Rule) (place : Place) → BreaksHeader kind rel block page rule place → place ≡ Block rel block
place_of_header kind rel block page _ _ (other_version t) = refl
place_of_header kind rel block page _ _ (unknown_flag t) = refl
place_of_header kind rel block page _ _ (bad_places t) = refl
place_of_header kind rel block page _ _ (stray_byte t) = refl
