-- What the lists of a block say, each by its sentence.
use Rattle.std.proofs.Common.{◌≡◌, ℕ, ◌∙◌, ◌⊎◌, inl, inr, Bool, true, false, cond, List, [], ◌∷◌, ◌++◌, refl, sym, ap, subst, append-nil, arith}
use Rattle.std.specs.Prelude.{All, Contains, is_none, ◌&&◌, Option, Some, None}
use Rattle.std.specs.Option.{option_or}
use Rattle.std.proofs.lemmas.Bool.{both_ways, cond-true}
use Rattle.std.proofs.lemmas.List.Elements.{All-append, All-cons, All-nil, Contains-append_left, Contains-append_right}
use Rattle.page_layout.specs.Page.{count_of}
use Rattle.page_layout.specs.declared.rules.Rule.{Rule}
use Rattle.page_layout.specs.declared.rules.Rule.TheVariants.{B12}
use Rattle.bt_meta.specs.Flags.{is_half_dead}
use Rattle.bt_meta.specs.Pages.{is_idle, opaque_of}
use Rattle.bt_tuples.specs.Rules.{has_packed, tuple_of}
use Rattle.bt_image.specs.Pages.{breaks_siblings}
use Rattle.reports.specs.Added.{doubt_at, finding_at, joined, report_lists}
use Rattle.reports.specs.Lists.{Lists}
use Rattle.reports.specs.declared.places.Finding.{Finding}
use Rattle.reports.specs.declared.places.UnjudgedPlace.{UnjudgedPlace}
use Rattle.reports.specs.declared.places.Place.{Place}
use Rattle.reports.specs.declared.places.Reason.{Reason}
use Rattle.reports.specs.declared.places.Reason.TheVariants.{U5}
use Rattle.reports.proofs.Parts.{All-upto, among_upto}
use Rattle.bt_pages.specs.Trees.{Tree}
use Rattle.bt_pages.specs.Questions.{breaks_item, breaks_lone_rule, doubt_by, item_rule, item_rules, lone_rule, lone_rules, own_doubt, own_rule, sibling_rule}
use Rattle.bt_pages.specs.Found.{block_lists, block_place, item_lists, item_place, items_lists}
use Rattle.bt_pages.specs.Broken.{AreEmpty, BreaksBlock, alone, siblings, item, DoubtsBlock, packed, IsDoubtedAt, doubted, IsFoundAt, found, IsJudged, IsJudgedItem}
use Rattle.bt_pages.proofs.Finding.{IsFound, among_one, find-none, find-some}
use Rattle.bt_pages.proofs.Lists.{page-broken, page-idle, page-live}

-- an option by its cases
pub record IsThe {X : Type 0} (o : Option X) : Type 0 where
  pub it : X
  pub is : o ≡ Some it

pub some_or_none : {X : Type 0} (o : Option X) → (o ≡ None) ⊎ IsThe o
some_or_none None = inl refl
some_or_none (Some x) = inr (record { it = x; is = refl })

pub or_none : {X : Type 0} (o p : Option X) → option_or o p ≡ None → (o ≡ None) × (p ≡ None)
or_none None p e = (refl, e)
or_none (Some x) p e = absurd cc

-- what is found at a place
pub All-finding_at : (P : Finding → Type 0) (place : Place) (o : Option Rule) → ((rule : Rule) → o ≡ Some rule → P (record { rule = rule; place = place })) → All P (finding_at place o).findings
All-finding_at P place None each = All-nil P
All-finding_at P place (Some rule) each = All-cons P (record { rule = rule; place = place }) [] (each rule refl) (All-nil P)

pub All-doubt_at : (P : UnjudgedPlace → Type 0) (place : Place) (o : Option Reason) → ((reason : Reason) → o ≡ Some reason → P (record { reason = reason; place = place })) → All P (doubt_at place o).unjudged
All-doubt_at P place None each = All-nil P
All-doubt_at P place (Some reason) each = All-cons P (record { reason = reason; place = place }) [] (each reason refl) (All-nil P)

pub no_findings : (place : Place) (o : Option Reason) → (doubt_at place o).findings ≡ []
no_findings place None = refl
no_findings place (Some reason) = refl

pub no_doubts : (place : Place) (o : Option Rule) → (finding_at place o).unjudged ≡ []
no_doubts place None = refl
no_doubts place (Some rule) = refl

pub among_finding : (place : Place) (o : Option Rule) (rule : Rule) → o ≡ Some rule → Contains (finding_at place o).findings (record { rule = rule; place = place })
among_finding place o rule e = subst (λ (p : Option Rule). Contains (finding_at place p).findings (record { rule = rule; place = place })) (sym e) (among_one (record { rule = rule; place = place }))

pub among_doubt : (place : Place) (o : Option Reason) (reason : Reason) → o ≡ Some reason → Contains (doubt_at place o).unjudged (record { reason = reason; place = place })
among_doubt place o reason e = subst (λ (p : Option Reason). Contains (doubt_at place p).unjudged (record { reason = reason; place = place })) (sym e) (among_one (record { reason = reason; place = place }))

none_at : (place : Place) (o : Option Rule) → (finding_at place o).findings ≡ [] → o ≡ None
none_at place None e = refl
none_at place (Some rule) e = absurd cc

no_doubt_at : (place : Place) (o : Option Reason) → (doubt_at place o).unjudged ≡ [] → o ≡ None
no_doubt_at place None e = refl
no_doubt_at place (Some reason) e = absurd cc

-- B12
sibling_says : (t : Bool) (rule : Rule) → cond t (Some B12) None ≡ Some rule → (t ≡ true) × (B12 ≡ rule)
sibling_says true rule e = (refl, cc)
sibling_says false rule e = absurd cc

-- U5
record SaysDoubt (h : Bool) (o : Option Rule) (p : Bool) (reason : Reason) : Type 0 where
  live : h ≡ false
  keeps : o ≡ None
  has : p ≡ true
  is : U5 ≡ reason

doubt_says : (h : Bool) (o : Option Rule) (p : Bool) (reason : Reason) → doubt_by h o p ≡ Some reason → SaysDoubt h o p reason
doubt_says true o p reason e = absurd cc
doubt_says false (Some rule) p reason e = absurd cc
doubt_says false None true reason e = record { live = refl; keeps = refl; has = refl; is = cc }
doubt_says false None false reason e = absurd cc

pub not_packed : (h : Bool) (o : Option Rule) (p : Bool) → doubt_by h o p ≡ None → h ≡ false → o ≡ None → p ≡ false
not_packed true o p e live keeps = absurd cc
not_packed false (Some rule) p e live keeps = absurd cc
not_packed false None true e live keeps = absurd cc
not_packed false None false e live keeps = refl

pub both_none : {X Y : Type 0} (o : Option X) (p : Option Y) → o ≡ None → p ≡ None → (is_none o && is_none p) ≡ true
both_none o p e f = λ k. is_none (e k) && is_none (f k)

module _ (tree : Tree) (b : ℕ) where
  -- The lists, by what is found of the page

  lists-broken : (rule : Rule) → lone_rule (tree.block b) ≡ Some rule → finding_at (block_place tree b) (Some rule) ≡ block_lists tree b
  lists-broken rule e = page-broken tree b (tree.block b) rule (sym e)

  lists-live : IsJudged (tree.block b) → joined (finding_at (block_place tree b) (sibling_rule tree b)) (items_lists tree b (tree.block b)) ≡ block_lists tree b
  lists-live j = page-live tree b (tree.block b) (sibling_rule tree b) (sym j.keeps) j.used refl

  item-findings : (i : ℕ) → (item_lists tree b (tree.block b) i).findings ≡ (finding_at (item_place tree b i) (item_rule tree (tree.block b) i)).findings
  unfolding item_lists
  item-findings i =
      ap (λ (xs : List Finding). (finding_at (item_place tree b i) (item_rule tree (tree.block b) i)).findings ++ xs) (no_findings (item_place tree b i) (own_doubt tree.specs tree.more (tree.block b) i))
      ∙ append-nil (finding_at (item_place tree b i) (item_rule tree (tree.block b) i)).findings

  item-unjudged : (i : ℕ) → (item_lists tree b (tree.block b) i).unjudged ≡ (doubt_at (item_place tree b i) (own_doubt tree.specs tree.more (tree.block b) i)).unjudged
  unfolding item_lists
  item-unjudged i =
      ap (λ (us : List UnjudgedPlace). us ++ (doubt_at (item_place tree b i) (own_doubt tree.specs tree.more (tree.block b) i)).unjudged) (no_doubts (item_place tree b i) (item_rule tree (tree.block b) i))

  -- Each finding is a rule that is broken

  pub lone_is : (rule : Rule) → lone_rule (tree.block b) ≡ Some rule → IsFound (breaks_lone_rule (tree.block b)) (lone_rules (is_idle (tree.block b))) rule
  unfolding lone_rule
  lone_is rule e = find-some (breaks_lone_rule (tree.block b)) (lone_rules (is_idle (tree.block b))) rule e

  pub item_is : (i : ℕ) (rule : Rule) → item_rule tree (tree.block b) i ≡ Some rule → IsFound (breaks_item tree (tree.block b) i) (item_rules tree.specs tree.more (tree.block b) i) rule
  unfolding item_rule
  item_is i rule e = find-some (breaks_item tree (tree.block b) i) (item_rules tree.specs tree.more (tree.block b) i) rule e

  broken_sibling : IsJudged (tree.block b) → (rule : Rule) → sibling_rule tree b ≡ Some rule → BreaksBlock tree b rule (block_place tree b)
  unfolding sibling_rule
  broken_sibling j rule e =
      let says = sibling_says (breaks_siblings tree.blocks tree.block b) rule e in
      subst (λ (r : Rule). BreaksBlock tree b r (block_place tree b)) says.1 (siblings j says.0)

  sound_items : IsJudged (tree.block b) → All (λ f. BreaksBlock tree b f.rule f.place) (items_lists tree b (tree.block b)).findings
  unfolding items_lists
  sound_items j =
      All-upto report_lists (λ l. l.findings) refl (λ x y. refl) (λ f. BreaksBlock tree b f.rule f.place) (item_lists tree b (tree.block b)) (count_of (tree.block b))
      (λ i first last.
      subst (All (λ f. BreaksBlock tree b f.rule f.place)) (sym (item-findings i))
      (All-finding_at (λ f. BreaksBlock tree b f.rule f.place) (item_place tree b i) (item_rule tree (tree.block b) i) (λ rule e.
      let is = item_is i rule e in item i rule (record { judged = j; first = first; last = last }) is.among is.passes)))

  sound_by : (o : Option Rule) (idle : Bool) → lone_rule (tree.block b) ≡ o → is_idle (tree.block b) ≡ idle → All (λ f. BreaksBlock tree b f.rule f.place) (block_lists tree b).findings
  sound_by (Some rule) idle e i =
      subst (λ (l : Lists). All (λ f. BreaksBlock tree b f.rule f.place) l.findings) (lists-broken rule e)
      (All-finding_at (λ f. BreaksBlock tree b f.rule f.place) (block_place tree b) (Some rule) (λ r same.
      let is = lone_is r (e ∙ same) in alone r is.among is.passes))
  sound_by None true e i =
      subst (λ (l : Lists). All (λ f. BreaksBlock tree b f.rule f.place) l.findings) (sym (page-idle tree b (tree.block b) (sym e) i)) (All-nil (λ f. BreaksBlock tree b f.rule f.place))
  sound_by None false e i =
      let j : IsJudged (tree.block b) = record { keeps = e; used = i } in
      subst (λ (l : Lists). All (λ f. BreaksBlock tree b f.rule f.place) l.findings) (lists-live j)
      (All-append (λ f. BreaksBlock tree b f.rule f.place) (finding_at (block_place tree b) (sibling_rule tree b)).findings (items_lists tree b (tree.block b)).findings
      (All-finding_at (λ f. BreaksBlock tree b f.rule f.place) (block_place tree b) (sibling_rule tree b) (broken_sibling j)) (sound_items j))

  pub block-sound : All (λ f. BreaksBlock tree b f.rule f.place) (block_lists tree b).findings
  block-sound = sound_by (lone_rule (tree.block b)) (is_idle (tree.block b)) refl refl

  -- Each place that can't be judged is in doubt

  pub in_doubt : (i : ℕ) → IsJudgedItem (tree.block b) i → (reason : Reason) → own_doubt tree.specs tree.more (tree.block b) i ≡ Some reason → DoubtsBlock tree b reason (item_place tree b i)
  unfolding own_doubt
  in_doubt i j reason e =
      let says = doubt_says (is_half_dead (opaque_of (tree.block b))) (own_rule tree.specs tree.more (tree.block b) i) (has_packed tree.specs tree.more (tuple_of (tree.block b) i)) reason e in
      subst (λ (r : Reason). DoubtsBlock tree b r (item_place tree b i)) says.is (packed i j says.live says.keeps says.has)

  doubts_items : IsJudged (tree.block b) → All (λ u. DoubtsBlock tree b u.reason u.place) (items_lists tree b (tree.block b)).unjudged
  unfolding items_lists
  doubts_items j =
      All-upto report_lists (λ l. l.unjudged) refl (λ x y. refl) (λ u. DoubtsBlock tree b u.reason u.place) (item_lists tree b (tree.block b)) (count_of (tree.block b))
      (λ i first last.
      subst (All (λ u. DoubtsBlock tree b u.reason u.place)) (sym (item-unjudged i))
      (All-doubt_at (λ u. DoubtsBlock tree b u.reason u.place) (item_place tree b i) (own_doubt tree.specs tree.more (tree.block b) i)
      (in_doubt i (record { judged = j; first = first; last = last }))))

  doubts_by : (o : Option Rule) (idle : Bool) → lone_rule (tree.block b) ≡ o → is_idle (tree.block b) ≡ idle → All (λ u. DoubtsBlock tree b u.reason u.place) (block_lists tree b).unjudged
  doubts_by (Some rule) idle e i =
      subst (λ (l : Lists). All (λ u. DoubtsBlock tree b u.reason u.place) l.unjudged) (lists-broken rule e) (All-nil (λ u. DoubtsBlock tree b u.reason u.place))
  doubts_by None true e i =
      subst (λ (l : Lists). All (λ u. DoubtsBlock tree b u.reason u.place) l.unjudged) (sym (page-idle tree b (tree.block b) (sym e) i)) (All-nil (λ u. DoubtsBlock tree b u.reason u.place))
  doubts_by None false e i =
      let j : IsJudged (tree.block b) = record { keeps = e; used = i } in
      subst (λ (l : Lists). All (λ u. DoubtsBlock tree b u.reason u.place) l.unjudged) (lists-live j)
      (subst (λ (us : List UnjudgedPlace). All (λ u. DoubtsBlock tree b u.reason u.place) (us ++ (items_lists tree b (tree.block b)).unjudged)) (sym (no_doubts (block_place tree b) (sibling_rule tree b))) (doubts_items j))

  pub block-doubts : All (λ u. DoubtsBlock tree b u.reason u.place) (block_lists tree b).unjudged
  block-doubts = doubts_by (lone_rule (tree.block b)) (is_idle (tree.block b)) refl refl

  -- What is broken is listed

  lone_listed : (rule : Rule) → Contains (lone_rules (is_idle (tree.block b))) rule → breaks_lone_rule (tree.block b) rule ≡ true → IsThe (lone_rule (tree.block b))
  unfolding lone_rule
  lone_listed rule among broken = elim (some_or_none (lone_rule (tree.block b))) [
    | inl none ↦ absurd (both_ways _ (find-none (breaks_lone_rule (tree.block b)) (lone_rules (is_idle (tree.block b))) rule none among) broken)
    | inr some ↦ some
  ]

  item_listed : (i : ℕ) (rule : Rule) → Contains (item_rules tree.specs tree.more (tree.block b) i) rule → breaks_item tree (tree.block b) i rule ≡ true → IsThe (item_rule tree (tree.block b) i)
  unfolding item_rule
  item_listed i rule among broken = elim (some_or_none (item_rule tree (tree.block b) i)) [
    | inl none ↦ absurd (both_ways _ (find-none (breaks_item tree (tree.block b) i) (item_rules tree.specs tree.more (tree.block b) i) rule none among) broken)
    | inr some ↦ some
  ]

  sibling-broken : breaks_siblings tree.blocks tree.block b ≡ true → sibling_rule tree b ≡ Some B12
  unfolding sibling_rule
  sibling-broken broken = cond-true (breaks_siblings tree.blocks tree.block b) (Some B12) None broken

  among_items : (i : ℕ) (f : Finding) → IsJudgedItem (tree.block b) i → Contains (item_lists tree b (tree.block b) i).findings f → Contains (items_lists tree b (tree.block b)).findings f
  unfolding items_lists
  among_items i f j has = among_upto report_lists (λ l. l.findings) refl (λ x y. refl) (item_lists tree b (tree.block b)) (count_of (tree.block b)) i f j.first j.last has

  among_doubts : (i : ℕ) (u : UnjudgedPlace) → IsJudgedItem (tree.block b) i → Contains (item_lists tree b (tree.block b) i).unjudged u → Contains (items_lists tree b (tree.block b)).unjudged u
  unfolding items_lists
  among_doubts i u j has = among_upto report_lists (λ l. l.unjudged) refl (λ x y. refl) (item_lists tree b (tree.block b)) (count_of (tree.block b)) i u j.first j.last has

  pub block-listed : (rule : Rule) (place : Place) → BreaksBlock tree b rule place → IsFoundAt (block_lists tree b) place
  block-listed rule _ (alone _ among broken) =
      let the = lone_listed rule among broken in
      found the.it (subst (λ (l : Lists). Contains l.findings (record { rule = the.it; place = block_place tree b })) (lists-broken the.it the.is) (among_one (record { rule = the.it; place = block_place tree b })))
  block-listed _ _ (siblings j broken) =
      found B12 (subst (λ (l : Lists). Contains l.findings (record { rule = B12; place = block_place tree b })) (lists-live j)
      (Contains-append_left (finding_at (block_place tree b) (sibling_rule tree b)).findings (items_lists tree b (tree.block b)).findings (record { rule = B12; place = block_place tree b })
      (among_finding (block_place tree b) (sibling_rule tree b) B12 (sibling-broken broken))))
  block-listed rule _ (item i _ j among broken) =
      let the = item_listed i rule among broken in
      let here : Contains (item_lists tree b (tree.block b) i).findings (record { rule = the.it; place = item_place tree b i }) =
      subst (λ (fs : List Finding). Contains fs (record { rule = the.it; place = item_place tree b i })) (sym (item-findings i)) (among_finding (item_place tree b i) (item_rule tree (tree.block b) i) the.it the.is) in
      found the.it (subst (λ (l : Lists). Contains l.findings (record { rule = the.it; place = item_place tree b i })) (lists-live j.judged)
      (Contains-append_right (finding_at (block_place tree b) (sibling_rule tree b)).findings (items_lists tree b (tree.block b)).findings (record { rule = the.it; place = item_place tree b i })
      (among_items i (record { rule = the.it; place = item_place tree b i }) j here)))

  doubt_is : (i : ℕ) → is_half_dead (opaque_of (tree.block b)) ≡ false → own_rule tree.specs tree.more (tree.block b) i ≡ None → has_packed tree.specs tree.more (tuple_of (tree.block b) i) ≡ true
      → own_doubt tree.specs tree.more (tree.block b) i ≡ Some U5
  unfolding own_doubt
  doubt_is i live keeps has = λ k. doubt_by (live k) (keeps k) (has k)

  pub block-doubted : (reason : Reason) (place : Place) → DoubtsBlock tree b reason place → IsDoubtedAt (block_lists tree b) place
  block-doubted _ _ (packed i j live keeps has) =
      let here : Contains (item_lists tree b (tree.block b) i).unjudged (record { reason = U5; place = item_place tree b i }) =
      subst (λ (us : List UnjudgedPlace). Contains us (record { reason = U5; place = item_place tree b i })) (sym (item-unjudged i)) (among_doubt (item_place tree b i) (own_doubt tree.specs tree.more (tree.block b) i) U5 (doubt_is i live keeps has)) in
      doubted U5 (subst (λ (l : Lists). Contains l.unjudged (record { reason = U5; place = item_place tree b i })) (lists-live j.judged)
      (Contains-append_right (finding_at (block_place tree b) (sibling_rule tree b)).unjudged (items_lists tree b (tree.block b)).unjudged (record { reason = U5; place = item_place tree b i })
      (among_doubts i (record { reason = U5; place = item_place tree b i }) j here)))

-- an empty list has nothing
none_in : {X : Type 0} (xs : List X) (x : X) → xs ≡ [] → Contains xs x → ⊥
none_in [] x e has = omega (arith, has.1)
none_in (y ∷ ys) x e has = absurd cc

pub none_found : (lists : Lists) (place : Place) → AreEmpty lists → IsFoundAt lists place → ⊥
none_found lists place empty (found rule has) = none_in lists.findings (record { rule = rule; place = place }) empty.findings has

pub none_doubted : (lists : Lists) (place : Place) → AreEmpty lists → IsDoubtedAt lists place → ⊥
none_doubted lists place empty (doubted reason has) = none_in lists.unjudged (record { reason = reason; place = place }) empty.unjudged has

pub block-complete : (tree : Tree) (b : ℕ) → AreEmpty (block_lists tree b) → (rule : Rule) (place : Place) → BreaksBlock tree b rule place → ⊥
block-complete tree b empty rule place broken = none_found (block_lists tree b) place empty (block-listed tree b rule place broken)

pub block-certain : (tree : Tree) (b : ℕ) → AreEmpty (block_lists tree b) → (reason : Reason) (place : Place) → DoubtsBlock tree b reason place → ⊥
block-certain tree b empty reason place doubt = none_doubted (block_lists tree b) place empty (block-doubted tree b reason place doubt)
