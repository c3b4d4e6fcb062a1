-- What is found of a page of a table is what is broken there, and where a rule is broken the place is listed.
use Rattle.std.proofs.Common.{◌≡◌, ℕ, ◌≤◌, List, [], ◌∷◌, length, refl, sym, subst, ap, ◌∙◌, arith}
use Rattle.std.specs.Prelude.{Option, Some, None, Contains, is_some}
use Rattle.std.specs.List.{All}
use Rattle.std.proofs.lemmas.List.Elements.{All-append, All-head, All-nil, All-weaker, Contains-append_left, Contains-append_right}
use Rattle.page_layout.specs.Page.{count_of, page_rule_of}
use Rattle.page_layout.specs.declared.page.PageKind.TheVariants.{Heap}
use Rattle.page_layout.specs.declared.rules.Rule.{Rule}
use Rattle.hot_chains.specs.Chains.{chain_rule}
use Rattle.hot_chains.specs.Sentences.{IsChainRuleBroken}
use Rattle.hot_chains.proofs.Told.{first_told, none_told}
use Rattle.liveness.specs.declared.states.ItemState.{ItemState}
use Rattle.toast_chunks.specs.declared.map.Chunk.{Chunk}
use Rattle.vis_map.proofs.Exact.{first_is_broken, none_is_exact}
use Rattle.vis_map.specs.Rules.{IsMapRuleBroken, map_rule_of}
use Rattle.vis_map.specs.declared.bits.MapBits.{MapBits}
use Rattle.reports.proofs.Parts.{All-upto, among_upto, first_is_empty, second_is_empty}
use Rattle.reports.specs.Added.{IsListed, each_upto, finding_at, found, in_doubt, nothing, report_lists}
use Rattle.reports.specs.Lists.{Lists}
use Rattle.reports.specs.declared.places.Finding.{Finding}
use Rattle.reports.specs.declared.places.Place.{Place}
use Rattle.reports.specs.declared.places.Place.TheVariants.{Block, Item}
use Rattle.reports.specs.declared.places.Reason.{Reason}
use Rattle.reports.specs.declared.places.UnjudgedPlace.{UnjudgedPlace}
use Rattle.heap_page_check.specs.Alone.{BreaksHeader}
use Rattle.heap_page_check.specs.Broken.{AllPass, BreaksItem, at_item, BreaksPage, in_page_header, on_item, in_visibility, in_chain, DoubtsItem, doubt_at_item, DoubtsPage}
use Rattle.heap_page_check.specs.Found.{found_parts, item_found, items_found, states_of, verdict_lists}
use Rattle.heap_page_check.specs.Pages.{chain_found, found_by_rule, if_silent, is_flagged_visible, joint_found, page_found}
use Rattle.heap_page_check.specs.States.{AreStatesOf}
use Rattle.heap_page_check.specs.Table.{Table, rel_of}
use Rattle.heap_page_check.specs.Verdicts.{item_verdict}
use Rattle.heap_page_check.specs.declared.verdict.ItemVerdict.{ItemVerdict}
use Rattle.heap_page_check.specs.declared.verdict.ItemVerdict.TheVariants.{Passes, Breaks, InDoubt}
use Rattle.heap_page_check.proofs.HeaderLaws.{All-finding_at, no_header_is_broken, page_rule_is_broken, place_of_header, rule_holds}
use Rattle.heap_page_check.proofs.ItemLaws.{broken_at, doubted_at, item_doubt_listed, item_doubts_sound, item_listed, item_sound}
use Rattle.heap_page_check.proofs.JointRules.{silent_is}
use Rattle.heap_page_check.proofs.StateLaws.{EachPasses, states_are_one, states_are_there}

-- Lists that come where nothing was found

pub silent_sound : {X : Type 0} (P : X → Type 0) (part : Lists → List X) (findings : List Finding) (unjudged : List UnjudgedPlace) (lists : Lists) → part nothing ≡ [] → (findings ≡ [] → unjudged ≡ [] → All P (part lists)) → All P (part (if_silent findings unjudged lists))
silent_sound P part [] [] lists none each = each refl refl
silent_sound P part [] (u ∷ unjudged) lists none each = subst (All P) (sym none) (All-nil P)
silent_sound P part (f ∷ findings) unjudged lists none each = subst (All P) (sym none) (All-nil P)

-- a place that is listed is listed where all of the lists is
pub listed_in : (lists all : Lists) (place : Place) → ((f : Finding) → Contains lists.findings f → Contains all.findings f) → ((u : UnjudgedPlace) → Contains lists.unjudged u → Contains all.unjudged u) → IsListed lists place → IsListed all place
listed_in lists all place first second (found rule among) = found rule (first (record { rule = rule; place = place }) among)
listed_in lists all place first second (in_doubt reason among) = in_doubt reason (second (record { reason = reason; place = place }) among)

-- a rule that is found at a place is listed
pub listed_at : (place : Place) (rule : Option Rule) → (rule ≡ None → ⊥) → IsListed (finding_at place rule) place
listed_at place None broken = absurd (broken refl)
listed_at place (Some rule) broken = found rule (0, omega arith, refl)

-- nothing is listed where there are no lists
pub none_listed : (lists : Lists) (place : Place) → lists.findings ≡ [] → lists.unjudged ≡ [] → IsListed lists place → ⊥
none_listed lists place none sure (found rule among) = no_member none among
  where
    no_member : {xs : List Finding} {x : Finding} → xs ≡ [] → Contains xs x → ⊥
    no_member {xs = []} e has = absurd (omega (arith, has.1))
    no_member {xs = y ∷ ys} e has = cc
none_listed lists place none sure (in_doubt reason among) = no_doubt sure among
  where
    no_doubt : {xs : List UnjudgedPlace} {x : UnjudgedPlace} → xs ≡ [] → Contains xs x → ⊥
    no_doubt {xs = []} e has = absurd (omega (arith, has.1))
    no_doubt {xs = y ∷ ys} e has = cc

-- a list each of whose members would be absurd is empty
pub no_members : {X : Type 0} (P : X → Type 0) (xs : List X) → All P xs → ((x : X) → P x → ⊥) → xs ≡ []
no_members P [] all absurdly = refl
no_members P (x ∷ xs) all absurdly = absurd (absurdly x (All-head P x xs all))

-- The items

module _ (table : Table) (block : ℕ) (page : List ℕ) where
  abbrev BreaksHere : Finding → Type 0
  BreaksHere f = BreaksItem table block page f.rule f.place

  abbrev DoubtsHere : UnjudgedPlace → Type 0
  DoubtsHere u = DoubtsItem table block page u.reason u.place

module _ (table : Table) (chunks : List Chunk) (block : ℕ) (page : List ℕ) where
  items_sound : All (BreaksHere table block page) (items_found table chunks block page).listed.findings
  unfolding items_found item_found
  items_sound = All-upto found_parts (λ f. f.listed.findings) refl (λ a b. refl) (BreaksHere table block page) (item_found table chunks block page) (count_of page) (item_sound table block page)

  items_doubts_sound : All (DoubtsHere table block page) (items_found table chunks block page).listed.unjudged
  unfolding items_found item_found
  items_doubts_sound = All-upto found_parts (λ f. f.listed.unjudged) refl (λ a b. refl) (DoubtsHere table block page) (item_found table chunks block page) (count_of page) (item_doubts_sound table block page)

  -- what is listed of an item is listed of all
  on_page : (i : ℕ) (place : Place) → 1 ≤ i → i ≤ count_of page → IsListed (verdict_lists (Item (rel_of table.kind) block i) (item_verdict table page i)) place → IsListed (items_found table chunks block page).listed place
  unfolding items_found item_found
  on_page i place first last is =
      listed_in _ (each_upto found_parts (item_found table chunks block page) (count_of page)).listed place
      (λ f has. among_upto found_parts (λ x. x.listed.findings) refl (λ a b. refl) (item_found table chunks block page) (count_of page) i f first last has)
      (λ u has. among_upto found_parts (λ x. x.listed.unjudged) refl (λ a b. refl) (item_found table chunks block page) (count_of page) i u first last has)
      is

  -- where an item breaks a rule, or is in doubt, its place is listed
  pub items_listed : (rule : Rule) (place : Place) → BreaksItem table block page rule place → IsListed (items_found table chunks block page).listed place
  items_listed _ _ (at_item i rule at broken) = on_page i _ at.first at.last (item_listed table block page i rule at broken)

  pub items_doubt_listed : (reason : Reason) (place : Place) → DoubtsItem table block page reason place → IsListed (items_found table chunks block page).listed place
  items_doubt_listed _ _ (doubt_at_item i d at doubted) = on_page i _ at.first at.last (item_doubt_listed table block page i d at doubted)

  -- where nothing is listed of them, all pass
  pub all_pass : page_rule_of Heap page ≡ None → (items_found table chunks block page).listed.findings ≡ [] → (items_found table chunks block page).listed.unjudged ≡ [] → AllPass table block page
  all_pass header none sure = record {
    header = header;
    unbroken = λ rule place broken. none_listed _ place none sure (items_listed rule place broken);
    certain = λ reason place doubted. none_listed _ place none sure (items_doubt_listed reason place doubted);
  }

  module _ (pass : AllPass table block page) where
    pub no_findings : (items_found table chunks block page).listed.findings ≡ []
    no_findings = no_members (BreaksHere table block page) _ items_sound (λ f broken. pass.unbroken f.rule f.place broken)

    pub no_doubts : (items_found table chunks block page).listed.unjudged ≡ []
    no_doubts = no_members (DoubtsHere table block page) _ items_doubts_sound (λ u doubted. pass.certain u.reason u.place doubted)

module _ (table : Table) (block : ℕ) (page : List ℕ) where
  module _ (unbroken : (rule : Rule) (place : Place) → BreaksItem table block page rule place → ⊥) (certain : (reason : Reason) (place : Place) → DoubtsItem table block page reason place → ⊥) where
    passes_by : (i : ℕ) (verdict : ItemVerdict) → 1 ≤ i → i ≤ count_of page → item_verdict table page i ≡ verdict → (state : ItemState) × (item_verdict table page i ≡ Passes state)
    passes_by i (Passes state) first last e = (state, e)
    passes_by i (Breaks rule) first last e = absurd (unbroken rule _ (broken_at table block page i rule first last e))
    passes_by i (InDoubt reason) first last e = absurd (certain reason _ (doubted_at table block page i reason first last e))

    each_unbroken : EachPasses table page
    each_unbroken i first last = passes_by i (item_verdict table page i) first last refl

  pub each_passes : AllPass table block page → EachPasses table page
  each_passes pass = each_unbroken pass.unbroken pass.certain

  -- and so does each where nothing is listed of them
  pub each_silent : (chunks : List Chunk) → (items_found table chunks block page).listed.findings ≡ [] → (items_found table chunks block page).listed.unjudged ≡ [] → EachPasses table page
  each_silent chunks none sure =
      each_unbroken
      (λ rule place broken. none_listed _ place none sure (items_listed table chunks block page rule place broken))
      (λ reason place doubted. none_listed _ place none sure (items_doubt_listed table chunks block page reason place doubted))

-- All items together

module _ (table : Table) (bits : MapBits) (block : ℕ) (page : List ℕ) where
  abbrev BreaksOn : Finding → Type 0
  BreaksOn f = BreaksPage table bits block page f.rule f.place

  abbrev states : List ItemState
  states = states_of table page

  abbrev pub joint : Lists
  joint = joint_found (rel_of table.kind) block bits (is_flagged_visible page) states

  module _ (pass : AllPass table block page) where
    are_states : AreStatesOf table page states
    are_states = states_are_there table page (each_passes table block page pass)

    chain_sound : (i : ℕ) → 1 ≤ i → i ≤ length states → All BreaksOn (chain_found (rel_of table.kind) block states i).findings
    unfolding chain_found
    chain_sound i first last =
        All-finding_at BreaksOn (Item (rel_of table.kind) block i) (chain_rule block states i) (λ rule e.
        in_chain i rule states pass are_states first (omega (arith, last, are_states.count))
        (rule_holds (chain_rule block states i) rule (λ r. IsChainRuleBroken block states i r) e (first_told block states i first)))

    joint_sound : All BreaksOn joint.findings
    unfolding joint_found
    joint_sound =
        All-append BreaksOn (finding_at (Block (rel_of table.kind) block) (map_rule_of bits (is_flagged_visible page) states)).findings (each_upto report_lists (chain_found (rel_of table.kind) block states) (length states)).findings
        (All-finding_at BreaksOn (Block (rel_of table.kind) block) (map_rule_of bits (is_flagged_visible page) states) (λ rule e.
        in_visibility rule states pass are_states
        (rule_holds (map_rule_of bits (is_flagged_visible page) states) rule (λ r. IsMapRuleBroken bits (is_flagged_visible page) states r) e
        (first_is_broken bits (is_flagged_visible page) states))))
        (All-upto report_lists (λ l. l.findings) refl (λ a b. refl) BreaksOn (chain_found (rel_of table.kind) block states) (length states) chain_sound)

  -- they leave nothing in doubt
  no_doubt_at : (place : Place) (rule : Option Rule) → (finding_at place rule).unjudged ≡ []
  no_doubt_at place None = refl
  no_doubt_at place (Some rule) = refl

  joint_certain : All (λ (u : UnjudgedPlace). ⊥) joint.unjudged
  unfolding joint_found chain_found
  joint_certain =
      All-append (λ (u : UnjudgedPlace). ⊥) (finding_at (Block (rel_of table.kind) block) (map_rule_of bits (is_flagged_visible page) states)).unjudged (each_upto report_lists (chain_found (rel_of table.kind) block states) (length states)).unjudged
      (none_at _ _)
      (All-upto report_lists (λ l. l.unjudged) refl (λ a b. refl) (λ (u : UnjudgedPlace). ⊥) (chain_found (rel_of table.kind) block states) (length states) (λ i first last. none_at (Item (rel_of table.kind) block i) (chain_rule block states i)))
    where
      none_at : (place : Place) (rule : Option Rule) → All (λ (u : UnjudgedPlace). ⊥) (finding_at place rule).unjudged
      none_at place None = All-nil (λ (u : UnjudgedPlace). ⊥)
      none_at place (Some rule) = All-nil (λ (u : UnjudgedPlace). ⊥)

-- A page

module _ (table : Table) (chunks : List Chunk) (bits : MapBits) (block : ℕ) (page : List ℕ) where
  sound_by : (rule : Option Rule) → page_rule_of Heap page ≡ rule → All (BreaksOn table bits block page) (found_by_rule table chunks bits block page rule).listed.findings
  sound_by (Some rule) is =
      All-finding_at (BreaksOn table bits block page) (Block (rel_of table.kind) block) (Some rule) (λ q same.
      in_page_header q (Block (rel_of table.kind) block) (page_rule_is_broken Heap (rel_of table.kind) block page q (is ∙ same)))
  sound_by None is =
      All-append (BreaksOn table bits block page) (items_found table chunks block page).listed.findings _
      (All-weaker (BreaksHere table block page) (BreaksOn table bits block page) (λ f broken. on_item f.rule f.place is broken) _ (items_sound table chunks block page))
      (silent_sound (BreaksOn table bits block page) (λ l. l.findings) (items_found table chunks block page).listed.findings (items_found table chunks block page).listed.unjudged (joint table bits block page) refl
      (λ none sure. joint_sound table bits block page (all_pass table chunks block page is none sure)))

  -- each finding of a page is a rule that it breaks
  pub page_sound : All (λ f. BreaksPage table bits block page f.rule f.place) (page_found table chunks bits block page).listed.findings
  unfolding page_found
  page_sound = sound_by (page_rule_of Heap page) refl

  abbrev DoubtsOn : UnjudgedPlace → Type 0
  DoubtsOn u = DoubtsPage table block page u.reason u.place

  doubts_by : (rule : Option Rule) → page_rule_of Heap page ≡ rule → All DoubtsOn (found_by_rule table chunks bits block page rule).listed.unjudged
  doubts_by (Some rule) is = All-nil DoubtsOn
  doubts_by None is =
      All-append DoubtsOn (items_found table chunks block page).listed.unjudged _
      (All-weaker (DoubtsHere table block page) DoubtsOn (λ u doubted. record { header = is; item = doubted }) _ (items_doubts_sound table chunks block page))
      (silent_sound DoubtsOn (λ l. l.unjudged) (items_found table chunks block page).listed.findings (items_found table chunks block page).listed.unjudged (joint table bits block page) refl
      (λ none sure. All-weaker (λ (u : UnjudgedPlace). ⊥) DoubtsOn (λ u no. absurd no) _ (joint_certain table bits block page)))

  -- each doubt of a page is one
  pub page_doubts_sound : All (λ u. DoubtsPage table block page u.reason u.place) (page_found table chunks bits block page).listed.unjudged
  unfolding page_found
  page_doubts_sound = doubts_by (page_rule_of Heap page) refl

  -- what the items list is listed of the page
  items_on_page : (rule : Option Rule) (place : Place) → rule ≡ None → IsListed (items_found table chunks block page).listed place → IsListed (found_by_rule table chunks bits block page rule).listed place
  items_on_page (Some rule) place e is = cc
  items_on_page None place e is =
      listed_in (items_found table chunks block page).listed _ place
      (λ f has. Contains-append_left (items_found table chunks block page).listed.findings _ f has)
      (λ u has. Contains-append_left (items_found table chunks block page).listed.unjudged _ u has) is

  -- and what they list together, where all pass
  joint_on_page : (rule : Option Rule) (place : Place) → rule ≡ None → AllPass table block page → IsListed (joint table bits block page) place → IsListed (found_by_rule table chunks bits block page rule).listed place
  joint_on_page (Some rule) place e pass is = cc
  joint_on_page None place e pass is =
      let items = (items_found table chunks block page).listed in
      let shown : if_silent items.findings items.unjudged (joint table bits block page) ≡ joint table bits block page = silent_is items.findings items.unjudged (joint table bits block page) (no_findings table chunks block page pass) (no_doubts table chunks block page pass) in
      let here : IsListed (if_silent items.findings items.unjudged (joint table bits block page)) place = subst (λ (l : Lists). IsListed l place) (sym shown) is in
      listed_in (if_silent items.findings items.unjudged (joint table bits block page)) _ place
      (λ f has. Contains-append_right items.findings _ f has)
      (λ u has. Contains-append_right items.unjudged _ u has) here

  header_by : (rule : Option Rule) → (rule ≡ None → ⊥) → IsListed (found_by_rule table chunks bits block page rule).listed (Block (rel_of table.kind) block)
  header_by None broken = absurd (broken refl)
  header_by (Some rule) broken = found rule (0, omega arith, refl)

  header_listed : (rule : Rule) (place : Place) → BreaksHeader Heap (rel_of table.kind) block page rule place → IsListed (page_found table chunks bits block page).listed (Block (rel_of table.kind) block)
  unfolding page_found
  header_listed rule place broken = header_by (page_rule_of Heap page) (λ none. no_header_is_broken Heap (rel_of table.kind) block page none rule place broken)

  -- the states that a rule speaks of are those of the page
  of_page : (s : List ItemState) → AllPass table block page → AreStatesOf table page s → s ≡ states_of table page
  of_page s pass are = states_are_one table page s (states_of table page) are (are_states table bits block page pass)

  visibility_listed : (rule : Rule) → IsMapRuleBroken bits (is_flagged_visible page) (states_of table page) rule → IsListed (joint table bits block page) (Block (rel_of table.kind) block)
  unfolding joint_found
  visibility_listed rule broken =
      listed_in (finding_at (Block (rel_of table.kind) block) (map_rule_of bits (is_flagged_visible page) (states_of table page))) _ (Block (rel_of table.kind) block)
      (λ f has. Contains-append_left _ _ f has) (λ u has. Contains-append_left _ _ u has)
      (listed_at _ (map_rule_of bits (is_flagged_visible page) (states_of table page))
      (λ none. (none_is_exact bits (is_flagged_visible page) (states_of table page)).0 (ap is_some none) rule broken))

  chain_listed : (i : ℕ) (rule : Rule) → AllPass table block page → 1 ≤ i → i ≤ count_of page → IsChainRuleBroken block (states_of table page) i rule → IsListed (joint table bits block page) (Item (rel_of table.kind) block i)
  unfolding joint_found chain_found
  chain_listed i rule pass first last broken =
      let s = states_of table page in
      let long = (are_states table bits block page pass).count in
      listed_in (finding_at (Item (rel_of table.kind) block i) (chain_rule block s i)) _ (Item (rel_of table.kind) block i)
      (λ f has. Contains-append_right (finding_at (Block (rel_of table.kind) block) (map_rule_of bits (is_flagged_visible page) s)).findings _ f
      (among_upto report_lists (λ l. l.findings) refl (λ a b. refl) (chain_found (rel_of table.kind) block s) (length s) i f first (omega (arith, last, long)) has))
      (λ u has. Contains-append_right (finding_at (Block (rel_of table.kind) block) (map_rule_of bits (is_flagged_visible page) s)).unjudged _ u
      (among_upto report_lists (λ l. l.unjudged) refl (λ a b. refl) (chain_found (rel_of table.kind) block s) (length s) i u first (omega (arith, last, long)) has))
      (listed_at _ (chain_rule block s i) (λ none. (none_told block s i first).0 none rule broken))

  -- where a page breaks a rule, its lists name the place
  pub page_listed : (rule : Rule) (place : Place) → BreaksPage table bits block page rule place → IsListed (page_found table chunks bits block page).listed place
  unfolding page_found
  page_listed _ _ (in_page_header rule place broken) =
      let P : Place → Type 0 = λ p. IsListed (page_found table chunks bits block page).listed p in
      subst P (sym (place_of_header Heap (rel_of table.kind) block page rule place broken)) (header_listed rule place broken)
  page_listed _ _ (on_item rule place header broken) = items_on_page (page_rule_of Heap page) place header (items_listed table chunks block page rule place broken)
  page_listed _ _ (in_visibility rule s pass are broken) =
      joint_on_page (page_rule_of Heap page) _ pass.header pass
      (visibility_listed rule (subst (λ (x : List ItemState). IsMapRuleBroken bits (is_flagged_visible page) x rule) (of_page s pass are) broken))
  page_listed _ _ (in_chain i rule s pass are first last broken) =
      joint_on_page (page_rule_of Heap page) _ pass.header pass
      (chain_listed i rule pass first last (subst (λ (x : List ItemState). IsChainRuleBroken block x i rule) (of_page s pass are) broken))

  -- and where an item of it is in doubt
  pub page_doubt_listed : (reason : Reason) (place : Place) → DoubtsPage table block page reason place → IsListed (page_found table chunks bits block page).listed place
  unfolding page_found
  page_doubt_listed reason place doubted = items_on_page (page_rule_of Heap page) place doubted.header (items_doubt_listed table chunks block page reason place doubted.item)

-- A page of which nothing is listed

pub record IsQuietPage (table : Table) (bits : MapBits) (block : ℕ) (page : List ℕ) : Type 0 where
  pub pass : AllPass table block page
  pub joint : (joint_found (rel_of table.kind) block bits (is_flagged_visible page) (states_of table page)).findings ≡ []

quiet_by : (table : Table) (chunks : List Chunk) (bits : MapBits) (block : ℕ) (page : List ℕ) (rule : Option Rule) → page_rule_of Heap page ≡ rule → (found_by_rule table chunks bits block page rule).listed.findings ≡ [] → (found_by_rule table chunks bits block page rule).listed.unjudged ≡ [] → IsQuietPage table bits block page
quiet_by table chunks bits block page (Some rule) is none sure = cc
quiet_by table chunks bits block page None is none sure =
    let items = (items_found table chunks block page).listed in
    let no_finding = first_is_empty items.findings _ none in
    let no_doubt = first_is_empty items.unjudged _ sure in
    record {
      pass = all_pass table chunks block page is no_finding no_doubt;
      joint = subst (λ (l : Lists). l.findings ≡ []) (silent_is items.findings items.unjudged (joint table bits block page) no_finding no_doubt) (second_is_empty items.findings _ none);
    }

pub page_is_quiet : (table : Table) (chunks : List Chunk) (bits : MapBits) (block : ℕ) (page : List ℕ) → (page_found table chunks bits block page).listed.findings ≡ [] → (page_found table chunks bits block page).listed.unjudged ≡ [] → IsQuietPage table bits block page
unfolding page_found
page_is_quiet table chunks bits block page none sure = quiet_by table chunks bits block page (page_rule_of Heap page) refl none sure
