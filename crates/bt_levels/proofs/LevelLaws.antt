-- What the lists of an index say of its levels.
use Rattle.std.proofs.Common.{◌≡◌, ℕ, ◌⊎◌, inl, inr, Bool, true, false, List, [], ◌∷◌, ◌++◌, length, refl, sym, ap, subst, ◌∙◌, append-nil, length-append, arith}
use Rattle.std.specs.Prelude.{All, Contains, ◌&&◌, Option, Some, None}
use Rattle.std.proofs.lemmas.Bool.{and_parts, cases_Bool}
use Rattle.std.proofs.lemmas.List.Elements.{All-append, All-head, All-nil, All-weaker, Contains-append_left, Contains-append_right}
use Rattle.page_layout.specs.declared.rules.Rule.{Rule}
use Rattle.laws_levels.specs.Questions.{Finding as LevelFinding}
use Rattle.laws_levels.specs.Rules.{BreaksLevelRule, KeepsLevelRules, roots, circle, role, downlink, separator, low_key, dead_end, not_alone, unreached}
use Rattle.laws_levels.specs.Sound.{HasSoundPages, IsSame}
use Rattle.laws_levels.proofs.Broken.{breaks_here, breaks_none}
use Rattle.laws_levels.proofs.First.{first, unbroken}
use Rattle.reports.specs.Added.{joined, report_lists}
use Rattle.reports.specs.Lists.{Lists}
use Rattle.reports.specs.declared.places.Finding.{Finding}
use Rattle.reports.specs.declared.places.UnjudgedPlace.{UnjudgedPlace}
use Rattle.reports.specs.declared.places.Place.{Place}
use Rattle.reports.specs.declared.places.Place.TheVariants.{Block}
use Rattle.reports.specs.declared.places.Reason.{Reason}
use Rattle.reports.specs.declared.places.Rel.TheVariants.{Index}
use Rattle.reports.proofs.Parts.{first_is_empty, second_is_empty}
use Rattle.bt_pages.specs.Trees.{Tree}
use Rattle.bt_pages.specs.Found.{block_place}
use Rattle.bt_pages.specs.Broken.{AreEmpty, IsDoubtedAt, doubted, IsFoundAt, found}
use Rattle.bt_pages.proofs.BlockLaws.{All-finding_at, among_finding, no_doubts}
use Rattle.bt_level_check.specs.Trees.{KeepsPages, first_broken_in, image_of, order_in, same_in}
use Rattle.bt_levels.specs.Broken.{BreaksPages, BreaksTree, DoubtsTree, IsBehind, KeepsPageRules, in_pages, is_level_rule, on_levels}
use Rattle.bt_levels.specs.Lists.{index_lists, is_nothing, is_quiet, level_finding_lists, level_lists, lists_where, pages_lists}
use Rattle.bt_levels.proofs.ListedLaws.{pages-certain, pages-complete, pages-doubted, pages-kept, pages-listed}
use Rattle.bt_levels.proofs.TreeLaws.{pages-doubts, pages-sound}

nothing_is : {X : Type 0} (xs : List X) → is_nothing xs ≡ true → xs ≡ []
nothing_is [] e = refl
nothing_is (x ∷ xs) e = absurd cc

pub quiet_empty : (lists : Lists) → is_quiet lists ≡ true → AreEmpty lists
quiet_empty lists e =
    let both = and_parts (is_nothing lists.findings) (is_nothing lists.unjudged) e in
    record { findings = nothing_is lists.findings both.0; unjudged = nothing_is lists.unjudged both.1 }

pub empty_quiet : (lists : Lists) → AreEmpty lists → is_quiet lists ≡ true
empty_quiet lists e = λ i. is_nothing (e.findings i) && is_nothing (e.unjudged i)

-- what never comes isn't listed
none_of : {X : Type 0} {P : X → Type 0} (xs : List X) → All P xs → ((x : X) → P x → ⊥) → xs ≡ []
none_of [] all never = refl
none_of {P = P} (x ∷ xs) all never = absurd (never x (All-head P x xs all))

-- each of the rules is one on levels
level_rule : (tree : Tree) (rule : Rule) (b : ℕ) → BreaksLevelRule (order_in tree) (image_of tree) rule b → is_level_rule rule ≡ true
level_rule tree _ _ (roots ne h) = refl
level_rule tree _ _ (circle n le h) = refl
level_rule tree _ _ (role n r on h) = refl
level_rule tree _ _ (downlink n le h) = refl
level_rule tree _ _ (separator n r on h) = refl
level_rule tree _ _ (low_key n r on h) = refl
level_rule tree _ _ (dead_end n r on h) = refl
level_rule tree _ _ (not_alone ne le h) = refl
level_rule tree _ _ (unreached b ne lt h) = refl

module _ (tree : Tree) (long : Option ℕ) where
  -- pages that keep their rules leave nothing in the lists
  pub kept_empty : KeepsPageRules tree long → AreEmpty (pages_lists tree long)
  kept_empty k = record {
    findings = none_of (pages_lists tree long).findings (pages-sound tree long) (λ f. k.unbroken f.rule f.place);
    unjudged = none_of (pages_lists tree long).unjudged (pages-doubts tree long) (λ u. k.certain u.reason u.place);
  }

  pub empty_kept : AreEmpty (pages_lists tree long) → KeepsPageRules tree long
  empty_kept e = record { unbroken = pages-complete tree long e; certain = pages-certain tree long e }

  pub quiet_index : AreEmpty (pages_lists tree long) → index_lists tree long ≡ joined (pages_lists tree long) (level_lists tree)
  unfolding index_lists
  quiet_index e = ap (λ (q : Bool). joined (pages_lists tree long) (lists_where q (level_lists tree))) (empty_quiet (pages_lists tree long) e)

  pub loud_index : is_quiet (pages_lists tree long) ≡ false → index_lists tree long ≡ joined (pages_lists tree long) (lists_where false (level_lists tree))
  unfolding index_lists
  loud_index e = ap (λ (q : Bool). joined (pages_lists tree long) (lists_where q (level_lists tree))) e

  pub pages_empty : AreEmpty (index_lists tree long) → AreEmpty (pages_lists tree long)
  unfolding index_lists
  pages_empty e = record { findings = first_is_empty _ _ e.findings; unjudged = first_is_empty _ _ e.unjudged }

  pub levels_empty : AreEmpty (index_lists tree long) → AreEmpty (level_lists tree)
  levels_empty e =
      let is = quiet_index (pages_empty e) in
      record {
        findings = second_is_empty (pages_lists tree long).findings (level_lists tree).findings (sym (ap (λ (l : Lists). l.findings) is) ∙ e.findings);
        unjudged = second_is_empty (pages_lists tree long).unjudged (level_lists tree).unjudged (sym (ap (λ (l : Lists). l.unjudged) is) ∙ e.unjudged);
      }

  pub no_level : AreEmpty (level_lists tree) → first_broken_in tree ≡ None
  unfolding level_lists
  no_level e = go (first_broken_in tree) e.findings
    where
      go : (o : Option LevelFinding) → (level_finding_lists tree.number o).findings ≡ [] → o ≡ None
      go None e = refl
      go (Some f) e = absurd cc

  pub level_nothing : first_broken_in tree ≡ None → AreEmpty (level_lists tree)
  unfolding level_lists
  level_nothing e = record { findings = ap (λ o. (level_finding_lists tree.number o).findings) e; unjudged = ap (λ o. (level_finding_lists tree.number o).unjudged) e }

  pub index_empty : AreEmpty (pages_lists tree long) → AreEmpty (level_lists tree) → AreEmpty (index_lists tree long)
  index_empty p l =
      let is = quiet_index p in
      record {
        findings = ap (λ (x : Lists). x.findings) is ∙ (λ i. p.findings i ++ l.findings i);
        unjudged = ap (λ (x : Lists). x.unjudged) is ∙ (λ i. p.unjudged i ++ l.unjudged i);
      }

  no_level_doubts : (level_lists tree).unjudged ≡ []
  unfolding level_lists
  no_level_doubts = go (first_broken_in tree)
    where
      go : (o : Option LevelFinding) → (level_finding_lists tree.number o).unjudged ≡ []
      go None = refl
      go (Some f) = no_doubts (Block (Index tree.number) f.1) (Some f.0)

  in_index : (f : Finding) → Contains (pages_lists tree long).findings f → Contains (index_lists tree long).findings f
  unfolding index_lists
  in_index f has = Contains-append_left (pages_lists tree long).findings (lists_where (is_quiet (pages_lists tree long)) (level_lists tree)).findings f has

  doubt_in_index : (u : UnjudgedPlace) → Contains (pages_lists tree long).unjudged u → Contains (index_lists tree long).unjudged u
  unfolding index_lists
  doubt_in_index u has = Contains-append_left (pages_lists tree long).unjudged (lists_where (is_quiet (pages_lists tree long)) (level_lists tree)).unjudged u has

  level_in_index : AreEmpty (pages_lists tree long) → (f : LevelFinding) → first_broken_in tree ≡ Some f → Contains (index_lists tree long).findings (record { rule = f.0; place = block_place tree f.1 })
  unfolding level_lists
  level_in_index e f is =
      subst (λ (l : Lists). Contains l.findings (record { rule = f.0; place = block_place tree f.1 })) (sym (quiet_index e))
      (Contains-append_right (pages_lists tree long).findings (level_lists tree).findings (record { rule = f.0; place = block_place tree f.1 })
      (subst (λ (o : Option LevelFinding). Contains (level_finding_lists tree.number o).findings (record { rule = f.0; place = block_place tree f.1 })) (sym is)
      (among_finding (block_place tree f.1) (Some f.0) f.0 refl)))

  pub tree-doubts : All (λ u. DoubtsTree tree u.reason u.place) (index_lists tree long).unjudged
  unfolding index_lists
  tree-doubts = by (is_quiet (pages_lists tree long))
    where
      by : (q : Bool) → All (λ u. DoubtsTree tree u.reason u.place) ((pages_lists tree long).unjudged ++ (lists_where q (level_lists tree)).unjudged)
      by true = All-append (λ u. DoubtsTree tree u.reason u.place) (pages_lists tree long).unjudged (level_lists tree).unjudged (pages-doubts tree long) (subst (All (λ u. DoubtsTree tree u.reason u.place)) (sym no_level_doubts) (All-nil (λ u. DoubtsTree tree u.reason u.place)))
      by false = All-append (λ u. DoubtsTree tree u.reason u.place) (pages_lists tree long).unjudged [] (pages-doubts tree long) (All-nil (λ u. DoubtsTree tree u.reason u.place))

  pub tree-doubted : (reason : Reason) (place : Place) → DoubtsTree tree reason place → IsDoubtedAt (index_lists tree long) place
  tree-doubted reason place doubt = go (pages-doubted tree long reason place doubt)
    where
      go : IsDoubtedAt (pages_lists tree long) place → IsDoubtedAt (index_lists tree long) place
      go (doubted r has) = doubted r (doubt_in_index (record { reason = r; place = place }) has)

  module _ (same : IsSame (same_in tree)) (local : KeepsPages tree → HasSoundPages (order_in tree) (image_of tree)) where
    -- where the pages keep their rules, the finding is a rule that is broken
    level_sound : AreEmpty (pages_lists tree long) → (o : Option LevelFinding) → first_broken_in tree ≡ o → All (λ f. BreaksTree tree long f.rule f.place) (level_finding_lists tree.number o).findings
    level_sound e None is = All-nil (λ f. BreaksTree tree long f.rule f.place)
    level_sound e (Some f) is =
        let x = image_of tree in
        let o = order_in tree in
        let sound = local (pages-kept tree long e) in
        let broken : BreaksLevelRule o x f.0 f.1 = breaks_here o x (f.0, f.1) (first (same_in tree) o x same sound.pages sound (f.0, f.1) is) in
        All-finding_at (λ f. BreaksTree tree long f.rule f.place) (block_place tree f.1) (Some f.0)
        (λ rule at. subst (λ (r : Rule). BreaksTree tree long r (block_place tree f.1)) (let k : f.0 ≡ rule = cc in k) (on_levels f.0 f.1 (empty_kept e) broken))

    pub tree-sound : All (λ f. BreaksTree tree long f.rule f.place) (index_lists tree long).findings
    unfolding index_lists level_lists
    tree-sound = by (is_quiet (pages_lists tree long)) refl
      where
        own : All (λ f. BreaksTree tree long f.rule f.place) (pages_lists tree long).findings
        own = All-weaker (λ f. BreaksPages tree long f.rule f.place) (λ f. BreaksTree tree long f.rule f.place) (λ f b. in_pages f.rule f.place b) (pages_lists tree long).findings (pages-sound tree long)

        by : (q : Bool) → is_quiet (pages_lists tree long) ≡ q → All (λ f. BreaksTree tree long f.rule f.place) ((pages_lists tree long).findings ++ (lists_where q (level_finding_lists tree.number (first_broken_in tree))).findings)
        by true e = All-append (λ f. BreaksTree tree long f.rule f.place) (pages_lists tree long).findings (level_finding_lists tree.number (first_broken_in tree)).findings own (level_sound (quiet_empty (pages_lists tree long) e) (first_broken_in tree) refl)
        by false e = All-append (λ f. BreaksTree tree long f.rule f.place) (pages_lists tree long).findings [] own (All-nil (λ f. BreaksTree tree long f.rule f.place))

    -- a broken rule stands in the lists, or is one on levels behind the first of these
    pub tree-listed : (rule : Rule) (place : Place) → BreaksTree tree long rule place → IsFoundAt (index_lists tree long) place ⊎ IsBehind (index_lists tree long) rule
    tree-listed _ _ (in_pages rule place broken) = inl (go (pages-listed tree long rule place broken))
      where
        go : IsFoundAt (pages_lists tree long) place → IsFoundAt (index_lists tree long) place
        go (found r has) = found r (in_index (record { rule = r; place = place }) has)
    tree-listed _ _ (on_levels rule b k broken) = inr (go (first_broken_in tree) refl)
      where
        e : AreEmpty (pages_lists tree long)
        e = kept_empty k

        sound : HasSoundPages (order_in tree) (image_of tree)
        sound = local (pages-kept tree long e)

        go : (o : Option LevelFinding) → first_broken_in tree ≡ o → IsBehind (index_lists tree long) rule
        go None is = absurd (breaks_none (order_in tree) (image_of tree) (unbroken (same_in tree) (order_in tree) (image_of tree) same sound.pages sound is) rule b broken)
        go (Some f) is = record {
          own = level_rule tree rule b broken;
          first = record { rule = f.0; place = block_place tree f.1 };
          level = level_rule tree f.0 f.1 (breaks_here (order_in tree) (image_of tree) (f.0, f.1) (first (same_in tree) (order_in tree) (image_of tree) same sound.pages sound (f.0, f.1) is));
          found = level_in_index e f is;
        }

    pub tree-kept : AreEmpty (index_lists tree long) → KeepsPages tree × KeepsLevelRules (order_in tree) (image_of tree)
    tree-kept e =
        let p = pages_empty e in
        let keeps = pages-kept tree long p in
        let sound = local keeps in
        (keeps, breaks_none (order_in tree) (image_of tree) (unbroken (same_in tree) (order_in tree) (image_of tree) same sound.pages sound (no_level (levels_empty e))))

-- WHAT A REPORT WAS GIVEN, by its counts

no_more : {X : Type 0} (xs ys : List X) → length (xs ++ ys) ≡ length xs → ys ≡ []
no_more xs [] e = refl
no_more xs (y ∷ ys) e = let n = length-append xs (y ∷ ys) in absurd (omega (arith, n, e))

-- nothing, where the counts are the same
pub nothing_added : (old lists new : Lists) → new ≡ joined old lists → length new.findings ≡ length old.findings → length new.unjudged ≡ length old.unjudged → AreEmpty lists
nothing_added old lists new is findings unjudged = record {
  findings = no_more old.findings lists.findings (sym (ap (λ (l : Lists). length l.findings) is) ∙ findings);
  unjudged = no_more old.unjudged lists.unjudged (sym (ap (λ (l : Lists). length l.unjudged) is) ∙ unjudged);
}

-- and then the counts are the same
pub same_counts : (old lists new : Lists) → new ≡ joined old lists → AreEmpty lists → (length new.findings ≡ length old.findings) × (length new.unjudged ≡ length old.unjudged)
same_counts old lists new is e = (
  ap (λ (l : Lists). length l.findings) is ∙ ap (λ xs. length (old.findings ++ xs)) e.findings ∙ ap length (append-nil old.findings),
  ap (λ (l : Lists). length l.unjudged) is ∙ ap (λ xs. length (old.unjudged ++ xs)) e.unjudged ∙ ap length (append-nil old.unjudged),
)

-- where something is found of the pages, that is all
pub loud : (tree : Tree) (long : Option ℕ) → (AreEmpty (pages_lists tree long) → ⊥) → index_lists tree long ≡ pages_lists tree long
loud tree long some = elim (cases_Bool (is_quiet (pages_lists tree long))) [
  | inl e ↦ absurd (some (quiet_empty (pages_lists tree long) e))
  | inr e ↦ loud_index tree long e ∙ report_lists.with_none (pages_lists tree long)
]
