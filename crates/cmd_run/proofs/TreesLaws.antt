-- The files of a case's indexes, one after the other.
use Rattle.std.proofs.Common.{◌≡◌, ◌∙◌, ◌≤◌, ◌<◌, ◌+◌, ◌-◌, ℕ, zero, suc, List, [], ◌∷◌, ◌++◌, inl, inr, refl, ap, sym, subst, arith}
use Rattle.std.specs.Prelude.{Err, None, Option, Some, map}
use Rattle.std.specs.Option.{option_or, option_to_list}
use Rattle.std.proofs.lemmas.Bool.{cases_lt}
use Rattle.std.proofs.lemmas.List.Elements.{All-nil, All-push}
use Rattle.outside.specs.Outside.{Names}
use Rattle.rel_files.specs.Refusals.{TellsRefusal}
use Rattle.case_file.specs.Record.{CaseRecord}
use Rattle.reports.specs.Added.{each_upto, joined, nothing, report_lists}
use Rattle.reports.specs.Lists.{Lists}
use Rattle.rel_files.specs.declared.check_fault.CheckFault.{CheckFault}
use Rattle.rel_files.specs.declared.check_fault.CheckFault.TheVariants.{NoFile, NoMemory, ReadFault, TooLarge}
use Rattle.bt_levels.specs.Files.{BelongsTo, number_of}
use Rattle.bt_levels.specs.declared.files.TreeFile.{TreeFile}
use Rattle.cmd_run.specs.All.{first_upto}
use Rattle.cmd_run.specs.Numbered.{numbered_found}
use Rattle.cmd_run.specs.Tables.{AreTreesBehind, numbers_behind, trees_found}

-- What is found of them

-- what these numbers give, one after the other
abbrev each_of : (ℕ → Lists) → List ℕ → Lists
each_of f [] = nothing
each_of f (n ∷ ns) = joined (f n) (each_of f ns)

each_of-append : (f : ℕ → Lists) (ms : List ℕ) (n : ℕ) → each_of f (ms ++ n ∷ []) ≡ joined (each_of f ms) (f n)
each_of-append f [] n = report_lists.with_none (f n)
each_of-append f (m ∷ ms) n = ap (joined (f m)) (each_of-append f ms n) ∙ sym (report_lists.in_turn (f m) (each_of f ms) (f n))

each_of-behind : (f : ℕ → Lists) (start n : ℕ) → each_of f (numbers_behind start n) ≡ each_upto report_lists (λ k. f (start + k)) n
unfolding each_upto
each_of-behind f start zero = refl
each_of-behind f start (suc n) =
    each_of-append f (numbers_behind start n) (start + suc n) ∙ ap (λ (l : Lists). joined l (f (start + suc n))) (each_of-behind f start n)

by_numbers : (case : CaseRecord) (names : Names) (trees : List TreeFile) → trees_found case names trees ≡ each_of (numbered_found case names) (map number_of trees)
by_numbers case names [] = refl
by_numbers case names (tree ∷ trees) = ap (joined (numbered_found case names (number_of tree))) (by_numbers case names trees)

-- the files of indexes give what the indexes give
pub trees_are_indexes : (case : CaseRecord) (names : Names) (start n : ℕ) (trees : List TreeFile) → AreTreesBehind case start n trees
    → trees_found case names trees ≡ each_upto report_lists (λ k. numbered_found case names (start + k)) n
trees_are_indexes case names start n trees are =
    by_numbers case names trees ∙ ap (each_of (numbered_found case names)) are.numbers ∙ each_of-behind (numbered_found case names) start n

-- One file more

-- what holds of a list holds of the same list
pub carried : (P : List TreeFile → Type 0) (xs ys : List TreeFile) → xs ≡ ys → P ys → P xs
carried P xs ys e holds = subst P (sym e) holds

map-push : (trees : List TreeFile) (tree : TreeFile) → map number_of (trees ++ tree ∷ []) ≡ map number_of trees ++ number_of tree ∷ []
map-push [] tree = refl
map-push (t ∷ ts) tree = ap (λ (ns : List ℕ). number_of t ∷ ns) (map-push ts tree)

pub first_tree : (case : CaseRecord) (start n : ℕ) → n ≡ 0 → AreTreesBehind case start n []
unfolding each_upto
first_tree case start n none = rw none (record { numbers = refl; belong = All-nil (BelongsTo case) })

next_tree : (case : CaseRecord) (start n : ℕ) (trees : List TreeFile) (tree : TreeFile) → AreTreesBehind case start n trees → number_of tree ≡ start + suc n → BelongsTo case tree
    → AreTreesBehind case start (suc n) (trees ++ tree ∷ [])
unfolding each_upto
next_tree case start n trees tree are number belongs = record {
  numbers = map-push trees tree ∙ (λ i. are.numbers i ++ number i ∷ []);
  belong = All-push (BelongsTo case) trees tree are.belong belongs;
}

-- behind those up to one place, that of the next
pub tree_behind : (case : CaseRecord) (start before : ℕ) (trees : List TreeFile) (tree : TreeFile) → start ≤ before → AreTreesBehind case start (before - start) trees → number_of tree ≡ before + 1 → BelongsTo case tree
    → AreTreesBehind case start (before + 1 - start) (trees ++ tree ∷ [])
tree_behind case start before trees tree within are number belongs =
    let one : suc (before - start) ≡ before + 1 - start = omega (arith, within) in
    let at : before + 1 ≡ start + suc (before - start) = omega (arith, within) in
    subst (λ (n : ℕ). AreTreesBehind case start n (trees ++ tree ∷ [])) one (next_tree case start (before - start) trees tree are (number ∙ at) belongs)

-- The first refusal

-- where the first n have none, and the next has one, that is the first of all
first_is : {X : Type 0} (f : ℕ → Option X) (k n : ℕ) (x : X) → first_upto f k ≡ None → f (suc k) ≡ Some x → suc k ≤ n → first_upto f n ≡ Some x
unfolding first_upto
first_is f k zero x none some le = absurd (omega (arith, le))
first_is f k (suc n) x none some le = elim (cases_lt k n) [
  | inl before ↦ ap (λ (o : Option _). option_or o (f (suc n))) (first_is f k n x none some (omega (arith, before)))
  | inr after ↦ let last : k ≡ n = omega (arith, le, after) in at_last last
]
  where
    at_last : k ≡ n → option_or (first_upto f n) (f (suc n)) ≡ Some x
    at_last last = subst (λ (m : ℕ). option_or (first_upto f m) (f (suc m)) ≡ Some x) last (ap (λ (o : Option _). option_or o (f (suc k))) none ∙ some)

pub none_before : (f : ℕ → Option CheckFault) (n : ℕ) → n ≡ 0 → first_upto f n ≡ None
unfolding first_upto
none_before f n none = rw none refl

module _ (f : ℕ → Option CheckFault) (start before : ℕ) (within : start ≤ before) where
  abbrev of_range : ℕ → Option CheckFault
  of_range k = f (start + k)

  at : start + suc (before - start) ≡ before + 1
  at = omega (arith, within)

  pub none_further : first_upto of_range (before - start) ≡ None → f (before + 1) ≡ None → first_upto of_range (before + 1 - start) ≡ None
  unfolding first_upto
  none_further none next =
      let one : before + 1 - start ≡ suc (before - start) = omega (arith, within) in
      ap (λ (n : ℕ). first_upto of_range n) one ∙ (λ i. option_or (none i) ((ap f at ∙ next) i))

  first_of : (stop : ℕ) (x : CheckFault) → before < stop → first_upto of_range (before - start) ≡ None → f (before + 1) ≡ Some x → first_upto of_range (stop - start) ≡ Some x
  first_of stop x less none some = first_is of_range (before - start) (stop - start) x none (ap f at ∙ some) (omega (arith, within, less))

  pub tells_first : (S T : Type 0) (stop : ℕ) (e : CheckFault) → before < stop → first_upto of_range (before - start) ≡ None
      → TellsRefusal {T = S} (f (before + 1)) (Err e) → TellsRefusal {T = T} (first_upto of_range (stop - start)) (Err e)
  tells_first S T stop ReadFault less none tells = tt
  tells_first S T stop NoMemory less none tells = tt
  tells_first S T stop (NoFile which) less none tells = first_of stop (NoFile which) less none tells
  tells_first S T stop (TooLarge which blocks limit) less none tells = first_of stop (TooLarge which blocks limit) less none tells

-- One file less

pub popped : {X : Type 0} (old new : List X) (o : Option X) (x : X) → old ≡ option_to_list o ++ new → o ≡ Some x → old ≡ x ∷ new
popped old new o x e is = e ∙ ap (λ (p : Option _). option_to_list p ++ new) is
