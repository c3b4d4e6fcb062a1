-- What is told of the entries of an index by its own numbers, and of its case.
use Rattle.std.proofs.Common.{◌≡◌, ◌∙◌, ◌-◌, ℕ, zero, suc, Bool, List, refl}
use Rattle.std.specs.Prelude.{None, Some}
use Rattle.outside.specs.Outside.{Names}
use Rattle.key_orders.specs.declared.Tid.{Tid}
use Rattle.case_file.specs.Record.{CaseRecord}
use Rattle.reports.specs.Added.{each_upto, joined, nothing, report_lists}
use Rattle.heap_targets.specs.Targets.{is_in}
use Rattle.bt_levels.specs.declared.sound.SoundTree.{SoundTree}
use Rattle.bt_levels.specs.Files.{IsFileOf, number_of}
use Rattle.bt_levels.specs.Sound.{IsSoundIndexOf, block_count, file_of, held_block, index_columns}
use Rattle.join_rules.specs.Entries.{may_be_named}
use Rattle.join_rules.specs.Lists.{entries_lists, joined_lists, leaves_lists, rows_lists}
use Rattle.join_leaf_pass.specs.Passes.{strays_of}
use Rattle.join_look_ups.proofs.Cases.{blocks-are}

module _ (case : CaseRecord) (names : Names) (tree : SoundTree) (index : IsSoundIndexOf case (number_of (file_of tree)) tree) (file : IsFileOf case names (file_of tree)) where
  -- what its entries give
  pub entries-are : (may : Tid → Bool) → ((tid : Tid) → may tid ≡ may_be_named case names tid) → leaves_lists (number_of (file_of tree)) (index_columns tree) may (block_count tree) (held_block names tree) ≡ entries_lists case names (number_of (file_of tree))
  unfolding entries_lists
  entries-are may same = λ i.
      leaves_lists (number_of (file_of tree)) (index.columns i) (λ tid. same tid i) (file.count i) (λ b. blocks-are case names tree index file b i)

  -- what a pass finds of them with this set
  pub strays-are : (set : List (List Bool)) → ((tid : Tid) → is_in set tid ≡ may_be_named case names tid) → strays_of names (Some set) tree ≡ entries_lists case names (number_of (file_of tree))
  unfolding strays_of leaves_lists
  strays-are set same = entries-are (is_in set) same

-- without a set a pass finds nothing
nothing-upto : (n : ℕ) → each_upto report_lists (λ (b : ℕ). nothing) n ≡ nothing
unfolding each_upto
nothing-upto zero = refl
nothing-upto (suc n) = report_lists.with_none (each_upto report_lists (λ (b : ℕ). nothing) n) ∙ nothing-upto n

pub no-strays : (names : Names) (tree : SoundTree) → strays_of names None tree ≡ nothing
unfolding strays_of
no-strays names tree = nothing-upto (block_count tree - 1)

-- and both
pub both-are : (case : CaseRecord) (names : Names) (n : ℕ) → joined_lists case names n ≡ joined (rows_lists case names n) (entries_lists case names n)
unfolding joined_lists
both-are case names n = refl
