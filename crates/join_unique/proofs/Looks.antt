-- How many times the rows of a block are gone over: at most once for each entry.
use Rattle.std.proofs.Common.{◌≡◌, ◌≤◌, ◌<◌, ◌+◌, ℕ, Bool, true, false, List, [], ◌∷◌, length, min, refl, arith}
use Rattle.std.specs.Prelude.{cond, not, ◌==◌, ◌&&◌, nat_lt}
use Rattle.std.proofs.lemmas.Bool.{and_parts}
use Rattle.std.proofs.lemmas.Bool.Decides.{nat_tests}
use Rattle.laws_search.specs.Keys.{Entry}
use Rattle.key_orders.specs.declared.columns.Value.{Value}
use Rattle.key_orders.specs.declared.Tid.{Tid}
use Rattle.key_storage.specs.Same.{same_key}
use Rattle.case_file.specs.declared.case.Unique.{Unique}
use Rattle.join_unique.specs.Groups.{Group, Table, begun, closed, entries_met, entry_met, first_group, leaves_block, looks_after, named, next_count, opened, tid_met}

-- the looks, and one that is still to come where an entry of the group may name a root
abbrev looks_due : Group → ℕ
looks_due g = g.looks + min 1 g.count

module _ (t : Table) where
  closed-due : (g : Group) → (closed t g).looks ≤ looks_due g
  unfolding closed
  closed-due g = go (nat_lt 1 g.count) refl
    where
      go : (b : Bool) → nat_lt 1 g.count ≡ b → looks_after b g.looks ≤ g.looks + min 1 g.count
      go true more = let lt : 1 < g.count = grind (arith, nat_tests, more) in omega (arith, lt)
      go false few = omega arith

  opened-due : (key : List Value) (g : Group) → looks_due (opened t key g) ≤ looks_due g
  unfolding opened
  opened-due key g = go (same_key g.key key)
    where
      go : (b : Bool) → looks_due (cond b g (begun t key (closed t g))) ≤ looks_due g
      go true = omega arith
      go false = let le = closed-due g in omega (arith, le)

  named-due : (tid : Tid) (g : Group) → looks_due (named t tid g) ≤ looks_due g + 1
  unfolding named
  named-due tid g = go (leaves_block tid.block g) refl
    where
      go : (b : Bool) → leaves_block tid.block g ≡ b → looks_after b g.looks + min 1 (next_count g.count) ≤ g.looks + min 1 g.count + 1
      go true leaves =
          let some = (and_parts (nat_lt 0 g.count) (not (g.block == tid.block)) leaves).0 in
          let lt : 0 < g.count = grind (arith, nat_tests, some) in
          omega (arith, lt)
      go false stays = omega arith

  tid-due : (tid : Tid) (g : Group) → looks_due (tid_met t tid g) ≤ looks_due g + 1
  unfolding tid_met
  tid-due tid g = go (g.counted && t.may_root tid)
    where
      go : (b : Bool) → looks_due (cond b (named t tid g) g) ≤ looks_due g + 1
      go true = named-due tid g
      go false = omega arith

  entry-due : (e : Entry Value Tid) (g : Group) → looks_due (entry_met t e g) ≤ looks_due g + 1
  unfolding entry_met
  entry-due e g =
      let begins = opened-due e.values g in
      let takes = tid-due e.tid (opened t e.values g) in
      omega (arith, begins, takes)

  entries-due : (es : List (Entry Value Tid)) (g : Group) → looks_due (entries_met t es g) ≤ looks_due g + length es
  entries-due [] g = omega arith
  entries-due (e ∷ es) g =
      let first = entry-due e g in
      let others = entries-due es (entry_met t e g) in
      omega (arith, first, others)

  pub few-looks : (unique : Unique) (es : List (Entry Value Tid)) → (closed t (entries_met t es (first_group unique))).looks ≤ length es
  few-looks unique es =
      let all = entries-due es (first_group unique) in
      let last = closed-due (entries_met t es (first_group unique)) in
      omega (arith, all, last)
