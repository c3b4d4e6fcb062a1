-- The table of items that are stepped to, one item further.
use Rattle.std.proofs.Common.{◌≡◌, ℕ, ◌+◌, ◌-◌, ◌≤◌, ◌≢◌, inl, inr, Bool, true, false, not, ◌==◌, ◌&&◌, ◌||◌, List, length, get_or, set, refl, sym, subst, ap, ◌∙◌, add-one, arith, get_or-set_other, get_or-set_same}
use Rattle.std.specs.Prelude.{if◌then◌else◌}
use Rattle.std.proofs.Math.ListN.{replicate}
use Rattle.std.proofs.Math.Bool.{or-true, or-false}
use Rattle.std.proofs.lemmas.List.{get_or-replicate, length-set, length-replicate}
use Rattle.std.proofs.lemmas.Bool.{cases_eq, cond-true, cond-false, eq-eqb, ne_eqb, and_left}
use Rattle.liveness.specs.declared.states.ItemState.{ItemState}
use Rattle.hot_chains.specs.Chains.{is_stepped_to, shares_step, step_of}
use Rattle.hot_chains.specs.Table.{AreTaken}

pub taken_none : (block : ℕ) (items : List ItemState) (taken : List Bool) → taken ≡ replicate (length items + 1) false → AreTaken block items taken 0
unfolding is_stepped_to
taken_none block items taken e = record {
  long = ap length e ∙ length-replicate (length items + 1) false;
  right = λ j first near. ap (λ (l : List Bool). get_or l j false) e ∙ get_or-replicate (length items + 1) j false false (omega arith);
}

is_stepped_to-next : (block : ℕ) (items : List ItemState) (k j : ℕ) → is_stepped_to block items (k + 1) j ≡ (is_stepped_to block items k j || (step_of block items (k + 1) == j))
unfolding is_stepped_to
is_stepped_to-next block items k j = rw add-one refl

step_next : (block : ℕ) (items : List ItemState) (taken : List Bool) (k next j : ℕ) → AreTaken block items taken k → next ≡ step_of block items (k + 1) → 1 ≤ j → j ≤ length items → j ≢ next → get_or taken j false ≡ is_stepped_to block items (k + 1) j
step_next block items taken k next j h e first within ne =
    let other : (step_of block items (k + 1) == j) ≡ false = ne_eqb (step_of block items (k + 1)) j (λ z. ne (sym z ∙ sym e)) in
    h.right j first within ∙ sym (is_stepped_to-next block items k j ∙ ap (λ b. is_stepped_to block items k j || b) other ∙ or-false (is_stepped_to block items k j))

taken_there : (block : ℕ) (items : List ItemState) (taken : List Bool) (k next : ℕ) → AreTaken block items taken k → next ≡ step_of block items (k + 1) → next ≤ length items → AreTaken block items (set taken next true) (k + 1)
taken_there block items taken k next h e near = record {
  long = length-set taken next true ∙ h.long;
  right = λ j first within. elim (cases_eq j next) [
    | inl z ↦
        let P : ℕ → Type 0 = λ l. get_or (set taken next true) l false ≡ is_stepped_to block items (k + 1) l in
        let there : (step_of block items (k + 1) == next) ≡ true = eq-eqb (step_of block items (k + 1)) next (sym e) in
        subst P (sym z) (get_or-set_same taken next true false (let a = h.long in omega (arith, a)) ∙ sym (is_stepped_to-next block items k next ∙ ap (λ b. is_stepped_to block items k next || b) there ∙ or-true (is_stepped_to block items k next)))
    | inr ne ↦ get_or-set_other taken next j true false ne ∙ step_next block items taken k next j h e first within ne
  ];
}

pub taken_next : (block : ℕ) (items : List ItemState) (taken : List Bool) (k next : ℕ) → AreTaken block items taken k → next ≡ step_of block items (k + 1) → next ≤ length items → AreTaken block items (if next == 0 then taken else set taken next true) (k + 1)
taken_next block items taken k next h e near =
    let P : List Bool → Type 0 = λ t. AreTaken block items t (k + 1) in
    elim (cases_eq next 0) [
      | inl z ↦ subst P (sym (cond-true (next == 0) taken (set taken next true) (eq-eqb next 0 z))) (record {
        long = h.long;
        right = λ j first within. step_next block items taken k next j h e first within (λ same. absurd (omega (arith, same, z, first)));
      })
      | inr ne ↦ subst P (sym (cond-false (next == 0) taken (set taken next true) (ne_eqb next 0 ne))) (taken_there block items taken k next h e near)
    ]

-- whether it was taken says whether a lower item steps there
pub taken_is_shared : (block : ℕ) (items : List ItemState) (taken : List Bool) (k next : ℕ) → AreTaken block items taken k → next ≡ step_of block items (k + 1) → next ≤ length items → (not (next == 0) && get_or taken next false) ≡ shares_step block items (k + 1)
taken_is_shared block items taken k next h e near =
    let before : k + 1 - 1 ≡ k = omega arith in
    let P : ℕ → Type 0 = λ m. (not (next == 0) && get_or taken next false) ≡ (not (m == 0) && is_stepped_to block items (k + 1 - 1) m) in
    let Q : ℕ → Type 0 = λ n. (not (next == 0) && get_or taken next false) ≡ (not (next == 0) && is_stepped_to block items n next) in
    subst P e (subst Q (sym before) (elim (cases_eq next 0) [
      | inl z ↦ and_left (not (next == 0)) _ (ap not (eq-eqb next 0 z)) ∙ sym (and_left (not (next == 0)) _ (ap not (eq-eqb next 0 z)))
      | inr ne ↦ ap (λ b. not (next == 0) && b) (h.right next (omega arith) near)
    ]))
