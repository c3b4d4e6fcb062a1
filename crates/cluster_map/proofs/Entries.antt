-- Entries that are read one after another.
use Rattle.std.proofs.Common.{◌≡◌, ◌∙◌, ℕ, suc, ◌+◌, ◌<◌, ◌≤◌, List, [], ◌∷◌, ◌++◌, length, take, drop, get_or, refl, ap, sym, add-one, drop-cons, take-suc}
use Rattle.std.specs.Prelude.{Option, Some, None}
use Rattle.std.proofs.Math.ListN.{set}
use Rattle.std.proofs.lemmas.Grind.{take-set_at}
use Rattle.std.proofs.lemmas.List.{drop_all}
use Rattle.cluster_map.specs.Map.{entry_at, file_in, first_entries, or_then, repeated_after}
use Rattle.cluster_map.specs.declared.entry.MapEntry.{MapEntry}

pub next_first : (xs : List MapEntry) (bytes : List ℕ) (k : ℕ) (e : MapEntry) → k < length xs → take k xs ≡ first_entries bytes k
    → e ≡ entry_at bytes k → take (k + 1) (set xs k e) ≡ first_entries bytes (k + 1)
unfolding first_entries
next_first xs bytes k e lt before is =
    let more : first_entries bytes (k + 1) ≡ first_entries bytes k ++ entry_at bytes k ∷ [] = rw add-one refl in
    take-set_at xs k (k + 1) e refl lt ∙ (λ i. before i ++ is i ∷ []) ∙ sym more

-- entry k is of an oid that one before it has
pub at_twice : (es : List MapEntry) (k : ℕ) (d : MapEntry) (file : ℕ) → k < length es
    → repeated_after (take k es) (drop k es) ≡ repeated_after [] es → file_in (take k es) (get_or es k d).oid ≡ Some file
    → Some (get_or es k d).oid ≡ repeated_after [] es
unfolding repeated_after
at_twice es k d file lt before found =
    let e = get_or es k d in
    let rest = repeated_after (take k es ++ e ∷ []) (drop (suc k) es) in
    let here : repeated_after (take k es) (e ∷ drop (suc k) es) ≡ Some e.oid = ap (λ (f : Option ℕ). or_then f e.oid rest) found in
    sym here ∙ ap (repeated_after (take k es)) (sym (drop-cons es k d lt)) ∙ before

-- and none has
pub at_new : (es : List MapEntry) (k : ℕ) (d : MapEntry) → k < length es
    → repeated_after (take k es) (drop k es) ≡ repeated_after [] es → file_in (take k es) (get_or es k d).oid ≡ None
    → repeated_after (take (k + 1) es) (drop (k + 1) es) ≡ repeated_after [] es
unfolding repeated_after
at_new es k d lt before found =
    let e = get_or es k d in
    let rest = repeated_after (take k es ++ e ∷ []) (drop (suc k) es) in
    let here : repeated_after (take k es) (e ∷ drop (suc k) es) ≡ rest = ap (λ (f : Option ℕ). or_then f e.oid rest) found in
    let next : repeated_after (take (suc k) es) (drop (suc k) es) ≡ repeated_after [] es =
    ap (λ (l : List MapEntry). repeated_after l (drop (suc k) es)) (take-suc es k d lt)
    ∙ sym here ∙ ap (repeated_after (take k es)) (sym (drop-cons es k d lt)) ∙ before in
    rw add-one next

pub at_last : (es : List MapEntry) (k : ℕ) → length es ≤ k → repeated_after (take k es) (drop k es) ≡ repeated_after [] es
    → None ≡ repeated_after [] es
unfolding repeated_after
at_last es k le before = ap (repeated_after (take k es)) (sym (drop_all k es le)) ∙ before
