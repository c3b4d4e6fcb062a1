use Rattle.std.proofs.Common.{◌≡◌, ◌+◌, ◌∙◌, ◌++◌, ◌∷◌, [], ℕ, List, add-one, ap, append_assoc, arith, subst, suc, sym}
use Rattle.std.proofs.lemmas.Result.{on_ok_weaker}
use Rattle.page_write.specs.Writing.{HoldsItems}
use Rattle.bt_build.specs.Laid.{bytes_for, inner_tuples, later_tuples}
use Rattle.bt_build.specs.Source.{entries_sorted}
use Rattle.bt_build.proofs.PutLaws.{bytes_cons}
use Rattle.bt_build.proofs.paging.add_downlinks.Goals as goal

pub add-requires : goal.add-requires
add-requires c =
    let specs = c.args.sorted.source.specs.now in
    let es = entries_sorted c.args.sorted in
    let later = later_tuples specs es c.in-Some.later.now (suc c.args.first) in
    let tuples : inner_tuples specs es c.args.bounds.now c.args.first ≡ c.deref.result.now ∷ later =
    ap (λ (w : List ℕ). inner_tuples specs es w c.args.first) c.in-Some.ensures.cases.0 ∙ ap (λ (t : List ℕ). t ∷ later) (sym (c.deref.ensures.value ∙ c.in_ok-put_separator.ensures.item)) in
    let bytes = ap bytes_for tuples in
    let one = bytes_cons c.deref.result.now later in
    omega (arith, bytes, one, c.requires.room)

pub add_later-requires-clause-room : goal.add_later-requires-clause-room
add_later-requires-clause-room c =
    let specs = c.args.sorted.source.specs.now in
    let es = entries_sorted c.args.sorted in
    let later = later_tuples specs es c.in-Some.later.now (suc c.args.first) in
    let tuples : inner_tuples specs es c.args.bounds.now c.args.first ≡ c.deref.result.now ∷ later =
    ap (λ (w : List ℕ). inner_tuples specs es w c.args.first) c.in-Some.ensures.cases.0 ∙ ap (λ (t : List ℕ). t ∷ later) (sym (c.deref.ensures.value ∙ c.in_ok-put_separator.ensures.item)) in
    let bytes = ap bytes_for tuples in
    let one = bytes_cons c.deref.result.now later in
    let on = ap (λ (b : ℕ). bytes_for (later_tuples specs es c.in-Some.later.now b)) (add-one c.args.first) in
    omega (arith, bytes, one, on, c.requires.room, c.add.ensures.room)

pub returns : goal.returns
returns c =
    let specs = c.args.sorted.source.specs.now in
    let es = entries_sorted c.args.sorted in
    let t = c.deref.result.now in
    let later = later_tuples specs es c.in-Some.later.now (c.args.first + 1) in
    let tuples : inner_tuples specs es c.args.bounds.now c.args.first ≡ t ∷ later =
    ap (λ (w : List ℕ). inner_tuples specs es w c.args.first) c.in-Some.ensures.cases.0
    ∙ (λ i. sym (c.deref.ensures.value ∙ c.in_ok-put_separator.ensures.item) i ∷ later_tuples specs es c.in-Some.later.now (sym (add-one c.args.first) i)) in
    on_ok_weaker c.add_later.result
    (λ added front h. subst (HoldsItems c.add_later.new.page 8176) (append_assoc front (t ∷ []) later ∙ ap (λ (w : List (List ℕ)). front ++ w) (sym tuples)) (added (front ++ t ∷ []) (c.add.ensures.items 8176 front h)))
    c.add_later.ensures
