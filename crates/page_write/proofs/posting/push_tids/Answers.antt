use Rattle.std.proofs.Common.{◌≡◌, ◌++◌, ◌∙◌, ◌<◌, ◌+◌, ℕ, List, length, take, get_or, ap, sym, arith, add-one, append_assoc, append-nil}
use Rattle.std.proofs.lemmas.List.{take_all}
use Rattle.std.proofs.Math.Seq.{take-suc}
use Rattle.key_orders.specs.declared.Tid.{Tid}
use Rattle.page_write.specs.Tuples.{tid_bytes}
use Rattle.page_write.specs.Posting.{list_bytes}
use Rattle.page_write.proofs.PostingReading.{list_next}
use Rattle.page_write.proofs.posting.push_tids.Goals as goal

abbrev no_place : Tid
no_place = record { block = 0; item = 0 }

-- one more TID of a list
one_more : (tids : List Tid) (k : ℕ) → k < length tids → list_bytes (take (k + 1) tids) ≡ list_bytes (take k tids) ++ tid_bytes (get_or tids k no_place)
one_more tids k lt =
    ap (λ (n : ℕ). list_bytes (take n tids)) (add-one k) ∙ ap list_bytes (take-suc tids k no_place lt) ∙ list_next (take k tids) (get_or tids k no_place)

pub loop-tid-init : goal.loop-tid-init
loop-tid-init c = sym (append-nil c.args.out.now.items)

pub loop-tid-preserved : goal.loop-tid-preserved
loop-tid-preserved c =
    let tids = c.args.tids.now in
    let k = c.loop-tid.tid-index in
    let old : List ℕ = c.args.out.now.items in
    c.in_ok-push_tid.ensures
    ∙ ap (λ (z : List ℕ). z ++ tid_bytes (get_or tids k no_place)) c.loop-tid.invariant
    ∙ append_assoc old (list_bytes (take k tids)) (tid_bytes (get_or tids k no_place))
    ∙ ap (λ (z : List ℕ). old ++ z) (sym (one_more tids k c.loop-tid-test.true))

pub returns : goal.returns
returns c =
    let end = c.loop-tid-test.false in
    c.loop-tid.invariant ∙ ap (λ (ts : List Tid). c.args.out.now.items ++ list_bytes ts) (take_all c.loop-tid.tid-index c.args.tids.now (omega (arith, end)))
