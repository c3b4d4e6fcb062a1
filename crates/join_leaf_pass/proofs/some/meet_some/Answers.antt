use Rattle.std.proofs.Common.{append-nil, [], ◌≡◌, ◌∙◌, ◌+◌, ◌-◌, ◌++◌, ℕ, List, ap, arith, sym}
use Rattle.std.specs.List.{flat_map}
use Rattle.outside.specs.Outside.{Names}
use Rattle.outside.proofs.Asking.{PassedAtMost-none}
use Rattle.join_slots.specs.Slots.{Tables}
use Rattle.bt_image.specs.Image.{LeafEntry}
use Rattle.laws_search.specs.Search.{tree_blocks}
use Rattle.bt_levels.specs.Files.{relation_of}
use Rattle.bt_levels.specs.Sound.{block_count, file_of, held_block, index_columns}
use Rattle.bt_levels.specs.declared.sound.SoundTree.{SoundTree}
use Rattle.join_meet.specs.Meeting.{HaveMetSome, all_entries, leaf_entries}
use Rattle.join_meet.proofs.Some.{some-none, some-part, some-same, some-then}
use Rattle.join_leaf_pass.proofs.Reading.{passed-more}
use Rattle.join_leaf_pass.proofs.BlockKeys.{all-blocks, blocks-next}
use Rattle.join_leaf_pass.proofs.some.meet_some.Goals as goal

abbrev keys-of : SoundTree → Names → ℕ → List LeafEntry
keys-of tree names b = leaf_entries (index_columns tree) (held_block names tree b)

-- a block more, of which some entries met their rows, or none
one-more : (f : ℕ → List LeafEntry) (k : ℕ) (a b d : Tables) → HaveMetSome (flat_map f (tree_blocks (k + 1))) a b → HaveMetSome (f (k + 1)) b d → HaveMetSome (flat_map f (tree_blocks (k + 1 + 1))) a d
one-more f k a b d before here =
    let front : List LeafEntry = flat_map f (tree_blocks (k + 1)) in
    let back : List LeafEntry = f (k + 1) in
    let all : List LeafEntry = front ++ back in
    let whole : front ++ (back ++ []) ≡ all = ap (λ (l : List LeafEntry). front ++ l) (append-nil back) in
    some-same all (flat_map f (tree_blocks (k + 1 + 1))) a d (sym (blocks-next f k))
    (some-then all a b d (some-part [] front back a b before) (some-same (front ++ (back ++ [])) all b d whole (some-part front back [] b d here)))

pub meet_block-requires-clause-holds : goal.meet_block-requires-clause-holds
meet_block-requires-clause-holds g c names told = c.requires.holds names (sym c.loop-k.invariant.asked.same ∙ told)

pub meet_block-requires-clause-hand : goal.meet_block-requires-clause-hand
meet_block-requires-clause-hand g c names told = c.loop-k.invariant.hand names (sym c.loop-k.invariant.asked.same ∙ told)

pub loop-k-init : goal.loop-k-init
loop-k-init g c = record {
  met = λ names told. some-none [] c.args.slots.now;
  hand = λ names told. c.new.ensures names (relation_of (file_of c.args.tree.now));
  asked = PassedAtMost-none;
}

pub loop-k-preserved : goal.loop-k-preserved
loop-k-preserved g c = record {
  met = λ names told.
      one-more (keys-of c.args.tree.now names) c.loop-k.k c.args.slots.now c.loop-k.slots c.meet_block.new.slots (c.loop-k.invariant.met names told)
      (c.in_ok-meet_block.ensures.met names (c.loop-k.invariant.asked.same ∙ told));
  hand = λ names told. c.in_ok-meet_block.ensures.hand names (c.loop-k.invariant.asked.same ∙ told);
  asked = passed-more c.loop-k.invariant.asked c.in_ok-meet_block.ensures.asked;
}

pub returns-clause-met : goal.returns-clause-met
unfolding all_entries
returns-clause-met g c names told =
    let tree = c.args.tree.now in
    let keys = keys-of tree names in
    let whole : c.loop-k.k ≡ block_count tree - 1 = omega (arith, c.loop-k-test.false, c.saturating_sub-k-end.ensures, c.blocks-2.ensures) in
    some-same (flat_map keys (tree_blocks (c.loop-k.k + 1))) (flat_map keys (tree_blocks (block_count tree))) c.args.slots.now c.loop-k.slots (ap (flat_map keys) (all-blocks c.loop-k.k (block_count tree) whole))
    (c.loop-k.invariant.met names told)
