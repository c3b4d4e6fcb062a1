-- What is taken from the page in hand.
use Rattle.std.proofs.Common.{◌≡◌, ℕ, List, [], ◌++◌, ap, sym, subst, ◌∙◌}
use Rattle.std.specs.Prelude.{Option, Some, unwrap_or}
use Rattle.outside.specs.Outside.{Names}
use Rattle.key_orders.specs.declared.Tid.{Tid}
use Rattle.rel_files.specs.Blocks.{block_of}
use Rattle.rel_files.specs.Relation.{base_of, size_of}
use Rattle.rel_files.specs.declared.relation.Relation.{Relation}
use Rattle.toast_chunks.specs.InHand.{IsInHand, PushesChunk}
use Rattle.toast_chunks.specs.Stored.{HasRow, content_at}

pub pushed : (names : Names) (toast : Relation) (tid : Tid) (hand : Option ℕ) (page : List ℕ) (o : Option (List ℕ)) (old new : List ℕ) → IsInHand names toast hand page → hand ≡ Some tid.block → (HasRow page tid.item → o ≡ content_at page tid.item) → new ≡ old ++ unwrap_or o [] → PushesChunk names toast tid old new
pushed names toast tid hand page o old new in_hand is content added = λ below row.
    let P : Option ℕ → Type 0 = λ h. IsInHand names toast h page in
    let same : page ≡ block_of names (base_of toast) (size_of toast) tid.block = subst P is in_hand in
    let Q : List ℕ → Type 0 = λ b. HasRow b tid.item in
    added ∙ ap (λ m. old ++ unwrap_or m []) (content (subst Q (sym same) row) ∙ ap (λ b. content_at b tid.item) same)
