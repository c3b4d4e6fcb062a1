use Rattle.std.proofs.Common.{length, false, ap, ◌∙◌}
use Rattle.bt_tuples.specs.declared.items.Spot3.TheVariants.{FirstInner, Inner}
use Rattle.bt_tuples.specs.Items.{Pivot, tuple_outcome}
use Rattle.bt_image.specs.Image.{minus_infinity}
use Rattle.page_write.specs.Bodies.{body_flags, index_body}
use Rattle.laws_built_index.specs.Items.{kept_types, pivot_item}
use Rattle.laws_built_index.proofs.Meanings.{first_is, is_body, ok_means}
use Rattle.laws_built_index.proofs.items.laid_separators_mean.Goals as goal

pub returns : goal.returns
returns c =
    record {
      high_key = λ specs more down s small may.
          c.index_tuples_read_back.ensures.high_key specs more down (length s.kept) s.tid (body_flags (kept_types specs s) s.kept) (index_body (kept_types specs s) s.kept) false s.kept small may.keeps
          (is_body (kept_types specs s) s.kept may.short) (c.bodies_read_back.ensures.separator (kept_types specs s) s.kept s.tid may.stand may.few);
      inner = λ specs more down s small may.
          c.index_tuples_read_back.ensures.inner specs more down (length s.kept) s.tid (body_flags (kept_types specs s) s.kept) (index_body (kept_types specs s) s.kept) false s.kept small may.keeps
          (is_body (kept_types specs s) s.kept may.short) (c.bodies_read_back.ensures.separator (kept_types specs s) s.kept s.tid may.stand may.few);
      first = λ specs more down small.
          ap (λ t. tuple_outcome specs more FirstInner t false) (first_is specs down) ∙ c.index_tuples_read_back.ensures.first specs more down false small;
      meaning = λ specs more down s small may.
          ok_means specs more Inner (pivot_item specs down s) false (Pivot s down)
          (c.index_tuples_read_back.ensures.inner specs more down (length s.kept) s.tid (body_flags (kept_types specs s) s.kept) (index_body (kept_types specs s) s.kept) false s.kept small may.keeps
          (is_body (kept_types specs s) s.kept may.short) (c.bodies_read_back.ensures.separator (kept_types specs s) s.kept s.tid may.stand may.few));
      nothing = λ specs more down small.
          ok_means specs more FirstInner (pivot_item specs down minus_infinity) false (Pivot minus_infinity down)
          (ap (λ t. tuple_outcome specs more FirstInner t false) (first_is specs down) ∙ c.index_tuples_read_back.ensures.first specs more down false small);
    }
