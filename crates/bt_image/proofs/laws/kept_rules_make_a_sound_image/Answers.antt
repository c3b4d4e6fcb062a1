use Rattle.std.proofs.Common.{refl}
use Rattle.bt_meta.specs.Flags.{is_leaf}
use Rattle.bt_meta.specs.Pages.{opaque_of}
use Rattle.std.proofs.lemmas.Bool.{and_left, cond-false}
use Rattle.bt_image.proofs.Sound.{page_sound, roots, same_values}
use Rattle.bt_image.proofs.laws.kept_rules_make_a_sound_image.Goals as goal

pub returns : goal.returns
returns c specs more blocks block kept =
    let r = roots specs blocks block (kept.metapage.roots kept.version) in
    let same = same_values specs (λ s. (c.key_orders_are_total.ensures.same_key specs s s).1 refl) in record {
      root_inside = r.0;
      fast_inside = r.1;
      root_or_empty = r.2;
      pages = λ b use_of. page_sound specs more blocks block b same (kept.pages b use_of.not_meta use_of.inside use_of.used);
      no_entries = λ b use_of inner. cond-false _ _ _ (and_left (is_leaf (opaque_of (block b))) _ inner);
    }
