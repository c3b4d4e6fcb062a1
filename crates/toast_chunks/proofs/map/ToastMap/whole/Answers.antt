use Rattle.std.proofs.Common.{◌≡◌, sym, ◌∙◌}
use Rattle.toast_chunks.specs.Chunks.{is_whole}
use Rattle.toast_chunks.proofs.Finding.{is_whole-from, is_whole-tells}
use Rattle.toast_chunks.proofs.map.ToastMap.whole.Goals as goal

pub returns : goal.returns
returns c =
    let same : c.is_whole.result ≡ is_whole c.args.self.now c.args.p = c.is_whole.ensures c.args.self.now c.args.p c.chunks_of.ensures c.stored_size.ensures.size in
    record {
      whole = (λ e. is_whole-tells c.args.self.now c.args.p (sym same ∙ e), λ w. same ∙ is_whole-from c.args.self.now c.args.p w);
      value = same;
    }
