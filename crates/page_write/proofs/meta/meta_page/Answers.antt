use Rattle.page_write.proofs.Laying.{meta_laid}
use Rattle.page_write.proofs.meta.meta_page.Goals as goal

pub returns : goal.returns
returns c =
    meta_laid c.args.meta c.header_with.result _ _ _ _ c.blank_page-page.ensures c.put_header.ensures.bytes c.put_meta.ensures
    c.put_opaque.ensures c.header_with.ensures
