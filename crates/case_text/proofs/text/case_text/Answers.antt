use Rattle.std.proofs.Common.{◌≡◌, ◌∙◌, string_bytes, sym, subst}
use Rattle.std.proofs.lemmas.Str.{is_utf8-from_IsUtf8}
use Rattle.case_file.specs.Case.{Tells, case_of}
use Rattle.case_text.proofs.Texts.{text_means, text_told}
use Rattle.case_text.specs.Written.{document_told}
use Rattle.case_text.proofs.text.case_text.Goals as goal

pub returns-in-Ok-clause-reads_back : goal.returns-in-Ok-clause-reads_back
returns-in-Ok-clause-reads_back c =
    let same : c.as_bytes.result.now ≡ string_bytes c.in_ok-text.text = c.as_bytes.ensures.value ∙ c.as_str.ensures.value in
    let utf8 = is_utf8-from_IsUtf8 c.as_bytes.result.now c.as_bytes.ensures.utf8 in
    text_told (string_bytes c.in_ok-text.text) c.args.cluster.now c.args.table.now c.in-Ok.case c.cluster_is_plain.ensures c.table_is_plain.ensures
    (sym c.if-not-are_found.ensures) (rw same at utf8) c.in_ok-text.ensures (rw same at c.in-Ok.ensures.ok) c.sound.ensures

pub returns-in-Err-Refused-clause-refused : goal.returns-in-Err-Refused-clause-refused
returns-in-Err-Refused-clause-refused c =
    let same : c.as_bytes.result.now ≡ string_bytes c.in_ok-text.text = c.as_bytes.ensures.value ∙ c.as_str.ensures.value in
    let utf8 = is_utf8-from_IsUtf8 c.as_bytes.result.now c.as_bytes.ensures.utf8 in
    let means = text_means (string_bytes c.in_ok-text.text) (document_told c.args.cluster.now c.args.table.now) (rw same at utf8) c.in_ok-text.ensures in
    let told = rw same at c.in-Err-Refused.ensures.err in
    let broken = subst (λ fault. Tells (case_of (string_bytes c.in_ok-text.text)) fault) c.in-Err-Refused.field-0-is told in
    (sym c.if-not-are_found.ensures, sym means ∙ broken)
