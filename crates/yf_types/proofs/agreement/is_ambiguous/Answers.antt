use Rattle.yf_types.proofs.AgreementLemmas.{ambiguous_by}
use Rattle.yf_types.proofs.agreement.is_ambiguous.Goals as goal

pub returns : goal.returns
returns c =
    ambiguous_by c.args.text.now c.as_bytes-bytes.result.now c.older_form.result c.newer_form.result c.agree.result
    c.as_bytes-bytes.ensures.value c.older_form.ensures c.newer_form.ensures c.agree.ensures
