use Rattle.std.proofs.Common.{ap, sym, ◌∙◌}
use Rattle.std.specs.Prelude.{not}
use Rattle.yf_types.specs.NewerSchema.{newer_form}
use Rattle.yf_types.specs.OlderSchema.{older_form}
use Rattle.yf_types.proofs.AgreementLemmas.{ambiguous_by}
use Rattle.yf_types.proofs.MeaningLemmas.{told}
use Rattle.yf_types.proofs.meaning.ambiguity.Goals as goal

pub returns-then-agree : goal.returns-then-agree
returns-then-agree c =
    sym (ambiguous_by c.args.text.now c.as_bytes-bytes.result.now c.older_form-older.result c.newer_form-newer.result
    c.agree.result c.as_bytes-bytes.ensures.value c.older_form-older.ensures c.newer_form-newer.ensures c.agree.ensures)
    ∙ ap not c.if-agree.true

pub returns : goal.returns
returns c =
    let t = c.args.text.now in
    let u = c.as_bytes-bytes.result.now in
    let e = c.as_bytes-bytes.ensures.value in
    let o = c.older_form-older.result in
    let n = c.newer_form-newer.result in
    let p = c.older_form-older.ensures in
    let q = c.newer_form-newer.ensures in
    record {
      ambiguous = sym (ambiguous_by t u o n c.agree.result e p q c.agree.ensures) ∙ ap not c.if-agree.false;
      older = told t u older_form o c.meaning_of.result e p c.meaning_of.ensures;
      newer = told t u newer_form n c.meaning_of-2.result e q c.meaning_of-2.ensures;
    }
