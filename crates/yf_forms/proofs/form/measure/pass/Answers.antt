use Rattle.std.proofs.lemmas.Result.{IfOk-weaker}
use Rattle.std.proofs.lemmas.Str.{is_utf8-from_IsUtf8}
use Rattle.yf_forms.proofs.Measure.StepLemmas.{both_texts}
use Rattle.yf_forms.proofs.form.measure.pass.Goals as goal

pub returns-in-Scalar-clause-utf8 : goal.returns-in-Scalar-clause-utf8
returns-in-Scalar-clause-utf8 c =
    IfOk-weaker c.add_leaf.result _ _ (λ _ _. rw c.in-Scalar.is (both_texts _ _ c.scalar-node.ensures.utf8.0 c.scalar-node.ensures.utf8.1)) c.add_leaf.ensures

pub returns-in-Alias-clause-utf8 : goal.returns-in-Alias-clause-utf8
returns-in-Alias-clause-utf8 c =
    IfOk-weaker c.add_leaf-in-Alias.result _ _ (λ _ _. rw c.in-Alias.is (is_utf8-from_IsUtf8 c.in-Alias.name.now c.alias-node.ensures.utf8)) c.add_leaf-in-Alias.ensures

pub returns-in-SeqStart-clause-utf8 : goal.returns-in-SeqStart-clause-utf8
returns-in-SeqStart-clause-utf8 c =
    IfOk-weaker c.begin.result _ _ (λ _ _. rw c.in-SeqStart.is (is_utf8-from_IsUtf8 _ c.opened-collection.ensures.utf8)) c.begin.ensures

pub returns-in-MapStart-clause-utf8 : goal.returns-in-MapStart-clause-utf8
returns-in-MapStart-clause-utf8 c =
    IfOk-weaker c.begin-in-MapStart.result _ _ (λ _ _. rw c.in-MapStart.is (is_utf8-from_IsUtf8 _ c.opened-collection-in-MapStart.ensures.utf8)) c.begin-in-MapStart.ensures
