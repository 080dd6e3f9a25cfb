use Rattle.std.proofs.Common.{◌≡◌, map, sym, ap, ◌∙◌, arith, None, inl, inr, ⊎_elim}
use Rattle.std.proofs.lemmas.List.{length-map}
use Rattle.std.proofs.lemmas.Result.{IfOk-weaker, IfErr-weaker}
use Rattle.yf_props.specs.Handles.{UnknownHandleOf, declaration, declared_prefix, prefix_of}
use Rattle.yf_props.specs.Props.{name_value, tag_value}
use Rattle.yf_lines.specs.declared.fault.Fault.TheVariants.{Memory, UnknownHandle}
use Rattle.yf_stream.proofs.TagPass.DeclaredLemmas.{declared_by_order, other_known, other_text, prefix_alone, prefix_by_declared, text_by_prefix, unknown_by_prefix}
use Rattle.yf_stream.proofs.prefixes.Prefixes.resolve.Goals as goal

pub returns-in-Some-clause-text : goal.returns-in-Some-clause-text
returns-in-Some-clause-text c =
    let h = c.in-Short.handle.now in
    let found = ap (λ z. declared_prefix z h) (sym c.self.view_is) ∙ declared_by_order c.self.inside.all.entries h ∙ ap name_value (sym c.in-Some.ensures.value) in
    IfOk-weaker _ _ _ (λ text t. text_by_prefix (ap tag_value c.in-Short.is) (prefix_alone h c.in-Some.prefix.now.now c.args.self.now found) t) c.resolve_alone.ensures.text

pub returns-then-len-gt-FEW-clause-text : goal.returns-then-len-gt-FEW-clause-text
returns-then-len-gt-FEW-clause-text c =
    let h = c.in-Short.handle.now in
    let none : declared_prefix (map declaration c.self.inside.all.entries) h ≡ None =
    declared_by_order c.self.inside.all.entries h ∙ ap name_value (sym c.in_default-get.ensures.value) in
    let same : prefix_of c.self.inside.few h ≡ prefix_of c.args.self.now h =
    prefix_by_declared c.self.inside.few c.args.self.now h (c.self.invariant.others h none ∙ sym none ∙ ap (λ z. declared_prefix z h) c.self.view_is) in
    IfOk-weaker _ _ _ (λ text t. text_by_prefix (ap tag_value c.in-Short.is) same t) c.resolve.ensures.text

pub returns-then-len-gt-FEW-clause-refused : goal.returns-then-len-gt-FEW-clause-refused
returns-then-len-gt-FEW-clause-refused c =
    let h = c.in-Short.handle.now in
    let none : declared_prefix (map declaration c.self.inside.all.entries) h ≡ None =
    declared_by_order c.self.inside.all.entries h ∙ ap name_value (sym c.in_default-get.ensures.value) in
    let same : prefix_of c.self.inside.few h ≡ prefix_of c.args.self.now h =
    prefix_by_declared c.self.inside.few c.args.self.now h (c.self.invariant.others h none ∙ sym none ∙ ap (λ z. declared_prefix z h) c.self.view_is) in
    IfErr-weaker _ _ _
    (λ fault u. ⊎_elim (λ (m : fault ≡ Memory). inl m)
    (λ (m : (fault ≡ UnknownHandle (record { line = 1; column = 1 })) × UnknownHandleOf c.self.inside.few (tag_value c.args.tag.now)).
    inr (m.0, unknown_by_prefix (ap tag_value c.in-Short.is) same m.1)) u)
    c.resolve.ensures.refused

pub returns-in-Short-clause-text : goal.returns-in-Short-clause-text
returns-in-Short-clause-text c =
    let h = c.in-Short.handle.now in
    let es = c.self.inside.all.entries in
    let same : prefix_of c.self.inside.few h ≡ prefix_of c.args.self.now h =
    prefix_by_declared c.self.inside.few c.args.self.now h
    (c.self.invariant.same (omega (arith, length-map es declaration, c.len.ensures.len, c.if-len-gt-FEW.false)) h ∙ ap (λ z. declared_prefix z h) c.self.view_is) in
    IfOk-weaker _ _ _ (λ text t. text_by_prefix (ap tag_value c.in-Short.is) same t) c.resolve-in-Short.ensures.text

pub returns-in-Short-clause-refused : goal.returns-in-Short-clause-refused
returns-in-Short-clause-refused c =
    let h = c.in-Short.handle.now in
    let es = c.self.inside.all.entries in
    let same : prefix_of c.self.inside.few h ≡ prefix_of c.args.self.now h =
    prefix_by_declared c.self.inside.few c.args.self.now h
    (c.self.invariant.same (omega (arith, length-map es declaration, c.len.ensures.len, c.if-len-gt-FEW.false)) h ∙ ap (λ z. declared_prefix z h) c.self.view_is) in
    IfErr-weaker _ _ _
    (λ fault u. ⊎_elim (λ (m : fault ≡ Memory). inl m)
    (λ (m : (fault ≡ UnknownHandle (record { line = 1; column = 1 })) × UnknownHandleOf c.self.inside.few (tag_value c.args.tag.now)).
    inr (m.0, unknown_by_prefix (ap tag_value c.in-Short.is) same m.1)) u)
    c.resolve-in-Short.ensures.refused

pub returns : goal.returns
returns c = record {
  text = IfOk-weaker _ _ _ (λ text t. other_text c.args.tag.now c.in_default.not-Short t) c.resolve-2.ensures.text;
  refused = IfErr-weaker _ _ _
      (λ fault u. ⊎_elim (λ (m : fault ≡ Memory). inl m)
      (λ (m : (fault ≡ UnknownHandle (record { line = 1; column = 1 })) × UnknownHandleOf c.self.inside.few (tag_value c.args.tag.now)).
      other_known c.args.tag.now c.in_default.not-Short m.1) u)
      c.resolve-2.ensures.refused;
}
