use Rattle.std.proofs.Common.{refl, ◌∙◌, ap}
use denote.Param.Object.{read_made}
use Rattle.yf_rule_sets.specs.Definition.{RuleDefinition}
use Rattle.yf_rule_sets.specs.RuleOf.{definition_of}
use Rattle.yf_rules.proofs.Findings.AllRulesLemmas.{is_definition}
use Rattle.yf_rules.proofs.with_rules.with_all_rules.OwnLists.{own-1, at-1-1}
use Rattle.yf_rules.proofs.with_rules.with_all_rules.Goals as goal

-- the definition at each box is that of the boxed rule
pub with_rules-requires : goal.with_rules-requires
with_rules-requires g c =
    let made-1 = read_made own-1 (own-1.entry at-1-1) at-1-1 refl RuleDefinition (λ j w. j.1.definition w) _ _
    c.in_ok-new.field-0.value c.into_dyn_box.ensures.1 in
    let made-2 = read_made own-1 (own-1.entry at-1-1) at-1-1 refl RuleDefinition (λ j w. j.1.definition w) _ _
    c.in_ok-new-2.field-0.value c.into_dyn_box-in_ok-new-2.ensures.1 in
    let made-3 = read_made own-1 (own-1.entry at-1-1) at-1-1 refl RuleDefinition (λ j w. j.1.definition w) _ _
    c.in_ok-new-3.field-0.value c.into_dyn_box-in_ok-new-3.ensures.1 in
    let made-4 = read_made own-1 (own-1.entry at-1-1) at-1-1 refl RuleDefinition (λ j w. j.1.definition w) _ _
    c.in_ok-new-4.field-0.value c.into_dyn_box-in_ok-new-4.ensures.1 in
    let made-5 = read_made own-1 (own-1.entry at-1-1) at-1-1 refl RuleDefinition (λ j w. j.1.definition w) _ _
    c.in_ok-new-5.field-0.value c.into_dyn_box-in_ok-new-5.ensures.1 in
    let made-6 = read_made own-1 (own-1.entry at-1-1) at-1-1 refl RuleDefinition (λ j w. j.1.definition w) _ _
    c.in_ok-new-6.field-0.value c.into_dyn_box-in_ok-new-6.ensures.1 in
    let made-7 = read_made own-1 (own-1.entry at-1-1) at-1-1 refl RuleDefinition (λ j w. j.1.definition w) _ _
    c.in_ok-new-7.field-0.value c.into_dyn_box-in_ok-new-7.ensures.1 in
    let made-8 = read_made own-1 (own-1.entry at-1-1) at-1-1 refl RuleDefinition (λ j w. j.1.definition w) _ _
    c.in_ok-new-8.field-0.value c.into_dyn_box-in_ok-new-8.ensures.1 in
    let made-9 = read_made own-1 (own-1.entry at-1-1) at-1-1 refl RuleDefinition (λ j w. j.1.definition w) _ _
    c.in_ok-new-9.field-0.value c.into_dyn_box-in_ok-new-9.ensures.1 in
    let made-10 = read_made own-1 (own-1.entry at-1-1) at-1-1 refl RuleDefinition (λ j w. j.1.definition w) _ _
    c.in_ok-new-10.field-0.value c.into_dyn_box-in_ok-new-10.ensures.1 in
    let made-11 = read_made own-1 (own-1.entry at-1-1) at-1-1 refl RuleDefinition (λ j w. j.1.definition w) _ _
    c.in_ok-new-11.field-0.value c.into_dyn_box-in_ok-new-11.ensures.1 in
    let made-12 = read_made own-1 (own-1.entry at-1-1) at-1-1 refl RuleDefinition (λ j w. j.1.definition w) _ _
    c.in_ok-new-12.field-0.value c.into_dyn_box-in_ok-new-12.ensures.1 in
    let made-13 = read_made own-1 (own-1.entry at-1-1) at-1-1 refl RuleDefinition (λ j w. j.1.definition w) _ _
    c.in_ok-new-13.field-0.value c.into_dyn_box-in_ok-new-13.ensures.1 in
    let made-14 = read_made own-1 (own-1.entry at-1-1) at-1-1 refl RuleDefinition (λ j w. j.1.definition w) _ _
    c.in_ok-new-14.field-0.value c.into_dyn_box-in_ok-new-14.ensures.1 in
    let is-1 = is_definition _ _ (made-1 ∙ ap definition_of c.in_ok-new.ensures.ok) in
    let is-2 = is_definition _ _ (made-2 ∙ ap definition_of c.in_ok-new-2.ensures.ok) in
    let is-3 = is_definition _ _ (made-3 ∙ ap definition_of c.in_ok-new-3.ensures.ok) in
    let is-4 = is_definition _ _ (made-4 ∙ ap definition_of c.in_ok-new-4.ensures.ok) in
    let is-5 = is_definition _ _ (made-5 ∙ ap definition_of c.in_ok-new-5.ensures.ok) in
    let is-6 = is_definition _ _ (made-6 ∙ ap definition_of c.in_ok-new-6.ensures.ok) in
    let is-7 = is_definition _ _ (made-7 ∙ ap definition_of c.in_ok-new-7.ensures.ok) in
    let is-8 = is_definition _ _ (made-8 ∙ ap definition_of c.in_ok-new-8.ensures.ok) in
    let is-9 = is_definition _ _ (made-9 ∙ ap definition_of c.in_ok-new-9.ensures.ok) in
    let is-10 = is_definition _ _ (made-10 ∙ ap definition_of c.in_ok-new-10.ensures.ok) in
    let is-11 = is_definition _ _ (made-11 ∙ ap definition_of c.in_ok-new-11.ensures.ok) in
    let is-12 = is_definition _ _ (made-12 ∙ ap definition_of c.in_ok-new-12.ensures.ok) in
    let is-13 = is_definition _ _ (made-13 ∙ ap definition_of c.in_ok-new-13.ensures.ok) in
    let is-14 = is_definition _ _ (made-14 ∙ ap definition_of c.in_ok-new-14.ensures.ok) in
    (is-1, (is-2, (is-3, (is-4, (is-5, (is-6, (is-7, (is-8, (is-9, (is-10, (is-11, (is-12, (is-13, (is-14, tt))))))))))))))
