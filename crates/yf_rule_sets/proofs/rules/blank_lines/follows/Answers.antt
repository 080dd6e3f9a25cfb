use Rattle.std.proofs.Common.{◌≡◌, ◌<◌, ◌-◌, ◌∙◌, true, false, length, get_or, sym, ap, arith}
use Rattle.std.proofs.lemmas.List.{get_or_default}
use Rattle.yf_rule_sets.proofs.RuleSets.BlankLemmas.{follows_blank, follows_by}
use Rattle.yf_rule_sets.proofs.rules.blank_lines.follows.Goals as goal

pub returns-then-index : goal.returns-then-index
returns-then-index c =
    let bs = c.args.notes.now.blank.items in
    let l : c.args.k - 1 < length bs = omega (arith, c.requires) in
    let e : get_or bs (c.args.k - 1) false ≡ true = sym (get_or_default bs (c.args.k - 1) c.index.result.now false l) ∙ sym c.index.ensures ∙ c.if-index.true in
    λ src r n. follows_blank src r bs c.args.notes.now.markers.items c.args.notes.now.directives.items n c.args.k c.if-k-eq0.false e

pub returns : goal.returns
returns c =
    let bs = c.args.notes.now.blank.items in
    let l : c.args.k - 1 < length bs = omega (arith, c.requires) in
    let e : get_or bs (c.args.k - 1) false ≡ false = sym (get_or_default bs (c.args.k - 1) c.index.result.now false l) ∙ sym c.index.ensures ∙ c.if-index.false in
    λ src r n. follows_by src r bs c.args.notes.now.markers.items c.args.notes.now.directives.items n c.args.k c.flag.result c.if-k-eq0.false e
    (c.flag.ensures ∙ ap (λ xs. get_or xs (c.args.k - 1) false) c.as_slice.ensures.value)
