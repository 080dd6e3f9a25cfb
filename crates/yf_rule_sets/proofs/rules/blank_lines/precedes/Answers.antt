use Rattle.std.proofs.Common.{◌+◌, ◌<◌, ◌≤◌, ◌∙◌, false, length, get_or, ap, subst, arith}
use Rattle.yf_rule_sets.proofs.RuleSets.BlankLemmas.{NextForbidden, flag_precedes, forbidden_precedes, last_precedes}
use Rattle.yf_rule_sets.proofs.rules.blank_lines.precedes.Goals as goal

pub returns-then-k-count : goal.returns-then-k-count
returns-then-k-count c =
    let n = c.args.notes.now in
    let l : length c.args.src.now.lines ≤ c.args.k + 1 = omega (arith, ap (λ w. length w.lines) c.lines-lines.ensures, c.len-count.ensures.count, c.if-k-count.true) in
    λ r a. last_precedes c.args.src.now r n.blank.items n.markers.items n.directives.items c.args.k a l

pub returns-then-is_forbidden : goal.returns-then-is_forbidden
returns-then-is_forbidden c =
    let k = c.args.k in
    let l : k + 1 < length c.args.src.now.lines = omega (arith, ap (λ w. length w.lines) c.lines-lines.ensures, c.len-count.ensures.count, c.if-k-count.false) in
    let f : NextForbidden c.args.src.now k c.is_forbidden.result = subst (λ w. NextForbidden w k c.is_forbidden.result) c.lines-lines.ensures c.is_forbidden.ensures.line in
    λ r a. forbidden_precedes c.args.src.now r k c.is_forbidden.result l f c.if-is_forbidden.true

pub returns : goal.returns
returns c =
    let n = c.args.notes.now in
    let k = c.args.k in
    let l : k + 1 < length c.args.src.now.lines = omega (arith, ap (λ w. length w.lines) c.lines-lines.ensures, c.len-count.ensures.count, c.if-k-count.false) in
    let f : NextForbidden c.args.src.now k c.is_forbidden.result = subst (λ w. NextForbidden w k c.is_forbidden.result) c.lines-lines.ensures c.is_forbidden.ensures.line in
    λ r a. flag_precedes c.args.src.now r n.blank.items n.markers.items n.directives.items a k c.is_forbidden.result c.flag.result l f c.if-is_forbidden.false
    (c.flag.ensures ∙ ap (λ xs. get_or xs (k + 1) false) c.as_slice.ensures.value)
