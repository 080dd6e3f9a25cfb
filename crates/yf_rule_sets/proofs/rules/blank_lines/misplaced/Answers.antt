use Rattle.std.proofs.Common.{◌≡◌, ◌<◌, ◌∙◌, Some, true, false, length, get_or, sym, subst, arith}
use Rattle.std.specs.Prelude.{slice_get}
use Rattle.std.proofs.lemmas.List.{get_or_default}
use Rattle.yf_rule_sets.specs.Passes.BlankNotes.{IsAfterBlankOrMarker, IsBeforeMarker}
use Rattle.yf_rule_sets.proofs.RuleSets.BlankLemmas.{at_end, follows_wrong, misplaced_there, no_blank, precedes_wrong, well_placed, when_false, when_true}
use Rattle.yf_rule_sets.proofs.rules.blank_lines.misplaced.Goals as goal

pub returns-then-not-index : goal.returns-then-not-index
returns-then-not-index c =
    let n = c.args.notes.now in
    let k = c.args.k in
    let l : k < length n.blank.items = omega (arith, c.requires.line, c.requires.count) in
    let e : get_or n.blank.items k false ≡ false = sym (get_or_default n.blank.items k c.index.result.now false l) ∙ sym c.index.ensures ∙ c.if-not-index.true in
    λ r a. no_blank c.args.src.now r n.blank.items n.markers.items n.directives.items a k e

pub returns-then-k-last : goal.returns-then-k-last
returns-then-k-last c =
    let v = c.args.src.now in
    let n = c.args.notes.now in
    let k = c.args.k in
    let l : k < length n.blank.items = omega (arith, c.requires.line, c.requires.count) in
    let e : get_or n.blank.items k false ≡ true = sym (get_or_default n.blank.items k c.index.result.now false l) ∙ sym c.index.ensures ∙ c.if-not-index.false in
    let f : slice_get v.lines k ≡ Some c.line-start.result = subst (λ w. slice_get w.lines k ≡ Some c.line-start.result) c.lines.ensures c.line-start.ensures.item in
    λ r a.
    misplaced_there v r n.blank.items n.markers.items n.directives.items a k c.line-start.result e f
    (at_end v r n.blank.items n.markers.items n.directives.items a k c.args.last c.requires.last c.if-k-last.true)

pub returns-then-follows : goal.returns-then-follows
returns-then-follows c =
    let v = c.args.src.now in
    let n = c.args.notes.now in
    let k = c.args.k in
    let l : k < length n.blank.items = omega (arith, c.requires.line, c.requires.count) in
    let e : get_or n.blank.items k false ≡ true = sym (get_or_default n.blank.items k c.index.result.now false l) ∙ sym c.index.ensures ∙ c.if-not-index.false in
    let f : slice_get v.lines k ≡ Some c.line-start.result = subst (λ w. slice_get w.lines k ≡ Some c.line-start.result) c.lines.ensures c.line-start.ensures.item in
    λ r a.
    misplaced_there v r n.blank.items n.markers.items n.directives.items a k c.line-start.result e f
    (follows_wrong (when_true (IsAfterBlankOrMarker v r k) c.follows.result c.if-follows.true (c.follows.ensures v r a)))

pub returns-then-precedes : goal.returns-then-precedes
returns-then-precedes c =
    let v = c.args.src.now in
    let n = c.args.notes.now in
    let k = c.args.k in
    let l : k < length n.blank.items = omega (arith, c.requires.line, c.requires.count) in
    let e : get_or n.blank.items k false ≡ true = sym (get_or_default n.blank.items k c.index.result.now false l) ∙ sym c.index.ensures ∙ c.if-not-index.false in
    let f : slice_get v.lines k ≡ Some c.line-start.result = subst (λ w. slice_get w.lines k ≡ Some c.line-start.result) c.lines.ensures c.line-start.ensures.item in
    λ r a.
    misplaced_there v r n.blank.items n.markers.items n.directives.items a k c.line-start.result e f
    (precedes_wrong (when_true (IsBeforeMarker v r k) c.precedes.result c.if-precedes.true (c.precedes.ensures r a)))

pub returns : goal.returns
returns c =
    let v = c.args.src.now in
    let n = c.args.notes.now in
    let k = c.args.k in
    let l : k < length n.blank.items = omega (arith, c.requires.line, c.requires.count) in
    let e : get_or n.blank.items k false ≡ true = sym (get_or_default n.blank.items k c.index.result.now false l) ∙ sym c.index.ensures ∙ c.if-not-index.false in
    λ r a.
    well_placed v r n.blank.items n.markers.items n.directives.items a k c.args.last c.requires.last c.if-k-last.false e
    (when_false (IsAfterBlankOrMarker v r k) c.follows.result c.if-follows.false (c.follows.ensures v r a)) (when_false (IsBeforeMarker v r k) c.precedes.result c.if-precedes.false (c.precedes.ensures r a))
