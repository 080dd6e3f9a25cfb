-- The first step of the script, one more, and its end.
use Rattle.std.proofs.Common.{length, sym, ap, ◌∙◌}
use Rattle.std.proofs.lemmas.Slice.Eq.{bytes_eq-Decides}
use Rattle.yf_diff.specs.Script.{olds, news}
use Rattle.yf_diff.specs.Texts.{lines_of}
use Rattle.yf_positions.proofs.BetweenLemmas.{between_none, between_at, between_kept, between_dropped, between_added, between_end}
use Rattle.yf_positions.proofs.FollowLemmas.{both, between_of, walk_of, follows_none, follows_at, follows_kept, follows_dropped, follows_added, follows_end, same_script}
use Rattle.yf_positions.proofs.text_edit.edits_between.Goals as goal

pub loop-step-init : goal.loop-step-init
loop-step-init c =
    let gone = ap olds c.deref-step-items.ensures.value ∙ c.in_ok-steps.ensures.olds ∙ c.deref.ensures.value
    ∙ c.in_ok-old_lines.ensures ∙ ap lines_of (c.as_bytes.ensures.value ∙ c.text-old.ensures) in
    let come = ap news c.deref-step-items.ensures.value ∙ c.in_ok-steps.ensures.news ∙ c.deref-2.ensures.value
    ∙ c.in_ok-new_lines.ensures ∙ ap lines_of c.as_bytes-2.ensures.value in
    walk_of c.args.encoding c.args.document.now c.args.new.now c.new-edits.result.items 0 0 0 0
    c.deref-step-items.result.now c.deref-step-items.result.now
    (between_none c.args.encoding c.args.document.now c.args.new.now c.new-edits.result.items
    c.deref-step-items.result.now c.new-edits.ensures.items gone come)
    (follows_none c.args.encoding c.args.document.now c.args.new.now c.new-edits.result.items
    c.deref-step-items.result.now c.new-edits.ensures.items)

pub loop-step-preserved-then-not-is_change : goal.loop-step-preserved-then-not-is_change
loop-step-preserved-then-not-is_change c =
    let b = between_at c.args.encoding c.args.document.now c.args.new.now c.loop-step.edits.items c.loop-step.from.old
    c.loop-step.from.new c.loop-step.to.old c.loop-step.to.new c.loop-step.step-index c.deref-step-items.result.now
    c.step-item.result
    c.loop-step-test.true c.step-item.is
    (between_of c.args.encoding c.args.document.now c.args.new.now c.loop-step.edits.items c.loop-step.from.old
    c.loop-step.from.new c.loop-step.to.old c.loop-step.to.new c.deref-step-items.result.now _
    c.loop-step.invariant) in
    let f = follows_at c.args.encoding c.args.document.now c.args.new.now c.loop-step.edits.items
    (both c.loop-step.from.old c.loop-step.from.new)
    (both c.loop-step.to.old c.loop-step.to.new) c.loop-step.step-index c.deref-step-items.result.now
    c.step-item.result
    c.loop-step-test.true c.step-item.is c.loop-step.invariant.follows in
    let change = sym c.if-not-is_change.ensures in
    let size = ap length c.line-size.ensures in
    walk_of c.args.encoding c.args.document.now c.args.new.now c.push_edit.new.edits.items _ _ _ _
    c.deref-step-items.result.now _
    (between_kept c.args.encoding c.args.document.now c.args.new.now c.loop-step.edits.items
    c.push_edit.new.edits.items c.loop-step.from.old c.loop-step.from.new c.loop-step.to.old c.loop-step.to.new
    (length c.line-size.result.now) c.step-item.result _ change size b c.in_ok-push_edit.ensures.reach)
    (follows_kept c.args.encoding c.args.document.now c.args.new.now c.loop-step.edits.items
    c.push_edit.new.edits.items c.loop-step.from.old c.loop-step.from.new c.loop-step.to.old c.loop-step.to.new
    (length c.line-size.result.now) c.deref-step-items.result.now c.step-item.result _ change size
    c.in_ok-push_edit.ensures.added f)

pub loop-step-preserved-then-old_count-eq1 : goal.loop-step-preserved-then-old_count-eq1
loop-step-preserved-then-old_count-eq1 c =
    let b = between_at c.args.encoding c.args.document.now c.args.new.now c.loop-step.edits.items c.loop-step.from.old
    c.loop-step.from.new c.loop-step.to.old c.loop-step.to.new c.loop-step.step-index c.deref-step-items.result.now
    c.step-item.result
    c.loop-step-test.true c.step-item.is
    (between_of c.args.encoding c.args.document.now c.args.new.now c.loop-step.edits.items c.loop-step.from.old
    c.loop-step.from.new c.loop-step.to.old c.loop-step.to.new c.deref-step-items.result.now _
    c.loop-step.invariant) in
    let f = follows_at c.args.encoding c.args.document.now c.args.new.now c.loop-step.edits.items
    (both c.loop-step.from.old c.loop-step.from.new)
    (both c.loop-step.to.old c.loop-step.to.new) c.loop-step.step-index c.deref-step-items.result.now
    c.step-item.result
    c.loop-step-test.true c.step-item.is c.loop-step.invariant.follows in
    let change = sym c.if-not-is_change.ensures in
    let size = ap length c.line-size.ensures in
    walk_of c.args.encoding c.args.document.now c.args.new.now c.loop-step.edits.items _ _ _ _
    c.deref-step-items.result.now _
    (between_dropped c.args.encoding c.args.document.now c.args.new.now c.loop-step.edits.items c.loop-step.from.old
    c.loop-step.from.new c.loop-step.to.old c.loop-step.to.new
    (length c.line-size.result.now) c.old_count.result c.step-item.result _ change c.old_count.ensures.count
    c.if-old_count-eq1.true size b)
    (follows_dropped c.args.encoding c.args.document.now c.args.new.now c.loop-step.edits.items c.loop-step.from.old
    c.loop-step.from.new c.loop-step.to.old c.loop-step.to.new
    (length c.line-size.result.now) c.old_count.result c.deref-step-items.result.now c.step-item.result _ change
    c.old_count.ensures.count
    c.if-old_count-eq1.true size b f)

pub loop-step-preserved : goal.loop-step-preserved
loop-step-preserved c =
    let b = between_at c.args.encoding c.args.document.now c.args.new.now c.loop-step.edits.items c.loop-step.from.old
    c.loop-step.from.new c.loop-step.to.old c.loop-step.to.new c.loop-step.step-index c.deref-step-items.result.now
    c.step-item.result
    c.loop-step-test.true c.step-item.is
    (between_of c.args.encoding c.args.document.now c.args.new.now c.loop-step.edits.items c.loop-step.from.old
    c.loop-step.from.new c.loop-step.to.old c.loop-step.to.new c.deref-step-items.result.now _
    c.loop-step.invariant) in
    let f = follows_at c.args.encoding c.args.document.now c.args.new.now c.loop-step.edits.items
    (both c.loop-step.from.old c.loop-step.from.new)
    (both c.loop-step.to.old c.loop-step.to.new) c.loop-step.step-index c.deref-step-items.result.now
    c.step-item.result
    c.loop-step-test.true c.step-item.is c.loop-step.invariant.follows in
    let change = sym c.if-not-is_change.ensures in
    let size = ap length c.line-size.ensures in
    walk_of c.args.encoding c.args.document.now c.args.new.now c.loop-step.edits.items _ _ _ _
    c.deref-step-items.result.now _
    (between_added c.args.encoding c.args.document.now c.args.new.now c.loop-step.edits.items c.loop-step.from.old
    c.loop-step.from.new c.loop-step.to.old c.loop-step.to.new
    (length c.line-size.result.now) c.old_count.result c.step-item.result _ change c.old_count.ensures.count
    c.if-old_count-eq1.false size b)
    (follows_added c.args.encoding c.args.document.now c.args.new.now c.loop-step.edits.items c.loop-step.from.old
    c.loop-step.from.new c.loop-step.to.old c.loop-step.to.new
    (length c.line-size.result.now) c.old_count.result c.deref-step-items.result.now c.step-item.result _ change
    c.old_count.ensures.count
    c.if-old_count-eq1.false size b f)

pub returns-clause-text : goal.returns-clause-text
returns-clause-text c =
    let b = between_of c.args.encoding c.args.document.now c.args.new.now c.loop-step.edits.items c.loop-step.from.old
    c.loop-step.from.new c.loop-step.to.old c.loop-step.to.new c.deref-step-items.result.now _ c.loop-step.invariant in
    between_end c.args.encoding c.args.document.now c.args.new.now c.loop-step.edits.items
    c.push_edit-2.new.edits.items c.loop-step.from.old c.loop-step.from.new c.loop-step.to.old c.loop-step.to.new
    c.loop-step.step-index c.deref-step-items.result.now c.loop-step-test.false b c.in_ok-push_edit-2.ensures.reach

pub returns-clause-script : goal.returns-clause-script
returns-clause-script c =
    let gone = ap olds c.deref-step-items.ensures.value ∙ c.in_ok-steps.ensures.olds ∙ c.deref.ensures.value
    ∙ c.in_ok-old_lines.ensures ∙ ap lines_of (c.as_bytes.ensures.value ∙ c.text-old.ensures) in
    let come = ap news c.deref-step-items.ensures.value ∙ c.in_ok-steps.ensures.news ∙ c.deref-2.ensures.value
    ∙ c.in_ok-new_lines.ensures ∙ ap lines_of c.as_bytes-2.ensures.value in
    record {
      script = c.deref-step-items.result.now;
      olds = gone;
      news = come;
      follow = follows_end c.args.encoding c.args.document.now c.args.new.now c.loop-step.edits.items
          c.push_edit-2.new.edits.items c.loop-step.from.old c.loop-step.from.new c.loop-step.to.old c.loop-step.to.new
          c.loop-step.step-index c.deref-step-items.result.now c.loop-step-test.false c.in_ok-push_edit-2.ensures.added
          c.loop-step.invariant.follows;
    }

pub returns-then-eq-clause-script : goal.returns-then-eq-clause-script
returns-then-eq-clause-script c =
    let same = (bytes_eq-Decides c.text-old.result.now c.args.new.now).0 (sym c.eq.ensures ∙ c.if-eq.true) in
    same_script c.args.encoding c.args.document.now c.args.new.now _ (sym c.text-old.ensures ∙ same) c.new.ensures.items
