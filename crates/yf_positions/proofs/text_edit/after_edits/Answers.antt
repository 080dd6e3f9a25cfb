use Rattle.std.proofs.Common.{◌≡◌, ◌≤◌, ◌++◌, ◌+◌, drop, slice_range, refl, sym, ap, ◌∙◌, subst, arith}
use Rattle.std.proofs.lemmas.Str.{IsCharBoundary-start}
use Rattle.std.specs.Str.{IsUtf8}
use Rattle.yf_positions.specs.Edits.{RangeEdit, edit_start, edit_end, edited, in_order}
use Rattle.yf_positions.proofs.EditLemmas.{made_more, order_more}
use Rattle.yf_positions.proofs.text_edit.after_edits.Goals as goal

pub loop-edit-init : goal.loop-edit-init
loop-edit-init c = record {
  boundary = IsCharBoundary-start c.args.document.now (subst IsUtf8 c.text-old.ensures c.text-old.utf8);
  order = refl;
  made = ap (λ z. z ++ edited c.args.encoding c.args.document.now 0 c.args.edits.now) c.in_ok-text.ensures.bytes;
}

pub loop-edit-preserved : goal.loop-edit-preserved
loop-edit-preserved c =
    let e = c.args.encoding in
    let t = c.args.document.now in
    let edits = c.args.edits.now in
    let k = c.loop-edit.edit-index in
    let x = c.edit-item.result in
    let inside = c.loop-edit-test.true in
    let start : c.offset_of-start.result ≡ edit_start c.args.encoding c.args.document.now c.edit-item.result =
    c.offset_of-start.ensures.exact ∙ ap (edit_start e t) c.edit.view_is in
    let end : c.offset_of-end.result ≡ edit_end c.args.encoding c.args.document.now c.edit-item.result =
    c.offset_of-end.ensures.exact ∙ ap (edit_end e t) c.edit.view_is in
    let before : c.loop-edit.at ≤ edit_start c.args.encoding c.args.document.now c.edit-item.result = omega arith in
    let order :
    edit_start c.args.encoding c.args.document.now c.edit-item.result
    ≤ edit_end c.args.encoding c.args.document.now c.edit-item.result =
    omega arith in
    let part =
    c.range.ensures.value
    ∙ ap (λ z. slice_range z c.loop-edit.at c.offset_of-start.result) c.text-old.ensures
    ∙ ap (slice_range t c.loop-edit.at) start in
    let text = ap (λ (r : RangeEdit). r.text) c.edit.view_is in
    record {
      boundary = c.offset_of-end.ensures.boundary;
      order = c.loop-edit.invariant.order ∙ order_more e t c.loop-edit.at k edits x inside c.edit-item.is before order
          ∙ ap (λ z. in_order e t z (drop (k + 1) edits)) (sym end);
      made = made_more e t c.loop-edit.at c.offset_of-end.result k edits x _ _ _ c.range.result.now
          c.edit.inside.text.now _ inside c.edit-item.is end part text c.in_ok-push_str.ensures.bytes
          c.in_ok-push_str-2.ensures.bytes c.loop-edit.invariant.made;
    }
