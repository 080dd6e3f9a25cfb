-- The text made so far, and the result of the remaining edits on the rest.
use Rattle.std.proofs.Common.{◌≡◌, ◌++◌, drop, string_bytes}
use Rattle.std.specs.Str.{IsCharBoundary}
use Rattle.yf_positions.specs.Edits.{edited, in_order}
use Rattle.yf_positions.proofs.text_edit.after_edits.Given as goal

abbrev pub invariant-loop-edit : goal.invariant-loop-edit
invariant-loop-edit l = record {
  boundary : IsCharBoundary l.document l.at;
  order : in_order l.encoding l.document 0 l.edits ≡ in_order l.encoding l.document l.at (drop l.edit-index l.edits);
  made : string_bytes l.text ++ edited l.encoding l.document l.at (drop l.edit-index l.edits)
      ≡ edited l.encoding l.document 0 l.edits;
}
