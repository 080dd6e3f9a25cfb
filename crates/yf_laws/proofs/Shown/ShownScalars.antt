-- A folded scalar that has only spaces is quoted. It then keeps none of its lines, and is read again as it is.
use Rattle.std.proofs.Common.{◌≡◌, ◌≢◌, [], ◌∷◌, None, codes, refl}
use Rattle.std.specs.Str.{IsUtf8, chars, is_utf8}
use Rattle.std.proofs.lemmas.Str.{IsUtf8-from_is_utf8}
use Rattle.yf_props.specs.Props.{no_props}
use Rattle.yf_events.specs.declared.event.ScalarStyle.TheVariants.{Double, Folded}
use Rattle.yf_events.specs.Tree.{Node, scalar}
use Rattle.yf_laws.specs.Layouts.FitDocuments.{FitDocuments, fit_no_directives, fit_document, fit_no_documents}
use Rattle.yf_laws.specs.Layouts.ReadableTrees.{fit_line, no_fit_props}
use Rattle.yf_forms.specs.NormalForms.Normal.{normal_document, setting_of}
use Rattle.yf_forms.specs.Nodes.OneLine.{written}
use Rattle.yf_laws.proofs.Shown.Examples.{house, at, one_document, tree, root, lists_of, formatted}
use Rattle.yf_laws.proofs.Writable.QuotedFits.{double_fits}

-- as it is read in `--- >1` and a line of three spaces, and in its normal form
abbrev read_spaces : Node
read_spaces = scalar (at 4 11 None) no_props Folded (codes "  \n") (codes "  " ∷ [])

abbrev normal_spaces : Node
normal_spaces = scalar (at 4 11 None) no_props Double (codes "  \n") []

spaces_are_quoted : formatted house (codes "--- >1\n   \n") [] (one_document 0) (root read_spaces) ≡ codes "---\n\"  \\n\"\n"
unfolding formatted
spaces_are_quoted = refl

spaces_keep_no_lines : normal_document (codes "--- >1\n   \n") (setting_of (lists_of [] (one_document 0)) house) (tree read_spaces) ≡ tree normal_spaces
unfolding formatted
spaces_keep_no_lines = refl

spaces_are_written : written house normal_spaces ≢ []
spaces_are_written e = cc

spaces_fit : FitDocuments house (one_document 0) (root normal_spaces)
unfolding is_utf8 chars lib.Utf8.encode
spaces_fit =
    let text : IsUtf8 (codes "  \n") = IsUtf8-from_is_utf8 (codes "  \n") refl in
    fit_document fit_no_directives
    (fit_line refl spaces_are_written (double_fits house refl refl no_fit_props text).node (double_fits house refl refl no_fit_props text)) fit_no_documents
