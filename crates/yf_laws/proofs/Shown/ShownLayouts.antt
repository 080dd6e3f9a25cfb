-- A small example tree that meets the premises of the law of layouts, and its text.
use Rattle.std.proofs.Common.{◌≡◌, ℕ, List, [], ◌∷◌, None, codes, refl, false}
use Rattle.std.specs.Str.{IsUtf8, chars, is_utf8}
use Rattle.std.proofs.lemmas.Str.{IsUtf8-from_is_utf8}
use lib.Utf8.{encode}
use Rattle.yf_chars.specs.Class.{is_nb_char, is_printable, is_between, is_break_char}
use Rattle.yf_chars.specs.Text.{begins, code}
use Rattle.yf_chars.proofs.Tests.{no_nil}
use Rattle.yf_comments.specs.GapLines.{IsRemark}
use Rattle.yf_props.specs.Props.{no_props}
use Rattle.yf_events.specs.declared.event.ScalarStyle.TheVariants.{Single}
use Rattle.yf_events.specs.Tree.{Node, scalar}
use Rattle.yf_laws.specs.Layouts.RowComments.{nothing_carried, one_carried}
use Rattle.yf_laws.specs.Layouts.Decorated.{blank, remark, Deco, no_deco}
use Rattle.yf_laws.specs.Layouts.FitDocuments.{fit_no_documents, fit_document, fit_no_directives, fits_marked}
use Rattle.yf_laws.proofs.Writable.FitFlows.{flow_leaf, flow_sequence, flow_last_item}
use Rattle.yf_laws.specs.Layouts.ReadableTrees.{Fit, fit_nothing, fit_line, fit_sequence, fit_mapping, fit_no_items, fit_item, fit_no_pairs, no_fit_props}
use Rattle.yf_laws.proofs.Derived.LayoutLaws.{StreamMade}
use Rattle.yf_laws.proofs.Shown.Examples.{house, at, entry, key, nothing, block_items, block_pairs, flow_items, one_document, root}
use Rattle.yf_laws.proofs.Writable.FlowFits.{flow_inline}
use Rattle.yf_laws.proofs.Writable.LeafFits.{single_inline}
use Rattle.yf_laws.proofs.Derived.StreamsLaid.{layout_derived}

-- 'a' with three items: a text, nothing, and a collection on one line

abbrev small_tree : Node
small_tree = block_pairs (at 0 9 None) no_props ((
  scalar (at 0 3 (key 0 3)) no_props Single (codes "a") [],
  block_items (at 5 9 None) no_props (
      scalar (at 5 6 (entry 5)) no_props Single (codes "x") [] ∷ nothing (entry 6) ∷ flow_items (at 7 9 (entry 7)) no_props (scalar (at 8 9 (entry 8)) no_props Single (codes "y") [] ∷ []) ∷ []),
) ∷ [])

small_fits : Fit house small_tree
unfolding is_utf8 chars is_nb_char is_printable is_between is_break_char encode
small_fits = fit_mapping refl no_fit_props
    (fit_line refl (λ e. no_nil {A = ℕ} e) (single_inline house refl refl (IsUtf8-from_is_utf8 (codes "a") refl) refl).node (single_inline house refl refl (IsUtf8-from_is_utf8 (codes "a") refl) refl))
    (fit_sequence refl no_fit_props
    (fit_line refl (λ e. no_nil {A = ℕ} e) (single_inline house refl refl (IsUtf8-from_is_utf8 (codes "x") refl) refl).node (single_inline house refl refl (IsUtf8-from_is_utf8 (codes "x") refl) refl))
    (fit_item (fit_nothing refl) (fit_item (fit_line refl (λ e. no_nil {A = ℕ} e)
    (flow_inline house refl (flow_sequence refl no_fit_props (flow_leaf (single_inline house refl refl (IsUtf8-from_is_utf8 (codes "y") refl) refl)) flow_last_item)).node
    (flow_inline house refl (flow_sequence refl no_fit_props (flow_leaf (single_inline house refl refl (IsUtf8-from_is_utf8 (codes "y") refl) refl)) flow_last_item))) fit_no_items)))
    fit_no_pairs

abbrev small_decos : List Deco
small_decos = no_deco ∷ record { trails = codes "# c" ∷ []; gap = [] } ∷ record { trails = []; gap = blank ∷ [] } ∷ no_deco ∷ no_deco ∷ []

-- any text with these bytes is derived again, with its two comments
shown_derived : (t : List ℕ) → IsUtf8 t → IsRemark (codes "# top") → IsRemark (codes "# c") → t ≡ codes "# top\n---\n'a':  # c\n  - 'x'\n\n  -\n  - ['y']\n"
    → StreamMade t false (one_document 0) (root small_tree) (codes "# top" ∷ codes "# c" ∷ [])
unfolding chars is_nb_char is_printable is_between is_break_char encode begins code
shown_derived t u a b e =
    (layout_derived (record { style = house; comments = [] }) false (remark 0 (codes "# top") ∷ []) small_decos (fit_document fit_no_directives small_fits fit_no_documents) fits_marked u (a, tt)
    (one_carried (record { trails = tt; gap = tt }) (one_carried (record { trails = b; gap = tt }) (one_carried (record { trails = tt; gap = tt }) (one_carried (record { trails = tt; gap = tt })
    (one_carried (record { trails = tt; gap = tt }) nothing_carried))))) (tt, (tt, (tt, (tt, (tt, tt))))) e).made
