-- Which comments trail which leaves in the layout of a reading, and which trail a row.
use Rattle.std.specs.Prelude.{◌≡◌, ℕ, true, false, List, [], flat_map, get_or, option_to_list, slice_get, Option, Some, None}
use Rattle.yf_comments.specs.Comment.{CommentValue}
use Rattle.yf_events.specs.Tree.{DocumentTree, Node, TreesOf, is_text, standing}
use Rattle.yf_events.specs.declared.event.Span.{Span}
use Rattle.yf_events.specs.declared.lists.Lists.{Lists}
use Rattle.yf_forms.specs.declared.form.decide.Form.{Form}
use Rattle.yf_forms.specs.declared.form.measure.Measure.{Measure}
use Rattle.yf_forms.specs.declared.style.Style.{Style}
use Rattle.yf_laws.specs.Layouts.Decorated.{rows_of}
use Rattle.yf_forms.specs.NormalForms.Forms.{AreForms}
use Rattle.yf_forms.specs.Nodes.SingleNodes.{NodeAt}
use Rattle.yf_laws.specs.Layouts.Layout.{first_comment, is_among, source_of, trailing, trailing_leaf}
use Rattle.yf_forms.specs.NormalForms.Measures.{AreMeasures}
use Rattle.yf_forms.specs.Passes.MeasurePass.{setting}
use Rattle.yf_laws.specs.NormalForms.NormalForm.{NormalForm}
use Rattle.yf_print.specs.Passes.TrailPass.{TrailsSoFar}

-- the comment at an index, as a list
abbrev pub at_index : List CommentValue → Option ℕ → List CommentValue
at_index cs None = []
at_index cs (Some n) = option_to_list (slice_get cs n)

-- what was found agrees with the layout: for each leaf with characters the comment that trails it, or none, and for
-- each comment whether it trails a row
pub record LayoutTrails (m : Lists) (s : Style) (ds : List DocumentTree) (f : TrailsSoFar) : Type 0 where
  pub of_leaf : (j : ℕ) (x : Node) (leaf : Span) → NodeAt m.events j x → is_text x ≡ true → (standing x).span ≡ Some leaf
      → at_index m.comments (get_or f.of_leaf j None) ≡ trailing_leaf (source_of m (rows_of m s ds)) leaf (first_comment (source_of m (rows_of m s ds)) leaf)
  pub of_comment : (k : ℕ) (d : CommentValue) → slice_get m.comments k ≡ Some d
      → get_or f.trailing k false ≡ is_among (flat_map (trailing (source_of m (rows_of m s ds))) (rows_of m s ds)) d

-- this holds for the normal form of a text's reading, whatever its trees
pub record FindsTrails (m : Lists) (ms : List Measure) (fs : List Form) (f : TrailsSoFar) : Type 0 where
  pub finds : (s : Style) → NormalForm m s → AreMeasures [] (setting s []) m.events ms → AreForms m s ms fs → (ds : List DocumentTree) → TreesOf m ds → LayoutTrails m s ds f
