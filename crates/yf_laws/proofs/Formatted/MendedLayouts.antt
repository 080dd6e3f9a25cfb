-- In a text whose reading is its own normal form, and in which each outer flow collection is as it is written, none is
-- displaced.
use Rattle.std.proofs.Common.{◌≡◌, ℕ, ◌+◌, ◌-◌, ◌<◌, ◌≤◌, Bool, true, false, List, Some, None, map, refl, sym, ap, ◌∙◌, subst, arith}
use Rattle.std.specs.Prelude.{◌&&◌, if◌then◌else◌, slice_get, slice_range}
use Rattle.std.specs.Str.{IsUtf8}
use Rattle.std.proofs.lemmas.Bool.{leb-true}
use Rattle.std.proofs.lemmas.Option.{same_Some}
use Rattle.yf_lines.specs.Lines.{AreLines, PlaceOf, Table}
use Rattle.yf_lines.specs.declared.line.Line.{Line}
use Rattle.yf_events.specs.Tree.{Node, DocumentTree, TreesOf, is_filled_flow, props_of}
use Rattle.yf_events.specs.declared.event.Span.{Span}
use Rattle.yf_events.specs.declared.lists.Lists.{Lists}
use Rattle.yf_forms.specs.Nodes.ContentStart.{content_start}
use Rattle.yf_forms.specs.Nodes.OneLineFlows.{may_be_kept}
use Rattle.yf_forms.specs.NormalForms.Normal.{LayoutSetting, normal_document, setting_of, styled}
use Rattle.yf_forms.specs.Nodes.OneLine.{bare, width, written}
use Rattle.yf_forms.specs.declared.style.Style.{Style}
use Rattle.yf_rule_sets.specs.RuleSets.Layouts.{LayoutFault, IsDisplaced, wanted_text}
use Rattle.yf_rule_sets.specs.RuleSets.Layouts.LayoutFault.{displaced}
use Rattle.yf_rule_sets.specs.RuleSets.Layouts.EndsPastLimit.{follows}
use Rattle.yf_rule_sets.specs.RuleSets.Layouts.IsDisplaced.{other_text, too_wide}
use Rattle.yf_rule_sets.specs.Passes.OuterFlow.{bracketed}
use Rattle.yf_laws.proofs.Formatted.MendedFlows.{Fine, fine_outer}
use Rattle.yf_laws.proofs.Columns.WrittenNodes.{WrittenDocuments}
use Rattle.yf_laws.proofs.Formatted.WrittenPlaces.{column_most}

-- it is wanted as it is written
wanted_bare : (t : List ℕ) (c : LayoutSetting) (x : Node) → Fine t c x → wanted_text t c x ≡ Some (bare c.style x)
wanted_bare t c x a = by (is_filled_flow x) refl where
  by : (b : Bool) → is_filled_flow x ≡ b → wanted_text t c x ≡ Some (bare c.style x)
  by true e =
      let may : may_be_kept t c.comments x ≡ true = a.may e in
      let same : styled t c x ≡ x = a.same e in
      ap (λ b. if b then (if b && may_be_kept t c.comments x then Some (bare c.style (styled t c x)) else None) else Some (bare c.style x)) e
      ∙ (ap (λ b. if b then Some (bare c.style (styled t c x)) else None) may ∙ ap (λ z. Some (bare c.style z)) same)
  by false e = ap (λ b. if b then (if b && may_be_kept t c.comments x then Some (bare c.style (styled t c x)) else None) else Some (bare c.style x)) e

module _ (src : Table) (r : Lists) (s : Style) (trees : List DocumentTree) (of_reading : TreesOf r trees) (u : IsUtf8 src.text) (lines : AreLines src.text src.lines)
    (broken : (k : ℕ) (l : Line) → slice_get src.lines k ≡ Some l → l.end < l.next) (written_all : WrittenDocuments src.text (setting_of r s) trees)
    (normal : map (normal_document src.text (setting_of r s)) trees ≡ trees) where
  not_displaced : {x : Node} {span : Span} (a : Fine src.text (setting_of r s) x) → span ≡ a.written.span → IsDisplaced src (setting_of r s) x (bracketed src.text (props_of x) span) → ⊥
  not_displaced {x} {span} a e (other_text n) =
      n (wanted_bare src.text (setting_of r s) x a
      ∙ ap (λ w. Some w) (sym (subst (λ (z : Span). slice_range src.text (content_start src.text z (props_of x)) z.end ≡ bare s x) (sym e) a.written.text)))
  not_displaced {x} {span} a e (too_wide filled (follows {line = line} {column = column} place more)) =
      let there : PlaceOf src.text (a.written.span.end - 1) line column = subst (λ (z : Span). PlaceOf src.text (z.end - 1) line column) e place in
      let most : column ≤ a.column + width (written s x) = column_most u a.written lines broken there in
      let fits : a.column + width (written s x) ≤ s.max_line = leb-true (a.column + width (written s x)) s.max_line (a.fit filled) in
      omega (arith, most, fits, more)

  pub none_displaced : (i o : ℕ) → LayoutFault src r s i o → ⊥
  none_displaced i o (displaced {x = x} {s = span} outer is bad) =
      let a = fine_outer trees of_reading written_all normal outer.node outer.flow outer.outer in
      not_displaced a (same_Some _ _ (sym is ∙ a.written.is)) bad
