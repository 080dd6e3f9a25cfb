-- The printer's pass prints the layout of a stream of normal forms, if the comments that trail are those of the layout.
use Rattle.std.proofs.Common.{◌≡◌, ℕ, ◌+◌, ◌≤◌, true, List, [], length, flat_map, get_or, None, refl, ap, ◌∙◌}
use Rattle.std.specs.Prelude.{◌-◌, ◌*◌, ◌^◌}
use Rattle.yf_events.specs.Tree.{DocumentTree, TreesOf}
use Rattle.yf_events.specs.declared.lists.Lists.{Lists}
use Rattle.yf_forms.specs.declared.form.decide.Form.{Form}
use Rattle.yf_forms.specs.declared.form.measure.Measure.{Measure}
use Rattle.yf_forms.specs.declared.style.Style.{Style}
use Rattle.yf_laws.proofs.OfTexts.KeyEntries.{keys_begin_in_documents}
use Rattle.yf_laws.specs.Layouts.Decorated.{rows_of}
use Rattle.yf_forms.specs.NormalForms.Forms.{documents_are_placed, stream_forms}
use Rattle.yf_laws.specs.Layouts.Layout.{Source, layout, source_of}
use Rattle.yf_forms.specs.Nodes.Lines.{after_two_spaces}
use Rattle.yf_forms.specs.Passes.MeasurePass.{setting}
use Rattle.yf_forms.specs.NormalForms.Normal.{setting_of}
use Rattle.yf_print.specs.Passes.PrintPass.{printed}
use Rattle.yf_print.specs.Passes.PrintWork.{work_of}
use Rattle.yf_print.specs.Passes.TrailPass.{TrailsSoFar}
use Rattle.yf_laws.specs.Layouts.TrailsOf.{LayoutTrails}
use Rattle.yf_laws.proofs.Printer.DocumentsPrinted.{AreNormal, stream_printed, RootsLaid}
use Rattle.yf_laws.proofs.Printer.FedLemmas.{layout_fed, trail, fed}
use Rattle.yf_laws.proofs.Printer.FeedLemmas.{ascend}
use Rattle.yf_laws.proofs.Printer.NotedLemmas.{Known}
use Rattle.yf_laws.proofs.Printer.MeasureFacts.{MeasuresTell}
use Rattle.yf_laws.proofs.Trails.TrailLeaves.{text_of}
use Rattle.yf_laws.proofs.Trails.TrailOthers.{others_left}
use Rattle.yf_print.specs.Layouts.BareSearch.{is_found_bare}
use Rattle.yf_forms.specs.NormalForms.BareStart.{is_bare}
use Rattle.yf_laws.specs.Layouts.FitDocuments.{FitsBare}
use Rattle.yf_print.specs.Passes.Drafts.{finished, no_draft, remarks}
use Rattle.yf_print.specs.Layouts.Rows.{all_rows}

pub printed_layout : (t : List ℕ) (m : Lists) (s : Style) (ms : List Measure) (fs : List Form) (f : TrailsSoFar) (n : ℕ) (ds : List DocumentTree) → TreesOf m ds
    → MeasuresTell m.events ms → fs ≡ stream_forms [] (setting s []) (setting_of m s) ds → documents_are_placed ds ≡ true
    → keys_begin_in_documents ds ≡ true → AreNormal (setting_of m s) n ds → 8 * n + 8 ≤ 2 ^ 64 - 1 → ascend m.comments ≡ true
    → length m.on_leaf_line ≡ length m.comments → LayoutTrails m s ds f → is_found_bare m s ≡ is_bare m s → FitsBare (is_found_bare m s) m.documents ds → RootsLaid (setting_of m s) (is_found_bare m s) ds
    → printed (work_of t m s ms fs f) ≡ layout t m s ds
printed_layout t m s ms fs f n ds trees measured decided h b a r up noted tr same fits laid =
    let c : Source = source_of m (rows_of m s ds) in
    let k : Known = record {
      work = work_of t m s ms fs f;
      trail = trail c;
      measured = measured;
      trails = λ j x leaf at is q. text_of m.comments (get_or f.of_leaf j None) ∙ ap (flat_map after_two_spaces) (tr.of_leaf j x leaf at is q);
    } in
    stream_printed k n ds trees.events trees.documents h b a r decided fits laid
    ∙ (ap (λ e. finished (remarks t s m.comments f.trailing) (fed (remarks t s m.comments f.trailing) (trail c) (all_rows (setting_of m s) e m.documents ds) no_draft)) same ∙ layout_fed t m s ds f.trailing up (others_left c m.comments m.on_leaf_line f.trailing (rows_of m s ds) refl noted tr.of_comment))
