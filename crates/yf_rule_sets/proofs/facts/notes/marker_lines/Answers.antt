use Rattle.std.proofs.Common.{◌≡◌, ℕ, ◌<◌, ◌∙◌, Some, false, length, get_or, ap, refl, subst, arith}
use Rattle.std.specs.Prelude.{slice_get}
use Rattle.std.proofs.lemmas.List.{length-replicate}
use Rattle.std.proofs.lemmas.Option.{slice_get-get_or, slice_get_read}
use Rattle.yf_events.specs.Reading.{events_of}
use Rattle.yf_rule_sets.specs.RuleSets.BlankLines.{MarkerOf}
use Rattle.yf_rule_sets.specs.Passes.BlankNotes.{MarkerThere}
use Rattle.yf_rule_sets.specs.RuleSets.Documents.{markers_in}
use Rattle.yf_rule_sets.proofs.RuleSets.BlankLemmas.{marker_index, marker_is, marker_line, marker_there}
use Rattle.yf_rule_sets.proofs.Texts.NotedLemmas.{all_below, none_below, noted_as, noted_tells, one_below}
use Rattle.yf_rule_sets.proofs.facts.notes.marker_lines.Goals as goal

pub loop-m-init : goal.loop-m-init
loop-m-init c =
    let e = c.in_ok-list.ensures.items_if_clones_equal (λ y q. q) in
    record {
      len = ap length e ∙ length-replicate c.len.result false ∙ c.len.ensures.count ∙ ap (λ w. length w.lines) c.lines.ensures;
      noted = none_below c.in_ok-list.list.items (MarkerOf c.args.src.now c.args.reading.now);
    }

pub loop-m-preserved : goal.loop-m-preserved
loop-m-preserved c =
    let v = c.args.src.now in
    let r = c.args.reading.now in
    let m = c.loop-m.m in
    let ds = c.documents-documents.result.now in
    let ms = c.in_ok-markers.markers.items in
    let d = get_or ds m c.index-documents-m.result in
    let b = c.index.result.now in
    let l : m < length ds = omega (arith, c.min-m-end.ensures, c.loop-m-test.true) in
    let h : m < length ms = omega (arith, c.min-m-end.ensures, c.len-2.ensures, c.in_ok-markers.markers.ok, c.loop-m-test.true) in
    let e : slice_get r.documents m ≡ Some d = subst (λ w. slice_get w m ≡ Some d) c.documents-documents.ensures (slice_get-get_or ds m c.index-documents-m.result l) in
    let f : slice_get (markers_in (events_of r)) m ≡ Some b =
    subst (λ w. slice_get w m ≡ Some b) c.in_ok-markers.ensures (slice_get_read ms (length ms) m b refl h c.index.ensures) in
    let old = c.in_ok-list.list.items in
    let mid = c.loop-m.list.items in
    let new = c.note_marker-hint.new.list.items in
    record {
      len = c.loop-m.invariant.len;
      noted = one_below old mid new (MarkerOf v r) m c.loop-m.invariant.noted
          (noted_as mid new (MarkerThere v b d.start) (MarkerOf v r m) (marker_there v r m d b e f) (marker_is v r m d b e f) c.note_marker-hint.ensures);
    }

pub returns : goal.returns
returns c =
    let v = c.args.src.now in
    let r = c.args.reading.now in
    let e = c.in_ok-list.ensures.items_if_clones_equal (λ y q. q) in
    let n : c.len.result ≡ length v.lines = c.len.ensures.count ∙ ap (λ w. length w.lines) c.lines.ensures in
    noted_tells c.len.result c.in_ok-list.list.items c.loop-m.list.items (λ k. (m : ℕ) × MarkerOf v r m k) e
    (λ k w. let h = marker_line w.1 in omega (arith, h, n))
    (all_below c.in_ok-list.list.items c.loop-m.list.items (MarkerOf v r) c.loop-m.m
    (λ i k h. let w = marker_index h in omega (arith, w.0, w.1, c.min-m-end.ensures, c.len-2.ensures, c.in_ok-markers.markers.ok, c.loop-m-test.false, ap length c.documents-documents.ensures, ap length c.in_ok-markers.ensures))
    c.loop-m.invariant.noted)
