use Rattle.std.proofs.Common.{◌≡◌, ℕ, ◌∙◌, Some, false, length, get_or, ap, subst, arith}
use Rattle.std.specs.Prelude.{slice_get}
use Rattle.std.proofs.lemmas.List.{length-replicate}
use Rattle.std.proofs.lemmas.Option.{slice_get-get_or}
use Rattle.yf_rule_sets.specs.RuleSets.BlankLines.{DirectiveIn, DirectiveOf}
use Rattle.yf_rule_sets.specs.Passes.LineFlags.{FlagsAdded}
use Rattle.yf_rule_sets.proofs.RuleSets.BlankLemmas.{document_index, document_line, of_document_is, of_document_there}
use Rattle.yf_rule_sets.proofs.Texts.NotedLemmas.{all_below, none_below, noted_as, noted_tells, one_below}
use Rattle.yf_rule_sets.proofs.facts.notes.directive_lines.Goals as goal

pub loop-m-init : goal.loop-m-init
loop-m-init c =
    let e = c.in_ok-list.ensures.items_if_clones_equal (λ y q. q) in
    record {
      len = ap length e ∙ length-replicate c.len.result false ∙ c.len.ensures.count ∙ ap (λ w. length w.lines) c.lines.ensures;
      noted = none_below c.in_ok-list.list.items (DirectiveOf c.args.src.now c.args.reading.now);
    }

pub loop-m-preserved : goal.loop-m-preserved
loop-m-preserved c =
    let v = c.args.src.now in
    let r = c.args.reading.now in
    let m = c.loop-m.m in
    let ds = c.documents-documents.result.now in
    let d = get_or ds m c.index-documents-m.result in
    let e : slice_get r.documents m ≡ Some d = subst (λ w. slice_get w m ≡ Some d) c.documents-documents.ensures (slice_get-get_or ds m c.index-documents-m.result c.loop-m-test.true) in
    let old = c.in_ok-list.list.items in
    let mid = c.loop-m.list.items in
    let new = c.note_directives-hint.new.list.items in
    let n : FlagsAdded mid new (λ k. (j : ℕ) × DirectiveIn v d.directives j k) =
    subst (λ w. FlagsAdded mid new (λ k. (j : ℕ) × DirectiveIn v w j k)) c.as_slice.ensures c.note_directives-hint.ensures in
    record {
      len = c.loop-m.invariant.len;
      noted = one_below old mid new (DirectiveOf v r) m c.loop-m.invariant.noted
          (noted_as mid new (λ k. (j : ℕ) × DirectiveIn v d.directives j k) (DirectiveOf v r m) (of_document_there v r m d e) (of_document_is v r m d e) n);
    }

pub returns : goal.returns
returns c =
    let v = c.args.src.now in
    let r = c.args.reading.now in
    let e = c.in_ok-list.ensures.items_if_clones_equal (λ y q. q) in
    let n : c.len.result ≡ length v.lines = c.len.ensures.count ∙ ap (λ w. length w.lines) c.lines.ensures in
    noted_tells c.len.result c.in_ok-list.list.items c.loop-m.list.items (λ k. (m : ℕ) × DirectiveOf v r m k) e
    (λ k w. let h = document_line w.1 in omega (arith, h, n))
    (all_below c.in_ok-list.list.items c.loop-m.list.items (DirectiveOf v r) c.loop-m.m
    (λ i k h. let w = document_index h in omega (arith, w, c.loop-m-test.false, ap length c.documents-documents.ensures)) c.loop-m.invariant.noted)
