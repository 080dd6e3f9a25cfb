use Rattle.std.proofs.Common.{[], ◌∷◌, ◌++◌, map, ap, ◌∙◌, arith}
use Rattle.json.specs.Token.{begin_array}
use Rattle.yf_report.specs.CodeQuality.{entry_of, quality_json}
use Rattle.yf_report.proofs.JsonLemmas.{read_is}
use Rattle.yf_report.proofs.QualityLemmas.{so_far_none, so_far_more, so_far_all, room_for_one, quality_depth}
use Rattle.yf_report.proofs.code_quality.gitlab_report.Goals as goal

pub loop-problem-init : goal.loop-problem-init
loop-problem-init c =
    so_far_none c.begin_array.new.self c.new-counts.result c.args.problems.now c.new-counts.ensures.empty
    (c.in_ok-begin_array.ensures.room.0 ∙ c.new-out.ensures.before ∙ c.new.ensures.items)
    (c.in_ok-begin_array.ensures.ok ∙ ap (λ l. l ++ begin_array ∷ []) c.new-out.ensures.tokens)

pub write_entry-requires : goal.write_entry-requires
write_entry-requires c =
    let l = c.loop-problem in
    room_for_one l.out l.counts l.problem-index c.args.problems.now _ l.invariant (omega arith)

pub loop-problem-preserved : goal.loop-problem-preserved
loop-problem-preserved c =
    let l = c.loop-problem in
    so_far_more l.out c.write_entry.new.out l.counts c.write_entry.new.counts l.problem-index c.args.problems.now _
    l.invariant (omega arith) c.in_ok-write_entry.ensures.written c.in_ok-write_entry.ensures.counted

pub returns : goal.returns
returns c =
    let l = c.loop-problem in
    let es = map entry_of c.args.problems.now in
    let v = c.end_array.new.self in
    let h = c.in_ok-end_array.ensures in
    read_is (quality_json es) v c.into_inner.result.items (quality_depth es)
    (so_far_all l.out v l.counts l.problem-index c.args.problems.now l.invariant (omega arith) h.ok)
    (h.room.0 ∙ l.invariant.before) c.into_inner.ensures.items c.into_inner.ensures.reads_back
