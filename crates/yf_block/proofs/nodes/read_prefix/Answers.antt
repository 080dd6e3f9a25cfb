use Rattle.std.proofs.Common.{◌∙◌, sym, subst}
use Rattle.std.proofs.lemmas.List.Elements.{All-nil, All-same}
use Rattle.std.specs.Str.{IsCharBoundary}
use Rattle.yf_block.proofs.Runs.NodesGiven.{prefix_text, prefix_stops, prefix_given, given_after}
use Rattle.yf_block.proofs.Ends.PrefixLemmas.{prefix_of, cut_boundary, uncut_boundary, uncut_boundaries}
use Rattle.yf_block.proofs.nodes.read_prefix.Goals as goal

pub returns-clause-escapes : goal.returns-clause-escapes
returns-clause-escapes c =
    uncut_boundaries _ _ c.args.end _ _ _ c.requires.end c.range.ensures.value c.in_ok-append-3.ensures c.requires.escapes c.in_ok-stopped.ensures.escapes

pub returns-then-not-ends_whole-clause-tied : goal.returns-then-not-ends_whole-clause-tied
returns-then-not-ends_whole-clause-tied c = λ n ctx j r h.
    let same = c.range.ensures.value ∙ prefix_of c.args.scope.text.now c.args.end in
    let text = prefix_text r.text.utf8 r.block c.args.root.least r.least h same r.text.size in
    let run = c.in_ok-stopped.ensures.tied n ctx j (record { text = text; block = r.block; least = r.least; narrow = r.narrow; out = r.out }) in
    absurd (c.if-not-ends_whole.ensures (prefix_stops r.text.utf8 r.block c.args.root.least r.least h same run))

pub returns-clause-tied : goal.returns-clause-tied
returns-clause-tied c = λ n ctx j r h.
    let same = c.range.ensures.value ∙ prefix_of c.args.scope.text.now c.args.end in
    let text = prefix_text r.text.utf8 r.block c.args.root.least r.least h same r.text.size in
    let run = c.in_ok-stopped.ensures.tied n ctx j (record { text = text; block = r.block; least = r.least; narrow = r.narrow; out = r.out }) in
    given_after c.new_part-read.ensures.events c.new_part-read.ensures.comments c.new_part-read.ensures.escapes c.in_ok-append.ensures c.in_ok-append-2.ensures c.in_ok-append-3.ensures
    (prefix_given r.text.utf8 r.block c.args.root.least r.least h same c.if-not-ends_whole.ensures run)

pub run_from-requires-clause-escapes : goal.run_from-requires-clause-escapes
run_from-requires-clause-escapes c =
    All-same (IsCharBoundary c.range.result.now) _ _ c.new_part-read.ensures.escapes (All-nil (IsCharBoundary c.range.result.now))

pub returns-then-not-ends_whole-clause-floor : goal.returns-then-not-ends_whole-clause-floor
returns-then-not-ends_whole-clause-floor c = tt

pub returns-then-not-ends_whole-clause-escapes : goal.returns-then-not-ends_whole-clause-escapes
returns-then-not-ends_whole-clause-escapes c = c.requires.escapes

pub returns-clause-floor : goal.returns-clause-floor
returns-clause-floor c = uncut_boundary c.args.scope.text.now c.args.end c.in_ok-stopped.stopped.floor c.requires.end (subst (λ z. IsCharBoundary z c.in_ok-stopped.stopped.floor) (c.range.ensures.value ∙ prefix_of c.args.scope.text.now c.args.end) c.in_ok-stopped.ensures.stopped.floor)

pub range-requires-clause-end_boundary : goal.range-requires-clause-end_boundary
range-requires-clause-end_boundary c = c.requires.end

pub run_from-requires-clause-boundary : goal.run_from-requires-clause-boundary
run_from-requires-clause-boundary c = subst (λ z. IsCharBoundary z c.args.root.at) (sym (c.range.ensures.value ∙ prefix_of c.args.scope.text.now c.args.end)) (cut_boundary c.args.scope.text.now c.args.end c.args.root.at c.requires.end.0 c.requires.order c.requires.boundary)
