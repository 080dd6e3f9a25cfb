use Rattle.std.proofs.Common.{false, List, length, reverse, refl, ap, arith}
use Rattle.yf_grammar.specs.BlockReader.BlockParser.{Nothing, Awaited}
use Rattle.yf_flow.specs.Depth.{openers_from}
use Rattle.yf_block.specs.declared.frame.Frame.{Frame}
use Rattle.yf_block.proofs.nodes.run_from.Goals as goal

pub returns-clause-tied : goal.returns-clause-tied
returns-clause-tied c = λ n ctx j r.
    let a = c.no_progress.ensures.root n ctx r.text r.least r.narrow r.out in
    c.fill.ensures.tied c.args.scope.limit (Awaited false n ctx Nothing c.args.root.at) j refl
    (record { indentation = n; context = ctx; root_is = refl; before_is = refl; alone = ap (λ (z : List Frame). reverse z) c.new.ensures.items; awaited = a })

pub returns-clause-counted : goal.returns-clause-counted
returns-clause-counted c = λ u.
    let none = ap (λ (z : List Frame). length z) c.new.ensures.items in
    c.fill.ensures.counted u (openers_from c.args.scope.text.now c.args.root.at) (omega (arith, none))

pub fill-requires : goal.fill-requires
fill-requires c = record { boundary = c.requires.boundary; progress = c.no_progress.ensures.progress; escapes = c.requires.escapes }

pub returns-clause-stopped : goal.returns-clause-stopped
returns-clause-stopped c = c.fill.ensures.stopped

pub returns-clause-escapes : goal.returns-clause-escapes
returns-clause-escapes c = c.fill.ensures.escapes
