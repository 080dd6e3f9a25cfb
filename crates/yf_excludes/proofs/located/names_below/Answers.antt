use Rattle.std.proofs.Common.{◌++◌, ◌∙◌, ap, arith, sym}
use Rattle.std.proofs.lemmas.Bool.{false≢true}
use Rattle.yf_excludes.specs.Names.{texts}
use Rattle.yf_excludes.proofs.LocatedLemmas.{all_names, name_more, other_name}
use Rattle.yf_excludes.proofs.located.names_below.Goals as goal

pub returns-then-not-is_same : goal.returns-then-not-is_same
returns-then-not-is_same c =
    other_name c.args.folder.now c.args.file.now c.loop-k.k _ _ (omega (arith, c.loop-k-test.true))
    (omega (arith, c.loop-k-test.true, c.if-folder-file.false))
    (λ same. false≢true (sym c.if-not-is_same.true ∙ c.is_same.ensures.1 same))

pub loop-k-preserved : goal.loop-k-preserved
loop-k-preserved c =
    name_more c.args.folder.now c.args.file.now c.loop-k.k _ _ (omega (arith, c.loop-k-test.true))
    (omega (arith, c.loop-k-test.true, c.if-folder-file.false)) (c.is_same.ensures.0 c.if-not-is_same.false)
    c.loop-k.invariant

pub returns : goal.returns
returns c =
    all_names c.args.folder.now c.args.file.now c.loop-k.k (omega (arith, c.loop-k-test.false))
    (omega (arith, c.loop-k.auto.k-end)) c.loop-k.invariant
    ∙ ap (λ x. texts c.args.folder.now ++ texts x) (sym c.from_index.ensures)
