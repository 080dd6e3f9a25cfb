use Rattle.std.proofs.Common.{◌≡◌, ap, ◌∙◌, arith, slice_range, subst}
use Rattle.yf_chars.specs.Chain.{Stuck}
use Rattle.yf_props.specs.Names.{TagChar}
use Rattle.yf_props.specs.Props.TagValue.{IsShort}
use Rattle.yf_props.proofs.NameLemmas.{run_from}
use Rattle.yf_props.proofs.tag.suffix_after.Goals as goal

pub returns-then-end-start-clause-reads : goal.returns-then-end-start-clause-reads
returns-then-end-start-clause-reads c = run_from c.skip_chars-end.ensures.chars.1 c.if-end-start.true c.skip_chars-end.ensures.all

pub returns-clause-reads : goal.returns-clause-reads
returns-clause-reads c =
    let t = c.args.s.now in
    let e : c.skip_chars-end.result ≡ c.args.start = omega (arith, c.skip_chars-end.ensures.order) in
    let s : Stuck (TagChar t c.skip_chars-end.result) = c.skip_chars-end.ensures.all in
    subst (λ k. Stuck (TagChar t k)) e s

pub returns-then-end-start-clause-value : goal.returns-then-end-start-clause-value
returns-then-end-start-clause-value c =
    let t = c.args.s.now in
    ap (λ v. IsShort v c.range-then-end-start.result.now) c.range.ensures.value ∙ ap (λ v. IsShort (slice_range t c.args.at c.args.start) v) c.range-then-end-start.ensures.value
