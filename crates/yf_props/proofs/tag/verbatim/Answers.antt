use Rattle.std.proofs.Common.{◌≡◌, ◌+◌, ap, arith, slice_range, subst}
use Rattle.yf_chars.specs.Chain.{Stuck}
use Rattle.yf_props.specs.Names.{UriChar, Run}
use Rattle.yf_props.specs.Props.TagValue.{IsVerbatim}
use Rattle.yf_props.proofs.NameLemmas.{run_from}
use Rattle.yf_props.proofs.TagLemmas.{verbatim_chosen, empty_verbatim, open_verbatim}
use Rattle.yf_props.proofs.tag.verbatim.Goals as goal

pub returns-then-is_char_at-3-clause-reads : goal.returns-then-is_char_at-3-clause-reads
returns-then-is_char_at-3-clause-reads c =
    let t = c.args.s.now in
    let run : Run (UriChar t) (c.args.at + 2) c.skip_chars-end.result =
    run_from c.skip_chars-end.ensures.chars.1 c.if-end-at.true c.skip_chars-end.ensures.all in
    let d = verbatim_chosen {i = c.args.at} c.if-is_char_at.ensures.cases.char c.if-is_char_at-2.ensures.cases.char run c.if-is_char_at-3.ensures.cases.char in
    (slice_range t (c.args.at + 2) c.skip_chars-end.result, d, ap IsVerbatim c.range.ensures.value)

pub returns-then-end-at-clause-reads : goal.returns-then-end-at-clause-reads
returns-then-end-at-clause-reads c =
    let t = c.args.s.now in
    let run : Run (UriChar t) (c.args.at + 2) c.skip_chars-end.result =
    run_from c.skip_chars-end.ensures.chars.1 c.if-end-at.true c.skip_chars-end.ensures.all in
    open_verbatim run c.if-is_char_at-3.ensures.cases

pub returns-then-is_char_at-2-clause-reads : goal.returns-then-is_char_at-2-clause-reads
returns-then-is_char_at-2-clause-reads c =
    let t = c.args.s.now in
    let e : c.skip_chars-end.result ≡ c.args.at + 2 = omega (arith, c.skip_chars-end.ensures.order) in
    let s : Stuck (UriChar t c.skip_chars-end.result) = c.skip_chars-end.ensures.all in
    empty_verbatim (subst (λ k. Stuck (UriChar t k)) e s)
