use Rattle.std.proofs.Common.{◌∙◌, ap, subst, sym}
use Rattle.yf_events.specs.Content.{content_of}
use Rattle.yf_events.specs.declared.lists.Lists.{Lists}
use Rattle.yf_events.specs.declared.reading.TheConstants.{DEPTH}
use Rattle.yf_forms.specs.NormalForms.Restyled.{IsRestyled}
use Rattle.yf_forms.proofs.NormalForms.NormalInPlace.{in_place}
use Rattle.yf_forms.proofs.NormalForms.RestyledLemmas.{same_content, still_fits, still_stream}
use Rattle.yf_forms.proofs.normal.normalized.Goals as goal

pub of_stream-requires-clause-fits : goal.of_stream-requires-clause-fits
of_stream-requires-clause-fits c =
    still_fits (in_place c.args.style.now c.args.measures.now c.args.forms.now c.args.reading c.into_lists-lists.result c.normalize.new.events
    c.into_lists-lists.ensures.same c.in_ok-normalize.ensures).0 c.into_lists-lists.ensures.fit

pub of_stream-requires-clause-nested : goal.of_stream-requires-clause-nested
of_stream-requires-clause-nested c =
    still_stream DEPTH (in_place c.args.style.now c.args.measures.now c.args.forms.now c.args.reading c.into_lists-lists.result c.normalize.new.events
    c.into_lists-lists.ensures.same c.in_ok-normalize.ensures).0 c.into_lists-lists.ensures.nested

pub returns-clause-restyled : goal.returns-clause-restyled
returns-clause-restyled c =
    subst (λ (w : Lists). IsRestyled c.args.style.now c.args.reading w) (sym c.of_stream.ensures)
    (in_place c.args.style.now c.args.measures.now c.args.forms.now c.args.reading c.into_lists-lists.result c.normalize.new.events
    c.into_lists-lists.ensures.same c.in_ok-normalize.ensures).0

pub returns-clause-events : goal.returns-clause-events
returns-clause-events c =
    ap (λ (w : Lists). w.events) c.of_stream.ensures
    ∙ (in_place c.args.style.now c.args.measures.now c.args.forms.now c.args.reading c.into_lists-lists.result c.normalize.new.events
    c.into_lists-lists.ensures.same c.in_ok-normalize.ensures).1

pub returns-clause-content : goal.returns-clause-content
returns-clause-content c =
    ap content_of c.of_stream.ensures
    ∙ same_content (in_place c.args.style.now c.args.measures.now c.args.forms.now c.args.reading c.into_lists-lists.result c.normalize.new.events
    c.into_lists-lists.ensures.same c.in_ok-normalize.ensures).0
