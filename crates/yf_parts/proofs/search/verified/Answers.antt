-- The formatting of the text is the given one, or another one.
use Rattle.std.proofs.Common.{◌≡◌, ◌≢◌, ◌∙◌, ap, sym, subst, rules}
use Rattle.std.specs.String.{string_bytes}
use Rattle.yf_parts.specs.Tries.{IsOther}
use Rattle.yf_rules.specs.Headline.{Headline}
use Rattle.yf_parts.proofs.VerifiedLemmas.{other_formatting}
use Rattle.yf_parts.proofs.search.verified.Goals as goal

pub returns-then-eq-clause-formats : goal.returns-then-eq-clause-formats
returns-then-eq-clause-formats c =
    let equal : c.as_str-in-Ok-format.result.now ≡ c.args.formatted.now = search rules in
    let same : string_bytes c.in-Ok-format.other ≡ c.args.formatted.now =
    sym c.as_str-in-Ok-format.ensures.value ∙ equal in
    subst (λ z. Headline z c.args.style.now c.args.formatted.now) c.as_str.ensures.value
    (subst (λ z. Headline c.as_str.result.now c.args.style.now z) same c.in-Ok-format.ensures.headline)

pub returns-in-Ok-format-clause-none : goal.returns-in-Ok-format-clause-none
returns-in-Ok-format-clause-none c =
    let differ : c.as_str-in-Ok-format.result.now ≢ c.args.formatted.now = search rules in
    let other : string_bytes c.in-Ok-format.other ≢ c.args.formatted.now =
    λ same. differ (c.as_str-in-Ok-format.ensures.value ∙ same) in
    let bytes : c.as_str.result.now ≡ c.args.bytes.items =
    c.as_str.ensures.value ∙ ap (λ z. z.items) c.in-Ok.ensures.ok in
    subst (λ z. IsOther c.args.style.now c.args.formatted.now z) bytes
    (other_formatting c.in-Ok-format.ensures.headline other)
