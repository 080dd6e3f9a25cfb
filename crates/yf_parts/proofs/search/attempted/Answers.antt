-- The hunks within the reach are enough, or not.
use Rattle.std.proofs.Common.{◌≡◌, ◌∙◌, ap, refl, subst, length}
use Rattle.yf_parts.specs.Hunks.{spliced}
use Rattle.yf_parts.specs.Tries.{IsOther, near_all}
use Rattle.yf_parts.proofs.TryLemmas.{near_length}
use Rattle.yf_parts.proofs.search.attempted.Goals as goal

pub spliced-requires-clause-fits : goal.spliced-requires-clause-fits
spliced-requires-clause-fits c = rw (c.as_bytes.ensures.value, c.as_bytes-2.ensures.value) c.requires.context.fits

pub spliced-requires-clause-count : goal.spliced-requires-clause-count
spliced-requires-clause-count c = ap length c.deref.ensures.value ∙ (ap length c.requires.applied
    ∙ (near_length c.args.reach c.args.context.flags.now 0 c.args.context.flags.now ∙ c.requires.context.count))

pub returns-in-Some-clause-works : goal.returns-in-Some-clause-works
returns-in-Some-clause-works c =
    let bytes = rw c.in-Some.is at c.in_ok-found.ensures.text in
    let formats = rw c.in-Some.is at c.in_ok-found.ensures.formats in
    record {
      chosen = c.requires.applied;
      made = bytes ∙ (c.in_ok-bytes.ensures ∙ rw (
        c.as_bytes.ensures.value,
        c.as_bytes-2.ensures.value,
        c.deref.ensures.value,
      ) refl);
      formats = formats;
    }

pub returns-in-None-clause-fails : goal.returns-in-None-clause-fails
returns-in-None-clause-fails c =
    let x = c.args.context in
    let made : c.in_ok-bytes.bytes.items ≡ spliced x.text.now x.formatted.now x.hunks.now
    (near_all c.args.reach x.flags.now 0 x.flags.now) 0 =
    c.in_ok-bytes.ensures ∙ rw (
      c.as_bytes.ensures.value,
      c.as_bytes-2.ensures.value,
      c.deref.ensures.value,
      c.requires.applied,
    ) refl in
    let fails = rw c.in-None.is at c.in_ok-found.ensures.none in
    subst (λ z. IsOther x.style.now x.formatted.now z) made fails
