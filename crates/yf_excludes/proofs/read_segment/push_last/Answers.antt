use Rattle.std.proofs.Common.{◌≡◌, true, [], ◌∷◌, ◌++◌, ap, ◌∙◌, append_assoc}
use Rattle.yf_excludes.specs.declared.pattern.Segment.TheVariants.{AnyDepth, Name}
use Rattle.yf_excludes.specs.Segments.{everything_inside, last_segment}
use Rattle.yf_excludes.proofs.SegmentLemmas.{no_last}
use Rattle.yf_excludes.proofs.read_segment.push_last.Goals as goal

pub returns-then-is_deep : goal.returns-then-is_deep
returns-then-is_deep c =
    let old = c.args.segments.now.items in
    let any = c.in_ok-any_name.field-0 in
    let deep : c.is_deep.result ≡ true = cc in
    record {
      own = AnyDepth ∷ Name any ∷ [];
      read = everything_inside c.requires (c.is_deep.ensures.0 deep) c.in_ok-any_name.ensures;
      added = c.in_ok-push-2.ensures.items ∙ ap
          (λ z. z ++ (Name any ∷ [])) c.in_ok-push.ensures.items ∙ append_assoc old (AnyDepth ∷ []) (Name any ∷ []);
    }

pub returns-in-None : goal.returns-in-None
returns-in-None c =
    let never = rw c.in-None.is at c.in_ok-read_segment.ensures in
    λ ss read. no_last c.requires (λ deep. let e : c.is_deep.result ≡ true = c.is_deep.ensures.1 deep in absurd
    (cc)) never read

pub returns-in_ok-push-in-Some : goal.returns-in_ok-push-in-Some
returns-in_ok-push-in-Some c =
    let one = rw c.in-Some.is at c.in_ok-read_segment.ensures in
    record {
      own = c.in-Some.segment ∷ [];
      read = last_segment c.requires (λ deep. let e : c.is_deep.result ≡ true = c.is_deep.ensures.1 deep in absurd
          (cc)) one;
      added = c.in_ok-push-in-Some.ensures.items;
    }
