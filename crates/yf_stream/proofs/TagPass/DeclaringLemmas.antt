-- The directives of a document in sequence: the first breach in them, and the handles that they declare.
use Rattle.std.proofs.Common.{◌≡◌, ℕ, ◌+◌, ◌≤◌, Bool, false, ◌||◌, List, [], ◌∷◌, ◌++◌, drop, length, Option, Some, None, refl, sym, ap, ◌∙◌, subst, append_assoc, append-nil, is_some, not, slice_get}
use Rattle.std.proofs.Math.ListN.{drop_of_length-le}
use Rattle.yf_props.specs.Handles.{Declaration}
use Rattle.yf_events.specs.declared.directive.Directive.{Directive}
use Rattle.yf_stream.specs.TagPass.{FirstOfBoth, SameDeclarations}
use Rattle.yf_stream.specs.WellFormed.{breach_if, declaration_breaches, declaration_of, declarations, directive_breaches, is_version_one, version_breaches, version_of, with_declaration}
use Rattle.yf_stream.specs.declared.breaches.Breach.{Breach}
use Rattle.yf_stream.specs.declared.breaches.BreachKind.TheVariants.{BadVersion, RepeatedDirective}
use Rattle.yf_stream.proofs.TagPass.DeclaredLemmas.{same_itself}
use Rattle.yf_stream.proofs.TagPass.FirstLemmas.{finds_as, finds_nothing_more, finds_then}
use Rattle.yf_stream.proofs.TagPass.PassLemmas.{all_declared, at_index, directives_same}

-- The breaches found among the directives before an index, if a version has been named or not, and these are the
-- declarations.
pub record Declaring (xs : List Directive) (ds : List Declaration) (before : Option Breach) (i : ℕ) (seen : Bool) (now : List Declaration) (after : Option Breach) : Type 0 where
  pub found : List Breach
  pub finds : FirstOfBoth before after found
  pub breaches : directive_breaches false ds xs ≡ found ++ directive_breaches seen now (drop i xs)
  pub declared : SameDeclarations (declarations now (drop i xs)) (declarations ds xs)

pub same_on : {a b c : List Declaration} → SameDeclarations a b → SameDeclarations b c → SameDeclarations a c
same_on p q = record { each = λ h. p.each h ∙ q.each h }

pub declaring_begins : (xs : List Directive) (ds : List Declaration) (first : Option Breach) → Declaring xs ds first 0 false ds first
declaring_begins xs ds first = record { found = []; finds = finds_nothing_more; breaches = refl; declared = same_itself (declarations ds xs) }

pub declaring_on : {xs : List Directive} {ds now others : List Declaration} {before mid after : Option Breach} {i : ℕ} {seen more : Bool} {d : Directive}
    → Declaring xs ds before i seen now mid → slice_get xs i ≡ Some d → SameDeclarations others (with_declaration now (declaration_of d.words))
    → FirstOfBoth mid after (version_breaches seen d.offset (version_of d.words) ++ declaration_breaches now d.offset (declaration_of d.words))
    → more ≡ (seen || is_some (version_of d.words)) → Declaring xs ds before (i + 1) more others after
declaring_on {xs} {ds} {now} {others} {i = i} {seen} {more} {d} p f s q e =
    let here = at_index xs i f in
    let v = version_breaches seen d.offset (version_of d.words) in
    let b = declaration_breaches now d.offset (declaration_of d.words) in
    let rest = drop (i + 1) xs in
    record {
      found = p.found ++ (v ++ b);
      finds = finds_then p.finds q;
      breaches = p.breaches ∙ ap (λ z. p.found ++ directive_breaches seen now z) here
          ∙ ap (λ z. p.found ++ z) (sym (append_assoc v b (directive_breaches (seen || is_some (version_of d.words)) (with_declaration now (declaration_of d.words)) rest))
          ∙ ap (λ z. (v ++ b) ++ z) (sym (directives_same (seen || is_some (version_of d.words)) rest s) ∙ ap (λ z. directive_breaches z others rest) (sym e)))
          ∙ sym (append_assoc p.found (v ++ b) (directive_breaches more others rest));
      declared = same_on (all_declared rest s) (subst (λ z. SameDeclarations (declarations now z) (declarations ds xs)) here p.declared);
    }

pub declaring_ends : {xs : List Directive} {ds now : List Declaration} {before after : Option Breach} {i : ℕ} {seen : Bool} → Declaring xs ds before i seen now after
    → length xs ≤ i → SameDeclarations now (declarations ds xs) × FirstOfBoth before after (directive_breaches false ds xs)
declaring_ends {xs} {ds} {now} {seen = seen} p l =
    let none = drop_of_length-le xs l in (
      subst (λ z. SameDeclarations (declarations now z) (declarations ds xs)) none p.declared,
      finds_as (sym (p.breaches ∙ ap (λ z. p.found ++ directive_breaches seen now z) none ∙ append-nil p.found)) p.finds,
    )

-- a directive that names a version declares no handle
pub version_alone : (ws : List (List ℕ)) {v : List ℕ} → version_of ws ≡ Some v → declaration_of ws ≡ None
version_alone [] e = refl
version_alone (a ∷ []) e = refl
version_alone (a ∷ b ∷ []) e = refl
version_alone (a ∷ b ∷ c ∷ []) e = absurd cc
version_alone (a ∷ b ∷ c ∷ d ∷ ws) e = absurd cc

pub named_version : (seen : Bool) (ds : List Declaration) (offset : ℕ) (ws : List (List ℕ)) {v : List ℕ} {a b c : Option Breach} {test : Bool} → version_of ws ≡ Some v
    → test ≡ not (is_version_one v) → FirstOfBoth a b (breach_if seen RepeatedDirective offset) → FirstOfBoth b c (breach_if test BadVersion offset)
    → FirstOfBoth a c (version_breaches seen offset (version_of ws) ++ declaration_breaches ds offset (declaration_of ws))
named_version seen ds offset ws {v} {c = c} e f p q =
    let one = breach_if seen RepeatedDirective offset in
    let two = breach_if (not (is_version_one v)) BadVersion offset in
    finds_as
    (sym (append-nil (one ++ two)) ∙ ap (λ z. (one ++ two) ++ declaration_breaches ds offset z) (sym (version_alone ws e))
    ∙ ap (λ z. version_breaches seen offset z ++ declaration_breaches ds offset (declaration_of ws)) (sym e))
    (finds_then p (finds_as (ap (λ z. breach_if z BadVersion offset) f) q))
