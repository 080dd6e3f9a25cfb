-- Laws of the list of details, as a pass over the offsets of a rule gathers it.
use Rattle.std.proofs.Common.{◌≡◌, ℕ, ◌+◌, ◌<◌, ◌≤◌, List, [], ◌∷◌, ◌++◌, Option, Some, None, length, take, get_or, sym, subst, ◌∙◌, ⊎_elim, arith}
use Rattle.std.specs.List.{Contains}
use Rattle.std.specs.Option.{option_to_list}
use Rattle.std.specs.Str.{IsCharBoundary, IsUtf8}
use Rattle.std.proofs.lemmas.List.{append-nil, take_more, take_all}
use Rattle.std.proofs.lemmas.List.Elements.{Contains-push, Contains-push_cases, Contains-append_left}
use Rattle.yf_events.specs.declared.lists.Lists.{Lists}
use Rattle.yf_forms.specs.declared.style.Style.{Style}
use Rattle.yf_lines.specs.Lines.{AreLines, Table}
use Rattle.yf_ranges.specs.Details.{DetailAt, DetailOf, IsDetailOf, RuleDetails}
use Rattle.yf_ranges.specs.declared.detail.Detail.{Detail}
use Rattle.yf_ranges.proofs.FilledLemmas.{filled}
use Rattle.yf_rule_sets.specs.RuleOf.{definition_of}
use Rattle.yf_rule_sets.specs.declared.rules.StyleRule.{StyleRule}

-- the details of the first offsets
pub record Gathered (t : List ℕ) (Exact : Detail → Type 0) (os : List ℕ) (ds : List Detail) : Type 0 where
  pub only : (d : Detail) → Contains ds d → Contains os d.span.start × IsCharBoundary t d.span.start × DetailAt Exact t d.span.start d
  pub all : (o : ℕ) → Contains os o → IsCharBoundary t o → (d : Detail) × Contains ds d × (d.span.start ≡ o)

no_element : {A : Type 0} (x : A) → Contains {X = A} [] x → ⊥
no_element x c = omega (arith, c.1)

pub none_gathered : (t : List ℕ) (Exact : Detail → Type 0) (os : List ℕ) (ds : List Detail) → ds ≡ [] → Gathered t Exact (take 0 os) ds
none_gathered t Exact os ds e = subst (Gathered t Exact []) (sym e) (record {
  only = λ d c. absurd (no_element d c);
  all = λ o c b. absurd (no_element o c);
})

module _ (t : List ℕ) (Exact : Detail → Type 0) (os : List ℕ) (ds : List Detail) (g : Gathered t Exact os ds) (o : ℕ) where
  one_gathered : (d : Detail) → IsCharBoundary t o → DetailAt Exact t o d → Gathered t Exact (os ++ o ∷ []) (ds ++ d ∷ [])
  one_gathered d b x = record {
    only = λ e c. ⊎_elim (λ (h : Contains ds e). let w = g.only e h in (Contains-append_left os (o ∷ []) e.span.start w.0, w.1, w.2))
        (λ (h : d ≡ e). subst (λ (f : Detail). Contains (os ++ o ∷ []) f.span.start × IsCharBoundary t f.span.start × DetailAt Exact t f.span.start f) h
        (subst (λ k. Contains (os ++ o ∷ []) k × IsCharBoundary t k × DetailAt Exact t k d) (sym x.start) (Contains-push os o, b, x)))
        (Contains-push_cases ds d e c);
    all = λ k c q. ⊎_elim (λ (h : Contains os k). let w = g.all k h q in (w.0, Contains-append_left ds (d ∷ []) w.0 w.1, w.2))
        (λ (h : o ≡ k). (d, Contains-push ds d, x.start ∙ h))
        (Contains-push_cases os o k c);
  }

  none_more : (IsCharBoundary t o → ⊥) → Gathered t Exact (os ++ o ∷ []) ds
  none_more n = record {
    only = λ e c. let w = g.only e c in (Contains-append_left os (o ∷ []) e.span.start w.0, w.1, w.2);
    all = λ k c q. ⊎_elim (λ (h : Contains os k). g.all k h q)
        (λ (h : o ≡ k). absurd (n (subst (IsCharBoundary t) (sym h) q)))
        (Contains-push_cases os o k c);
  }

more_gathered : (rule : StyleRule) (t : List ℕ) (style : Style) (os : List ℕ) (o : ℕ) (ds es : List Detail) (result : Option Detail)
    → Gathered t (DetailOf rule t style) os ds → IsDetailOf rule t style o result → es ≡ ds ++ option_to_list result
    → Gathered t (DetailOf rule t style) (os ++ o ∷ []) es
more_gathered rule t style os o ds es None g n e =
    subst (Gathered t (DetailOf rule t style) (os ++ o ∷ [])) (sym (e ∙ append-nil ds)) (none_more t (DetailOf rule t style) os ds g o n)
more_gathered rule t style os o ds es (Some d) g x e =
    subst (Gathered t (DetailOf rule t style) (os ++ o ∷ [])) (sym e) (one_gathered t (DetailOf rule t style) os ds g o d x.0 x.1)

pub step_gathered : (rule : StyleRule) (t : List ℕ) (style : Style) (os : List ℕ) (k : ℕ) (ds es : List Detail) (result : Option Detail)
    → k < length os → Gathered t (DetailOf rule t style) (take k os) ds → IsDetailOf rule t style (get_or os k 0) result
    → es ≡ ds ++ option_to_list result → Gathered t (DetailOf rule t style) (take (k + 1) os) es
step_gathered rule t style os k ds es result h g x e =
    subst (λ v. Gathered t (DetailOf rule t style) v es) (sym (take_more os k 0 h))
    (more_gathered rule t style (take k os) (get_or os k 0) ds es result g x e)

-- all offsets of a rule
pub all_gathered : (rule : StyleRule) (src : Table) (r : Lists) (style : Style) (os : List ℕ) (k : ℕ) (ds : List Detail) → IsUtf8 src.text
    → AreLines src.text src.lines → (definition_of rule).faults src r style os → length os ≤ k
    → Gathered src.text (DetailOf rule src.text style) (take k os) ds → RuleDetails rule src r style ds
all_gathered rule src r style os k ds u lines found h g' =
    let g : Gathered src.text (DetailOf rule src.text style) os ds =
    subst (λ v. Gathered src.text (DetailOf rule src.text style) v ds) (take_all k os h) g' in
    record {
      offsets = os;
      found = found;
      only = λ d c. let w = g.only d c in (
        w.0,
        w.2.exact,
        record {
          order = w.2.order;
          within = w.2.within;
          filled = filled src r style u lines os d w.0 w.1 w.2.order rule found w.2.exact;
        },
      );
      all = g.all;
    }
