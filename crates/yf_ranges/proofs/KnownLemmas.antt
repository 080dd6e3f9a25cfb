-- Laws of lists of details that are sorted and searched.
use Rattle.std.proofs.Common.{◌≡◌, ℕ, ◌<◌, ◌≤◌, List, Option, Some, None, Result, Ok, Err, length, get_or, sym, subst, ap, arith, ⊎_elim}
use Rattle.std.specs.List.Sorted.{IsBinarySearchResult, IsNonDecreasingBy, IsPermutation, IsSearchInRange}
use Rattle.std.specs.Ordering.{nat_cmp, ordering_index}
use Rattle.std.specs.Prelude.{IfSome}
use Rattle.std.specs.Str.{IsCharBoundary}
use Rattle.std.proofs.lemmas.Bool.{cases_lt}
use Rattle.std.proofs.lemmas.Bool.Decides.{nat_tests}
use Rattle.std.proofs.lemmas.Cmp.{ranked}
use Rattle.std.proofs.lemmas.List.Sorted.{Contains-permutation, IsPermutation-sym}
use Rattle.yf_chars.proofs.Tests.{none_some}
use Rattle.yf_events.specs.declared.lists.Lists.{Lists}
use Rattle.yf_forms.specs.declared.style.Style.{Style}
use Rattle.yf_lines.specs.Lines.{Table}
use Rattle.yf_ranges.specs.Known.{AreKept, AreSorted, IsAmong, IsRuleDetail, IsSearched}
use Rattle.yf_ranges.specs.NodeDetails.{IsKnown, NodeDetails}
use Rattle.yf_ranges.specs.declared.detail.Detail.{Detail}
use Rattle.yf_rule_sets.specs.declared.rules.StyleRule.{StyleRule}
use Rattle.yf_rule_sets.specs.declared.rules.StyleRule.TheVariants.{TrailingBlanks, Indentation, Quoting, DocumentStart, FinalBreak, LineBreaks, ByteOrderMark, BlankLines, FlowLayout, CommentSpace, LineLength, RepeatedKeys, KeyMark, HiddenCharacter}

module _ {A : Type 0} (P : A → ℕ → Type 0) (Exact : A → Detail → Type 0) (t : List ℕ) where
  -- in another order
  pub details_permuted : (ds es : List Detail) → IsPermutation ds es → NodeDetails P Exact t ds → NodeDetails P Exact t es
  details_permuted ds es p g = record {
    only = λ d c. g.only d (Contains-permutation es ds d (IsPermutation-sym ds es p) c);
    all = λ x o h b. let w = g.all x o h b in (w.0, Contains-permutation ds es w.0 p w.1, w.2, w.3);
  }

  -- at an offset
  pub detail_known : (ds : List Detail) (o : ℕ) (result : Option Detail) → NodeDetails P Exact t ds → IsCharBoundary t o → IsAmong ds o result
      → IsKnown P Exact t o result
  detail_known ds o None g b n = λ x h. let w = g.all x o h b in n w.0 w.1 w.2
  detail_known ds o (Some d) g b m =
      let w = g.only d m.0 in
      (m.1, w.3, (w.0, subst (P w.0) m.1 w.1, w.2))

-- a search by the offsets
comparisons_rise : (ds : List Detail) (o : ℕ) → AreSorted ds → IsNonDecreasingBy (λ d. ordering_index (nat_cmp d.span.start o)) ds
comparisons_rise ds o rise = λ i j d le within. let e = rise i j d le within in grind (arith, nat_tests, e)

pub searched : (ds : List Detail) (o : ℕ) (r : Result ℕ ℕ) → IsSearchInRange r (length ds) → IsBinarySearchResult (λ d. nat_cmp d.span.start o) ds r → AreSorted ds
    → IsSearched ds o r
searched ds o (Ok k) within equal rise = λ d. ranked _ o _ (sym (equal d))
searched ds o (Err k) within parted rise = λ d c same. absent d c.0 c.1 c.2 same
  where
    absent : (d : Detail) (j : ℕ) → j < length ds → get_or ds j d ≡ d → d.span.start ≡ o → ⊥
    absent d j l g same = ⊎_elim
        (λ (less : j < k).
        let below : (get_or ds j d).span.start < o = ranked _ o _ (sym ((parted (comparisons_rise ds o rise)).0 j d (omega (arith, within)) less)) in
        let e = ap (λ z. z.span.start) g in omega (arith, below, e, same))
        (λ (least : k ≤ j).
        let above : o < (get_or ds j d).span.start = ranked _ o _ (sym ((parted (comparisons_rise ds o rise)).1 j d least l)) in
        let e = ap (λ z. z.span.start) g in omega (arith, above, e, same))
        (cases_lt j k)

among_start : (ds : List Detail) (offset : ℕ) (result : Option Detail) → IsAmong ds offset result → IfSome result (λ d. d.span.start ≡ offset)
among_start ds offset None m = tt
among_start ds offset (Some d) m = m.1

module _ (src : Table) (r : Lists) (house : Style) (offset : ℕ) (b : IsCharBoundary src.text offset) (ds : List Detail) (result : Option Detail) where
  pub indentation_at : AreKept Indentation src r house ds → IsAmong ds offset result → IsRuleDetail Indentation src r house offset result
  indentation_at k m = record {
    columns = k.details.columns;
    are_columns = k.details.are_columns;
    known = detail_known _ _ src.text ds offset result k.details.details b m;
  }

  pub quoting_at : AreKept Quoting src r house ds → IsAmong ds offset result → IsRuleDetail Quoting src r house offset result
  quoting_at k m = detail_known _ _ src.text ds offset result k.details b m

  pub layout_at : AreKept FlowLayout src r house ds → IsAmong ds offset result → IsRuleDetail FlowLayout src r house offset result
  layout_at k m = record {
    start = among_start ds offset result m;
    known = λ trees of order. detail_known _ _ src.text ds offset result (k.details trees of order) b m;
  }

-- the detail of a rule at an offset begins there
pub rule_detail_start : (src : Table) (r : Lists) (house : Style) (offset : ℕ) (d : Detail) (rule : StyleRule)
    → IsRuleDetail rule src r house offset (Some d) → d.span.start ≡ offset
rule_detail_start src r house offset d TrailingBlanks h = absurd (none_some (sym h))
rule_detail_start src r house offset d Indentation h = h.known.0
rule_detail_start src r house offset d Quoting h = h.0
rule_detail_start src r house offset d DocumentStart h = absurd (none_some (sym h))
rule_detail_start src r house offset d FinalBreak h = absurd (none_some (sym h))
rule_detail_start src r house offset d LineBreaks h = absurd (none_some (sym h))
rule_detail_start src r house offset d ByteOrderMark h = absurd (none_some (sym h))
rule_detail_start src r house offset d BlankLines h = absurd (none_some (sym h))
rule_detail_start src r house offset d FlowLayout h = h.start
rule_detail_start src r house offset d CommentSpace h = absurd (none_some (sym h))
rule_detail_start src r house offset d LineLength h = absurd (none_some (sym h))
rule_detail_start src r house offset d RepeatedKeys h = absurd (none_some (sym h))
rule_detail_start src r house offset d KeyMark h = absurd (none_some (sym h))
rule_detail_start src r house offset d HiddenCharacter h = absurd (none_some (sym h))
