-- The details of the findings of a rule that have values from the reading, in a list and at an offset.
use Rattle.std.specs.Prelude.{◌≡◌, ◌≢◌, ℕ, List, [], get_or, Option, None, MatchOption, Result, MatchResult}
use Rattle.std.specs.List.{Contains}
use Rattle.std.specs.List.Sorted.{IsNonDecreasingBy}
use Rattle.yf_events.specs.declared.lists.Lists.{Lists}
use Rattle.yf_forms.specs.declared.style.Style.{Style}
use Rattle.yf_lines.specs.Lines.{Table}
use Rattle.yf_ranges.specs.FlowDetails.{LayoutDetails, LayoutKnown}
use Rattle.yf_ranges.specs.Indents.{IndentDetails, IndentKnown}
use Rattle.yf_ranges.specs.NodeDetails.{IsKnown, NodeDetails, QuotingDetail}
use Rattle.yf_ranges.specs.declared.detail.Detail.{Detail}
use Rattle.yf_ranges.specs.declared.known.KnownDetails.{KnownDetails}
use Rattle.yf_rule_sets.specs.RuleSets.Styles.{QuotingFault}
use Rattle.yf_rule_sets.specs.declared.rules.StyleRule.{StyleRule}
use Rattle.yf_rule_sets.specs.declared.rules.StyleRule.TheVariants.{FlowLayout, Indentation, Quoting}

-- the details of all findings of a rule, and none if the rule has no values from the reading
abbrev pub AreRuleDetails : StyleRule → Table → Lists → Style → List Detail → Type 0
AreRuleDetails Indentation src r house ds = IndentDetails src r house ds
AreRuleDetails Quoting src r house ds = NodeDetails (QuotingFault src.text r house) (QuotingDetail src.text r house) src.text ds
AreRuleDetails FlowLayout src r house ds = LayoutDetails src r house ds
AreRuleDetails _ src r house ds = ds ≡ []

-- the detail of the finding of a rule at an offset
abbrev pub IsRuleDetail : StyleRule → Table → Lists → Style → ℕ → Option Detail → Type 0
IsRuleDetail Indentation src r house offset result = IndentKnown src r house offset result
IsRuleDetail Quoting src r house offset result =
    IsKnown (QuotingFault src.text r house) (QuotingDetail src.text r house) src.text offset result
IsRuleDetail FlowLayout src r house offset result = LayoutKnown src r house offset result
IsRuleDetail _ src r house offset result = result ≡ None

-- the details ascend by their offsets
abbrev pub AreSorted : List Detail → Type 0
AreSorted ds = IsNonDecreasingBy (λ d. d.span.start) ds

-- the details of all findings of a rule, which ascend
pub record AreKept (rule : StyleRule) (src : Table) (r : Lists) (house : Style) (ds : List Detail) : Type 0 where
  pub details : AreRuleDetails rule src r house ds
  pub sorted : AreSorted ds

-- the details of each rule that has values from the reading
pub record AreKnown (src : Table) (r : Lists) (house : Style) (known : KnownDetails) : Type 0 where
  pub indentation : AreKept Indentation src r house known.indentation.items
  pub quoting : AreKept Quoting src r house known.quoting.items
  pub flow_layout : AreKept FlowLayout src r house known.flow_layout.items

-- a detail of the list at an offset, or `None` if the list has none there
abbrev pub IsAmong : List Detail → ℕ → Option Detail → Type 0
IsAmong ds offset result =
    MatchOption result ((d : Detail) → Contains ds d → d.span.start ≢ offset) (λ d. Contains ds d × (d.span.start ≡ offset))

-- the index of a detail at an offset, or any number if the list has none there
abbrev pub IsSearched : List Detail → ℕ → Result ℕ ℕ → Type 0
IsSearched ds offset result =
    MatchResult result (λ k. (d : Detail) → (get_or ds k d).span.start ≡ offset)
    (λ _. (d : Detail) → Contains ds d → d.span.start ≢ offset)
