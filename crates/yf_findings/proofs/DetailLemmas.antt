-- The detail of a finding begins at the finding's offset.
use Rattle.std.proofs.Common.{◌≡◌, ℕ}
use Rattle.yf_events.specs.declared.lists.Lists.{Lists}
use Rattle.yf_findings.specs.Ranges.{FindingDetail}
use Rattle.yf_findings.specs.Ranges.FindingDetail.{of_reading, of_text}
use Rattle.yf_forms.specs.declared.style.Style.{Style}
use Rattle.yf_lines.specs.Lines.{Table}
use Rattle.yf_ranges.proofs.KnownLemmas.{rule_detail_start}
use Rattle.yf_ranges.specs.declared.detail.Detail.{Detail}
use Rattle.yf_rule_sets.specs.declared.rules.StyleRule.{StyleRule}

pub detail_start : {src : Table} {reading : Lists} {style : Style} {offset : ℕ} {d : Detail} (rule : StyleRule)
    → FindingDetail rule src reading style offset d → d.span.start ≡ offset
detail_start {src} {reading} {style} {offset} {d} rule (of_reading h) = rule_detail_start src reading style offset d rule h
detail_start rule (of_text h d) = d.start
