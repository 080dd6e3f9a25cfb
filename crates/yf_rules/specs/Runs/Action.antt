-- What a run does for its action.
-- (input, left: the reader before and after the run; before, after: the writer; good: the result of the run)
use Rattle.std.specs.Prelude.{◌≡◌, Bool, true, not, IfSome}
use Rattle.yf_forms.specs.declared.style.Style.{Style}
use Rattle.yf_lines.specs.declared.fault.Fault.{Fault}
use Rattle.yf_rules.specs.declared.action.Action.{Action}
use Rattle.yf_rules.specs.declared.action.Action.TheVariants.{Events, Check, Format, Compare, Diff}
use Rattle.yf_rules.specs.AllRules.{FoundWithout}
use Rattle.yf_rules.specs.Runs.ByteStream.{ByteStream}
use Rattle.yf_rules.specs.Runs.Compare.{BrokeOffDifference, CompareRun, IsClean}
use Rattle.yf_rules.specs.Runs.Diffed.{BrokeOffDiff, DiffRun}
use Rattle.yf_rules.specs.Runs.Run.{BrokeOff, BrokeOffLines, BrokeOffText, FindingsWritten, FormattingWritten}
use Rattle.yf_rules.specs.Runs.Run.{NotationWritten, RefusedRun}

-- The action was done. The result is false if `Check` has a finding, or if the text of `Compare` or `Diff` is not its
-- own formatting.
abbrev pub ActionDone : Action → Style → ByteStream → ByteStream → ByteStream → Bool → Type 0
ActionDone Events style input before after good = NotationWritten input before after × (good ≡ true)
ActionDone (Check without) style input before after good =
    FindingsWritten (FoundWithout without.now style) style input before after (not good)
ActionDone Format style input before after good = FormattingWritten style input before after × (good ≡ true)
ActionDone Compare style input before after good =
    CompareRun style input before after good × (good ≡ true → IfSome input.contents (IsClean style))
ActionDone (Diff name) style input before after good =
    DiffRun style name.now input before after good × (good ≡ true → IfSome input.contents (IsClean style))

-- A text was read, but the writer failed, and a prefix of the action's output was written.
abbrev pub ActionBroke : Action → Style → ByteStream → ByteStream → ByteStream → Type 0
ActionBroke Events style input before after = BrokeOff input before after
ActionBroke (Check without) style input before after =
    BrokeOffLines (FoundWithout without.now style) style input before after
ActionBroke Format style input before after = BrokeOffText style input before after
ActionBroke Compare style input before after = BrokeOffDifference style input before after
ActionBroke (Diff name) style input before after = BrokeOffDiff style name.now input before after

-- why the action is refused
abbrev pub ActionRefused : Action → Style → ByteStream → ByteStream → ByteStream → ByteStream → Fault → Type 0
ActionRefused action style input left before after fault =
    RefusedRun (ActionBroke action style input before after) input left before after fault
