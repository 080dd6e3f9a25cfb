-- The state after a node of a flow collection: before the `:` of a single pair with the node as its key, after the
-- key of a mapping, before a value, and after an entry.
use Rattle.std.specs.Prelude.{◌≡◌, ℕ, ℤ, Bool, List}
use Rattle.yf_chars.specs.declared.context.Ctx.{Ctx}
use Rattle.yf_events.specs.declared.part.Part.{Part}
use Rattle.yf_grammar.specs.FlowReader.Parser.{PairKey}
use Rattle.yf_flow.specs.declared.frame.Frame.{Frame}
use Rattle.yf_flow.specs.declared.frame.Node.{Node}
use Rattle.yf_flow.specs.declared.frame.Role.TheVariants.{Item, Key}
use Rattle.yf_flow.specs.StepTerms.{FrameWithNode}
use Rattle.yf_flow.specs.StackMeaning.{AtEnded, AtEntryDone, AtValue, Base}

pub record AtPairKey (node : Node) (t : List ℕ) (n : ℤ) (d : Ctx) (base : Base) (frames : List Frame) (top : Frame) (colon : ℕ) (part : Part) : Type 0 where
  pub ended : AtEnded t n d base frames top node part
  pub role : top.role ≡ Item
  pub key : PairKey t d ended.layer.start ended.answer colon

pub record AtKeyEnd (t : List ℕ) (n : ℤ) (d : Ctx) (base : Base) (frames : List Frame) (top : Frame) (node : Node) (part : Part) : Type 0 where
  pub first : Frame
  pub ended : AtEnded t n d base frames first node part
  pub role : first.role ≡ Key
  pub reached : FrameWithNode first node.deepest top

abbrev pub AtValueOf : Bool → List ℕ → ℤ → Ctx → Base → List Frame → Frame → ℕ → Part → Type 0
AtValueOf json t n d base frames top colon part = AtValue t n d base frames top json colon part

abbrev pub AtEntryDoneFrom : ℕ → List ℕ → ℤ → Ctx → Base → List Frame → Frame → ℕ → Part → Type 0
AtEntryDoneFrom finish t n d base frames top at part = AtEntryDone t n d base frames top finish at part
