-- A step of the reader: its input, its ties, the number of open collections, and its result.
use Rattle.std.specs.Prelude.{◌≡◌, ℕ, ◌+◌, ◌-◌, ◌*◌, ◌<◌, ◌≤◌, ℤ, Bool, List, length, reverse, MatchBool}
use Rattle.std.specs.List.{All}
use Rattle.std.specs.Str.{IsCharBoundary}
use Rattle.yf_chars.specs.declared.context.Ctx.{Ctx}
use Rattle.yf_chars.specs.Text.{code}
use Rattle.yf_comments.specs.Comment.{CommentValue}
use Rattle.yf_events.specs.declared.part.Part.{Part}
use Rattle.yf_flow.specs.declared.frame.Frame.{Frame}
use Rattle.yf_flow.specs.declared.frame.Node.{Node}
use Rattle.yf_flow.specs.declared.frame.FlowReader.{FlowReader}
use Rattle.yf_flow.specs.declared.frame.FlowContext.{FlowContext}
use Rattle.yf_flow.specs.declared.frame.Step.{Step}
use Rattle.yf_flow.specs.EntryStarts.{AtFirst, AtSign, SignAt}
use Rattle.yf_flow.specs.declared.nodes.Ending.{Ending}
use Rattle.yf_flow.specs.Depth.{AllCounted, EndCounted, NodeCounted, StepCounted, openers_from}
use Rattle.yf_flow.specs.CollectionEnds.{EndTied}
use Rattle.yf_flow.specs.Machine.{EntryIsNext, EndingAt, EntryIsIn, StepReady, left}
use Rattle.yf_flow.specs.StepTerms.{Reading}
use Rattle.yf_flow.specs.StackMeaning.{AtEntry, Base, NoBase, StepTied}

-- the offset is a boundary, and the events of the open collections exist, for the innermost one in the sense of
-- `IsThere`
pub record IsReaderReady (IsThere : List ℕ → ℕ → Frame → Type 0) (t : List ℕ) (at : ℕ) (r : FlowReader) : Type 0 where
  pub boundary : IsCharBoundary t at
  pub innermost : IsThere t (length r.part.events) r.top
  pub others : All (EntryIsIn t (length r.part.events)) r.below.items

-- the event that begins the collection is among the first m
abbrev pub EventThere : List ℕ → ℕ → Frame → Type 0
EventThere t m f = f.event < m

-- the next step is at or after an offset
pub record Ready (t : List ℕ) (at : ℕ) (r : FlowReader) (s : Step) : Type 0 where
  pub below : All (EntryIsIn t (length r.part.events)) r.below.items
  pub step : StepReady t at (length r.part.events) r.top s

-- the step leads on, and adds no bad escapes
pub record StepPromises (t : List ℕ) (at : ℕ) (escapes : List ℕ) (new : FlowReader) (s : Step) : Type 0 where
  pub ready : Ready t at new s
  pub moves : left (length t) s ≤ 2 * (length t - at) + 1
  pub same_escapes : new.part.escapes ≡ escapes

-- the input, as the recursive reader has it; the state before an offset, a node and so on; and the next step
abbrev pub SceneRead : FlowContext → Base → Type 0
SceneRead scene base = Reading scene.text.now scene.context scene.limit base

abbrev pub At : {X : Type 0} → (List ℕ → ℤ → Ctx → Base → List Frame → Frame → X → Part → Type 0) → FlowContext → FlowReader → X → Base → Type 0
At IsAt scene r x base = IsAt scene.text.now scene.indentation scene.context base (reverse r.below.items) r.top x r.part

abbrev pub ReaderTied : FlowContext → Base → FlowReader → Step → Type 0
ReaderTied scene base r s = StepTied scene.text.now scene.indentation scene.context base (reverse r.below.items) r.top s r.part

-- the number of open collections: before an offset, after a node, after a `?`, before the `:` of a pair; and at the
-- next step
abbrev pub Room : FlowContext → FlowReader → ℕ → ℕ → Type 0
Room scene r at total = AllCounted scene.text.now total at r.below.items r.top

abbrev pub NodeRoom : FlowContext → FlowReader → Node → ℕ → Type 0
NodeRoom scene r node total = NodeCounted scene.text.now total node.deepest node.end r.below.items r.top

pub record QuestionRoom (scene : FlowContext) (r : FlowReader) (at total : ℕ) : Type 0 where
  pub question : code scene.text.now r.top.entry ≡ 63
  pub order : r.top.entry < at
  pub room : AllCounted scene.text.now total r.top.entry r.below.items r.top

pub record PairRoom (scene : FlowContext) (r : FlowReader) (node : Node) (colon total : ℕ) : Type 0 where
  pub order : node.end ≤ colon
  pub colon_there : code scene.text.now colon ≡ 58
  pub room : NodeCounted scene.text.now total node.deepest node.end r.below.items r.top

abbrev pub ReaderCounted : FlowContext → ℕ → FlowReader → Step → Type 0
ReaderCounted scene total r s = StepCounted scene.text.now scene.limit total r.below.items r.top s

-- the result of a step from an offset on, if it is tied and has room
pub record StepLeads (IsTied : Base → Type 0) (HasRoom : ℕ → Type 0) (scene : FlowContext) (at : ℕ) (old new : FlowReader) (s : Step) : Type 0 where
  pub tied : (base : Base) → SceneRead scene base → IsTied base → ReaderTied scene base new s
  pub counted : (total : ℕ) → HasRoom total → ReaderCounted scene total new s
  pub stepped : StepPromises scene.text.now at old.part.escapes new s

-- whether an entry with a sign has a mapping
pub record InMapping (scene : FlowContext) (old new : FlowReader) (there : Bool) : Type 0 where
  pub tied : (base : Base) → SceneRead scene base → (p : ℕ) → (cs : List CommentValue) → SignAt scene.text.now scene.indentation scene.context old.top.entry cs p
      → At AtFirst scene old cs base → MatchBool there (At AtSign scene new cs base) (NoBase scene.text.now scene.indentation base)
  pub counted : (total i j : ℕ) → openers_from scene.text.now j < openers_from scene.text.now i → i ≤ j → Room scene old i total → MatchBool there (Room scene new j total) (scene.limit < total)
  pub innermost : EntryIsNext scene.text.now (length new.part.events) new.top
  pub others : All (EntryIsIn scene.text.now (length new.part.events)) new.below.items
  pub entry : new.top.entry ≡ old.top.entry
  pub escapes : new.part.escapes ≡ old.part.escapes

-- the end of a collection that awaits entries at an offset
pub record CollectionEnds (scene : FlowContext) (at : ℕ) (old new : FlowReader) (e : Ending) : Type 0 where
  pub tied : (base : Base) → SceneRead scene base → At AtEntry scene old at base → EndTied scene.text.now scene.indentation base e new.part
  pub counted : (total : ℕ) → Room scene old at total → EndCounted scene.text.now scene.limit total e
  pub found : EndingAt scene.text.now at e
  pub escapes : All (IsCharBoundary scene.text.now) new.part.escapes
