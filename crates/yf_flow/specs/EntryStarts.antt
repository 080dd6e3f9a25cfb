-- The beginning of an entry of a flow collection: before its first node or sign, and after its `?` or `:`.
use Rattle.std.specs.Prelude.{◌≡◌, ◌≢◌, ℕ, suc, ◌+◌, ℤ, Bool, false, List, [], length, Option, Some, None}
use Rattle.yf_chars.specs.declared.context.Ctx.{Ctx}
use Rattle.yf_chars.specs.Text.{code}
use Rattle.yf_chars.specs.Chain.{Stuck, Chosen}
use Rattle.yf_comments.specs.Comment.{CommentValue}
use Rattle.yf_comments.specs.Comments.{Separate}
use Rattle.yf_events.specs.Event.{EventInText}
use Rattle.yf_events.specs.declared.part.Part.{Part}
use Rattle.yf_grammar.specs.Productions.Grammar.{closing}
use Rattle.yf_grammar.specs.Productions.Meaning.{Meaning, ◌⊕◌, noting, entering, empty_node}
use Rattle.yf_grammar.specs.FlowReader.Parser.{ColonAt, only}
use Rattle.yf_grammar.specs.FlowReader.FlowContinuations.{EntriesAwaited, ValueAwaited}
use Rattle.yf_flow.specs.declared.frame.Frame.{Frame}
use Rattle.yf_flow.specs.declared.frame.Role.TheVariants.{Key}
use Rattle.yf_flow.specs.Leaves.{SeparatedTo}
use Rattle.yf_flow.specs.StepTerms.{first_role}
use Rattle.yf_flow.specs.StackMeaning.{PartSoFar, entries_written, written_in, CollectionFrame, Base, first_events, Below, InEntry, EntryTied}

-- a `?` and its separation from the first offset on, or neither of them
pub record QuestionOrNot (t : List ℕ) (n : ℤ) (d : Ctx) (s : ℕ) (old new : List CommentValue) : Type 0 where
  pub none : code t s ≡ 63 → Stuck (Separate t n d (s + 1))
  pub same : new ≡ old

abbrev pub QuestionMark : List ℕ → ℤ → Ctx → ℕ → List CommentValue → List CommentValue → Option ℕ → Type 0
QuestionMark t n d s old new (Some j) = (code t s ≡ 63) × SeparatedTo t n d (s + 1) j old new
QuestionMark t n d s old new None = QuestionOrNot t n d s old new

-- a sign at s, with the comments after it; the awaited part is at the second offset, which is that of the `:` itself
pub data SignAt (t : List ℕ) (n : ℤ) (d : Ctx) (s : ℕ) : List CommentValue → ℕ → Type 0 where
  question_there : {k : ℕ} {cs : List CommentValue} → code t s ≡ 63 → Chosen (Separate t n d (s + 1)) k cs → SignAt t n d s cs k
  colon_there : ColonAt t false d s → SignAt t n d s [] s

-- an entry of the collection begins, and comments have been read of it
pub record AtFirst (t : List ℕ) (n : ℤ) (d : Ctx) (base : Base) (frames : List Frame) (top : Frame) (cs : List CommentValue) (part : Part) : Type 0 where
  pub sequence : Bool
  pub place : ℕ
  pub context : Ctx
  pub limit : ℕ
  pub high : ℕ
  pub before : Meaning
  pub begin : EventInText
  pub known : Meaning
  pub below : Below t n d base frames sequence place context (suc limit) before begin
  pub entries : EntriesAwaited t limit sequence n context d place high known top.entry
  pub open_there : code t top.entry ≢ closing sequence
  pub frame : CollectionFrame base.total limit high (length before.events) sequence top
  pub role : top.role ≡ first_role top.kind
  pub index : top.entry_event ≡ length part.events
  pub written : PartSoFar t (first_events base) (noting (entries_written before begin known) cs) part

-- the entry begins in its mapping, which is a single pair in a sequence
pub record AtSign (t : List ℕ) (n : ℤ) (d : Ctx) (base : Base) (frames : List Frame) (top : Frame) (cs : List CommentValue) (part : Part) : Type 0 where
  pub layer : InEntry
  pub mapping : layer.pair ≡ layer.sequence
  pub tied : EntryTied t n d base frames top 0 layer
  pub entry : top.entry ≡ layer.start
  pub role : top.role ≡ Key
  pub index : top.entry_event ≡ length part.events
  pub written : PartSoFar t (first_events base) (written_in layer (noting (only [] 0) cs)) part

-- the value of an entry without a key is awaited
abbrev pub AloneAwaited : List ℕ → ℤ → Ctx → InEntry → List CommentValue → ℕ → Type 0
AloneAwaited t n d l cs v = ValueAwaited t l.limit l.sequence n d l.pair l.start false 0 (noting (only [] 0) cs ⊕ entering l.start (Some v) (empty_node v)) v

-- after a `?` and its separation, which ends at the offset
pub record AtQuestioned (t : List ℕ) (n : ℤ) (d : Ctx) (base : Base) (frames : List Frame) (top : Frame) (at : ℕ) (part : Part) : Type 0 where
  pub comments : List CommentValue
  pub question : code t top.entry ≡ 63
  pub chosen : Chosen (Separate t n d (top.entry + 1)) at comments
  pub first : AtFirst t n d base frames top comments part

-- before the `:` of a value without a key
pub record AtLone (t : List ℕ) (n : ℤ) (d : Ctx) (base : Base) (frames : List Frame) (top : Frame) (colon : ℕ) (part : Part) : Type 0 where
  pub comments : List CommentValue
  pub no_feed : code t top.entry ≢ 10
  pub sign : AtSign t n d base frames top comments part
  pub awaited : AloneAwaited t n d sign.layer comments colon
