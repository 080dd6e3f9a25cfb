-- The states of a reader of block nodes with a stack, as far as the relations `Whole` and `Halts` determine them: the
-- part that has been read, and the outermost node. In each state h is the outermost node's last halt if the text goes
-- wrong next: its part up to the last offset at which it may end.
use Rattle.std.specs.Prelude.{◌≡◌, ℕ, suc, max, ◌<◌, ◌≤◌, Bool, List, [], ◌∷◌, true, Option, Some, None}
use Rattle.yf_comments.specs.Comment.{CommentValue}
use Rattle.yf_grammar.specs.Productions.Grammar.{ColonLine}
use Rattle.yf_grammar.specs.Productions.Meaning.{◌⊕◌}
use Rattle.yf_grammar.specs.FlowReader.Parser.{ParsedNode, only}
use Rattle.yf_grammar.specs.BlockReader.BlockParser.{Ahead, Nothing, Indicator, Props, Origin, BlockTask, Item, NoEntry, Whole}
use Rattle.yf_grammar.specs.BlockReader.Halts.{Halts}
use Rattle.yf_grammar.specs.BlockReader.BlockSteps.{TaskAwaited, TaskHalted, made_or, as_after}
use Rattle.yf_grammar.specs.BlockReader.BlockStack.{Layer, Stage, AtItem, AtKey, AtLoneValue, AtValue, asks, collection_made, rounds, EntriesIn, asked, Around}

-- a node is awaited after the comments ds, and e more collections may be opened
pub record NodeAt (t : List ℕ) (d : ℕ) (root : BlockTask) (ls : List Layer) (e : ℕ) (ds : List CommentValue) (task : BlockTask)
    (h : Option ParsedNode) : Type 0 where
  pub outer : BlockTask
  pub round : Option ParsedNode
  pub last : Option ParsedNode
  pub around : Around t d root ls e outer round
  pub awaited : TaskAwaited t e task (as_after ds) e outer
  pub halted : TaskHalted t e (asked ls) task (as_after ds) last e (asked ls) outer
  pub halt : h ≡ made_or (rounds ls) round last

-- a node has been found whole, and ends there
pub record NodeRead (t : List ℕ) (d : ℕ) (root : BlockTask) (ls : List Layer) (e : ℕ) (node : ParsedNode) (at : ℕ) (h : Option ParsedNode) : Type 0 where
  pub task : BlockTask
  pub round : Option ParsedNode
  pub last : Option ParsedNode
  pub around : Around t d root ls e task round
  pub whole : Whole t e task (Some node)
  pub halted : Halts t e (asked ls) task last
  pub end : node.end ≡ at
  pub halt : h ≡ made_or (rounds ls) round last

-- the present entry of the innermost collection has been found whole, and ends there
pub record EntryRead (t : List ℕ) (d : ℕ) (root : BlockTask) (l : Layer) (ls : List Layer) (e : ℕ) (entry : ParsedNode) (at : ℕ) (h : Option ParsedNode) : Type 0 where
  pub outer : BlockTask
  pub origin : Origin
  pub start : ℕ
  pub round : Option ParsedNode
  pub before : Option ParsedNode
  pub last : Option ParsedNode
  pub around : Around t d root ls (suc e) outer round
  pub entries : EntriesIn t e (asked ls) l origin start before outer
  pub whole : Whole t e (Item l.sequence l.column origin start) (Some entry)
  pub halted : Halts t e (asked ls) (Item l.sequence l.column origin start) last
  pub end : entry.end ≡ at
  pub halt : h ≡ made_or (rounds ls) round (made_or (collection_made l) before last)

-- an entry of the innermost collection begins there
pub record EntryAt (t : List ℕ) (d : ℕ) (root : BlockTask) (l : Layer) (ls : List Layer) (e : ℕ) (q : Origin) (i : ℕ) (h : Option ParsedNode) : Type 0 where
  pub outer : BlockTask
  pub round : Option ParsedNode
  pub before : Option ParsedNode
  pub around : Around t d root ls (suc e) outer round
  pub entries : EntriesIn t e (asked ls) l q i before outer
  pub halt : h ≡ made_or (rounds ls) round before

-- nothing is found, and h is the outermost node's last halt
pub record NodeIsBroken (t : List ℕ) (d : ℕ) (root : BlockTask) (h : Option ParsedNode) : Type 0 where
  pub whole : Whole t d root None
  pub halted : Halts t d [] root h

-- a collection with a further entry, and one with its present entry at a stage
abbrev pub with_entry : Layer → ParsedNode → Layer
with_entry l f = record l { high = max l.high f.height; known = l.known ⊕ f.meaning }

abbrev pub at_stage : Layer → Stage → Layer
at_stage l s = record l { stage = s }

-- a collection before its first entry is read
abbrev pub new_layer : Bool → ℕ → Ahead → List CommentValue → ℕ → Layer
new_layer sequence m a ds p = record { sequence = sequence; column = m; ahead = a; comments = ds; first = p; high = 0; known = only [] 0; stage = AtItem p }

-- the start of the present entry
abbrev pub place_of : Stage → ℕ
place_of (AtItem i) = i
place_of (AtKey i) = i
place_of (AtLoneValue i) = i
place_of (AtValue i k f) = i

-- the comments that go before a node, and not to the properties of its `Ahead`
abbrev pub outcome_before : Ahead → List CommentValue → List CommentValue
outcome_before Nothing ds = ds
outcome_before (Indicator i) ds = ds
outcome_before (Props h) ds = []

-- the line at an offset, or the end of the lines, ends the collection after its present node
pub record EndsHere (t : List ℕ) (at : ℕ) (l : Layer) : Type 0 where
  pub no_entry : NoEntry t l.sequence l.column at
  pub no_colon : asks l.stage ≡ true → ColonLine t l.column at → ⊥

-- the line at an offset, or the end of the lines, ends all these collections, the innermost first
pub data AllEnd (t : List ℕ) (at : ℕ) : List Layer → Type 0 where
  all_ended : AllEnd t at []
  one_ends : {l : Layer} {ls : List Layer} → EndsHere t at l → AllEnd t at ls → AllEnd t at (l ∷ ls)

-- collections with all columns greater than m
pub data AllDeeper (m : ℕ) : List Layer → Type 0 where
  no_more : AllDeeper m []
  one_deeper : {l : Layer} {ls : List Layer} → m < l.column → AllDeeper m ls → AllDeeper m (l ∷ ls)

-- collections with no column greater than m
pub data AllWithin (m : ℕ) : List Layer → Type 0 where
  none_within : AllWithin m []
  one_within : {l : Layer} {ls : List Layer} → l.column ≤ m → AllWithin m ls → AllWithin m (l ∷ ls)

-- collections, the innermost first: the column of each is at least that of every collection around it
pub data LayersDeepen : List Layer → Type 0 where
  none_deepens : LayersDeepen []
  one_deepens : {l : Layer} {ls : List Layer} → AllWithin l.column ls → LayersDeepen ls → LayersDeepen (l ∷ ls)
