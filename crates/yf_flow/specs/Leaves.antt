-- The results of the readers of parts without nodes: the longest part of each production, with its value.
use Rattle.std.specs.Prelude.{◌≡◌, ℕ, ◌≤◌, ℤ, true, false, List, ◌++◌}
use Rattle.yf_chars.specs.declared.context.Ctx.{Ctx}
use Rattle.yf_chars.specs.Chain.{Stuck, Chosen}
use Rattle.yf_comments.specs.Comment.{CommentValue}
use Rattle.yf_comments.specs.Comments.{Separate}
use Rattle.yf_grammar.specs.Productions.Grammar.{characters_between, KEY_LIMIT}
use Rattle.yf_grammar.specs.FlowReader.Parser.{OnOneLine}
use Rattle.yf_flow.specs.declared.frame.CollectionKind.{CollectionKind}
use Rattle.yf_flow.specs.declared.frame.CollectionKind.TheVariants.{Sequence, Mapping, Pair}
use Rattle.yf_flow.specs.declared.gap.FlowGap.{FlowGap}

-- the longest separation from i, with its comments after those of a list; or there is none
pub record SeparatedTo (t : List ℕ) (n : ℤ) (c : Ctx) (i j : ℕ) (old new : List CommentValue) : Type 0 where
  pub comments : List CommentValue
  pub chosen : Chosen (Separate t n c i) j comments
  pub added : new ≡ old ++ comments

pub record SeparationOrNot (t : List ℕ) (n : ℤ) (c : Ctx) (i : ℕ) (old new : List CommentValue) : Type 0 where
  pub none : Stuck (Separate t n c i)
  pub same : new ≡ old

-- the longest separation, or none
pub data GapRead (t : List ℕ) (n : ℤ) (c : Ctx) (i : ℕ) (old new : List CommentValue) : FlowGap → Type 0 where
  gap_read : {j : ℕ} → SeparatedTo t n c i j old new → GapRead t n c i old new (record { end = j; is_separation = true })
  gap_missing : SeparationOrNot t n c i old new → GapRead t n c i old new (record { end = i; is_separation = false })

-- the bracket that closes a collection of that kind
abbrev pub IsClosing : CollectionKind → ℕ → Type 0
IsClosing Sequence x = x ≡ 93
IsClosing Mapping x = x ≡ 125
IsClosing Pair x = ⊥

-- the characters of an implicit key: on one line, and within the limit
pub record KeyLine (t : List ℕ) (i j : ℕ) : Type 0 where
  pub line : OnOneLine t i j
  pub short : characters_between t i j ≤ KEY_LIMIT
