-- The columns at which collections may begin on a line, as the reader has them.
use Rattle.std.specs.Prelude.{◌≡◌, ℕ, ◌<◌, ◌≤◌, ℤ, pos, ◌+ℤ◌, ◌≤ℤ◌, Bool, true, false, List, Option, MatchBool}
use Rattle.yf_chars.specs.declared.context.Ctx.{Ctx}
use Rattle.yf_chars.specs.Text.{code}
use Rattle.yf_chars.specs.Class.{is_white}
use Rattle.yf_grammar.specs.Productions.Grammar.{least_column}
use Rattle.yf_grammar.specs.BlockReader.BlockParser.{DashAt, Columns, Compact}
use Rattle.yf_block.specs.declared.frame.AwaitedNode.{AwaitedNode}
use Rattle.yf_block.specs.BlockStepTied.{is_out}

abbrev pub same_columns : Option ℕ → Columns
same_columns o = record { sequence = o; mapping = o }

-- after an indicator, the column at which a compact collection may begin if the node may be one
abbrev pub CompactTied : List ℕ → AwaitedNode → ℕ → ℕ → Option ℕ → Type 0
CompactTied t wanted at place column = (n : ℤ) → pos wanted.least ≡ n +ℤ pos 1 → (wanted.compact ≡ true → (0 < wanted.least) × (wanted.least ≤ at)) → is_white (code t place) ≡ false
    → Compact t wanted.compact n at place (same_columns column)

-- whether a sequence of that column may be the node
abbrev pub SequenceTied : AwaitedNode → ℕ → Bool → Type 0
SequenceTied wanted width result = (n : ℤ) → (c : Ctx) → pos wanted.least ≡ n +ℤ pos 1 → wanted.out ≡ is_out c
    → MatchBool result (least_column true n c ≤ℤ pos width) (least_column true n c ≤ℤ pos width → ⊥)

-- whether a sequence begins there
abbrev pub SequenceBegins : List ℕ → ℕ → AwaitedNode → ℕ → Bool → Type 0
SequenceBegins t at wanted width result = (n : ℤ) → (c : Ctx) → pos wanted.least ≡ n +ℤ pos 1 → wanted.out ≡ is_out c
    → MatchBool result (DashAt t at × (least_column true n c ≤ℤ pos width)) (DashAt t at → least_column true n c ≤ℤ pos width → ⊥)
