-- The rest of the entries of a block collection while they are read one after another: the outcomes of all entries
-- follow from the outcomes of the next ones. The entries x were read whole, from p to i, at which the next one begins;
-- at most h collections were open at once in them. `Whole` and `Halts` run together: o is the part up to the last
-- offset so far at which all nodes may end, and stays the outcome of `Halts` if nothing from i on has an end.
use Rattle.std.specs.Prelude.{ℕ, max, Bool, false, List, Option, Some, None}
use Rattle.yf_grammar.specs.Productions.Meaning.{Meaning, ◌⊕◌}
use Rattle.yf_grammar.specs.FlowReader.Parser.{ParsedNode}
use Rattle.yf_grammar.specs.BlockReader.BlockParser.{Origin, Later, Items, Whole}
use Rattle.yf_grammar.specs.BlockReader.Halts.{Halts}

-- entries read before, and those that were found after them
abbrev pub after_entries : ℕ → Meaning → ParsedNode → ParsedNode
after_entries h x g = record { end = g.end; height = max h g.height; json = false; meaning = x ⊕ g.meaning }

-- the last halt of all entries: that of the further ones, with the entries before them, or o if they have none
unfoldable pub kept_halt : ℕ → Meaning → Option ParsedNode → Option ParsedNode → Option ParsedNode
kept_halt h x o None = o
kept_halt h x o (Some g) = Some (after_entries h x g)

pub record ItemsAwaited (t : List ℕ) (e : ℕ) (s : Bool) (m : ℕ) (q : Origin) (p i h : ℕ) (x : Meaning) : Type 0 where
  pub some : (g : ParsedNode) → Whole t e (Items s m Later i) (Some g) → Whole t e (Items s m q p) (Some (after_entries h x g))
  pub none : Whole t e (Items s m Later i) None → Whole t e (Items s m q p) None

pub record ItemsHalted (t : List ℕ) (e : ℕ) (ws : List ℕ) (s : Bool) (m : ℕ) (q : Origin) (p i h : ℕ) (x : Meaning) (o : Option ParsedNode) : Type 0 where
  pub some : (g : ParsedNode) → Halts t e ws (Items s m Later i) (Some g) → Halts t e ws (Items s m q p) (Some (after_entries h x g))
  pub none : Halts t e ws (Items s m Later i) None → Halts t e ws (Items s m q p) o
