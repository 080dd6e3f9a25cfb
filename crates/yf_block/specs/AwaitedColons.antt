-- The `:` that the open collections of a block node await.
use Rattle.std.specs.Prelude.{◌≡◌, ℕ, ◌≤◌, true, List, ◌∷◌}
use Rattle.yf_grammar.specs.Productions.Grammar.{ColonLine}
use Rattle.yf_block.specs.declared.frame.Frame.{Frame}

-- one of the open collections, the innermost first, awaits the `:` of an entry with a `?` at the column, and none
-- within it is less deep
pub data AwaitsAt (m : ℕ) : List Frame → Type 0 where
  awaits_here : {f : Frame} {fs : List Frame} → f.column ≡ m → f.awaits_colon ≡ true → AwaitsAt m (f ∷ fs)
  awaits_round : {f : Frame} {fs : List Frame} → m ≤ f.column → AwaitsAt m fs → AwaitsAt m (f ∷ fs)

-- both lists await a `:` at the column, or neither does
pub record AwaitsAlike (m : ℕ) (xs ys : List Frame) : Type 0 where
  pub into : AwaitsAt m xs → AwaitsAt m ys
  pub back : AwaitsAt m ys → AwaitsAt m xs

-- the line at the offset has the `:` of an open entry with a `?`
pub record AwaitedColon (t : List ℕ) (at : ℕ) (fs : List Frame) : Type 0 where
  pub column : ℕ
  pub line : ColonLine t column at
  pub awaits : AwaitsAt column fs
