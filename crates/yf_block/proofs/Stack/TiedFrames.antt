-- The frames await the `:` that the collections ask for. This decides whether all nodes may end at a line.
use Rattle.std.proofs.Common.{◌≡◌, ℕ, ◌≤◌, Bool, true, false, List, refl, sym, ◌∙◌, subst, arith, true≢false}
use Rattle.yf_grammar.specs.Productions.Grammar.{ColonLine}
use Rattle.yf_grammar.specs.BlockReader.Halts.{NoColonAt, none_open, one_open}
use Rattle.yf_grammar.specs.BlockReader.BlockStack.{Layer, asks, column_if, asked}
use Rattle.yf_grammar.specs.BlockReader.BlockStates.{AllWithin, one_within, LayersDeepen, none_deepens, one_deepens}
use Rattle.yf_block.specs.declared.frame.Frame.{Frame}
use Rattle.yf_block.specs.AwaitedColons.{AwaitsAt, awaits_here, awaits_round}
use Rattle.yf_block.specs.BlockTied.{FramesTied, no_frames, frame_tied}

-- a column that awaits a `:` is one of the collections' columns
awaited_within : {n : ℕ} {m k : ℕ} {fs : List Frame} {ls : List Layer} → FramesTied n fs ls → AllWithin m ls → AwaitsAt k fs → k ≤ m
awaited_within no_frames b a = elim a [ ]
awaited_within (frame_tied f r) (one_within l a) (awaits_here e y) = let c = f.collection.column in omega (arith, c, e, l)
awaited_within (frame_tied f r) (one_within l a) (awaits_round b y) = awaited_within r a y

-- no awaited `:` is on the line, so all may end there
allowed_if : {t : List ℕ} {j w : ℕ} {ws : List ℕ} (b : Bool) → (b ≡ true → ColonLine t w j → ⊥) → NoColonAt t j ws → NoColonAt t j (column_if b w ws)
allowed_if true n a = one_open (n refl) a
allowed_if false n a = a

pub allowed_there : {t : List ℕ} {j : ℕ} {n : ℕ} {fs : List Frame} {ls : List Layer} → FramesTied n fs ls → LayersDeepen ls
    → ((m : ℕ) → ColonLine t m j → AwaitsAt m fs → ⊥) → NoColonAt t j (asked ls)
allowed_there no_frames none_deepens n = none_open
allowed_there {t} {j} (frame_tied {l = l} f r) (one_deepens a d) n = allowed_if (asks l.stage)
    (λ e c. n l.column c (awaits_here f.collection.column (f.awaits ∙ e)))
    (allowed_there r d (λ m c y. n m c (awaits_round (let b = awaited_within r a y in let q = f.collection.column in omega (arith, b, q)) y)))

-- an awaited `:` is on the line, so they may not
refused_if : {t : List ℕ} {j : ℕ} {ws : List ℕ} (b : Bool) (w : ℕ) → NoColonAt t j (column_if b w ws) → NoColonAt t j ws
refused_if true w (one_open n a) = a
refused_if false w a = a

refused_head : {t : List ℕ} {j w : ℕ} (b : Bool) (ws : List ℕ) → b ≡ true → NoColonAt t j (column_if b w ws) → ColonLine t w j → ⊥
refused_head true ws e (one_open n a) c = n c
refused_head false ws e a c = true≢false (sym e)

pub refused_there : {t : List ℕ} {j m : ℕ} {n : ℕ} {fs : List Frame} {ls : List Layer} → FramesTied n fs ls → AwaitsAt m fs → ColonLine t m j → NoColonAt t j (asked ls) → ⊥
refused_there no_frames y c a = elim y [ ]
refused_there {t} {j} (frame_tied {l = l} f r) (awaits_here e y) c a =
    refused_head (asks l.stage) _ (sym f.awaits ∙ y) a (subst (λ z. ColonLine t z j) (sym e ∙ f.collection.column) c)
refused_there (frame_tied {l = l} f r) (awaits_round b y) c a = refused_there r y c (refused_if (asks l.stage) l.column a)
