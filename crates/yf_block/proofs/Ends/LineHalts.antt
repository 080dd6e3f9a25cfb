-- The last offset of a line's end, with comment lines, at which all open nodes may end, as it is noted; and the line
-- that begins there.
use Rattle.std.proofs.Common.{◌≡◌, ℕ, ◌+◌, ◌-◌, ◌<◌, ◌≤◌, Bool, true, false, ⊎_elim, List, [], ◌∷◌, length, Option, refl, sym, ap, ◌∙◌, arith, true≢false}
use Rattle.std.proofs.lemmas.Bool.{cases_lt}
use Rattle.std.specs.Str.{IsUtf8}
use Rattle.yf_chars.specs.Text.{code, next}
use Rattle.yf_chars.specs.Chain.{Chain, Stuck, Chosen}
use Rattle.yf_chars.specs.Chain.Chain.{done, step}
use Rattle.yf_chars.proofs.ChainLemmas.{chain_more, chain_forward}
use Rattle.yf_chars.proofs.TextLemmas.{code-past, next_ascii, next_later}
use Rattle.yf_lines.specs.Basic.{Break, LineStart}
use Rattle.yf_lines.specs.Basic.Break.{cr_lf, lone_cr, lone_lf}
use Rattle.yf_lines.specs.Basic.LineStart.{at_text, after_break, after_mark}
use Rattle.yf_lines.proofs.BasicLemmas.{break_forward}
use Rattle.yf_comments.specs.Comment.{CommentValue}
use Rattle.yf_comments.specs.Comments.{BreakOrEnd, LineRest, CommentLine, LineEnd, Row}
use Rattle.yf_comments.specs.Comments.BreakOrEnd.{by_break, by_end}
use Rattle.yf_comments.specs.Comments.LineRest.{nothing, whites, comment}
use Rattle.yf_comments.specs.Comments.CommentLine.{whites_line, comment_line}
use Rattle.yf_comments.specs.Comments.LineEnd.{past_rest, from_start}
use Rattle.yf_comments.proofs.BlankLemmas.{same_place}
use Rattle.yf_comments.proofs.LineEndLemmas.{line_end_rows, rows_line_end}
use Rattle.yf_comments.proofs.RowLemmas.{row_functional}
use Rattle.yf_grammar.specs.BlockReader.Halts.{NoColonAt, MayEnd}
use Rattle.yf_grammar.specs.FlowReader.Parser.{ParsedNode}
use Rattle.yf_grammar.specs.BlockReader.BlockStack.{Layer, asks, entry_made, collection_made, rounds, asked, column_if}
use Rattle.yf_grammar.specs.BlockReader.BlockStates.{LayersDeepen}
use Rattle.yf_grammar.proofs.BlockOutcomes.BlockHalts.{may_end_chosen}
use Rattle.yf_grammar.proofs.BlockStack.BlockResume.{entry_end}
use Rattle.yf_grammar.proofs.BlockContent.LineParts.{LinesWithoutLast, lines_without_last, one_line_alone}
use Rattle.yf_grammar.proofs.BlockContent.PlainCut.{LastLine}
use Rattle.yf_block.specs.declared.frame.Frame.{Frame}
use Rattle.yf_block.specs.declared.frame.BlockCursor.{BlockCursor}
use Rattle.yf_block.specs.AwaitedColons.{AwaitsAt, awaits_here, awaits_round, AwaitedColon}
use Rattle.yf_block.specs.BlockTied.{FramesTied, no_frames, frame_tied, StackTied}
use Rattle.yf_block.specs.LastStarts.{LastStart, NoStart}
use Rattle.yf_block.specs.LookTests.{NotWithinBreak}
use Rattle.yf_block.specs.HaltNotes.{ColonsCounted}
use Rattle.yf_block.proofs.Stack.TiedFrames.{allowed_there, refused_there}

-- after the end of a line, or at the end of the text, the offset is not within a break
module _ {t : List ℕ} where
  pub break_outside : {i j : ℕ} → Break t i j → NotWithinBreak t j
  break_outside (cr_lf {i = i} a b) = record { apart = λ x y. let same : i + 2 - 1 ≡ i + 1 = omega arith in let z = sym (ap (code t) same) ∙ y in omega (arith, b, z) }
  break_outside (lone_cr a b) = record { apart = λ x y. b x }
  break_outside (lone_lf {i = i} a b) = record { apart = λ x y. let same : i + 1 - 1 ≡ i = omega arith in let z = sym (ap (code t) same) ∙ y in omega (arith, a, z) }

  pub ended_outside : {i j : ℕ} → BreakOrEnd t i j → NotWithinBreak t j
  ended_outside (by_break b) = break_outside b
  ended_outside (by_end {i = i} e) = record { apart = λ x y. let z = code-past t i (omega (arith, e)) in omega (arith, x, z) }

  pub rest_outside : {i j : ℕ} {x : List CommentValue} → LineRest t i j x → NotWithinBreak t j
  rest_outside (nothing e) = ended_outside e
  rest_outside (whites s e) = ended_outside e
  rest_outside (comment s d e) = ended_outside e

  line_outside : {i j : ℕ} {x : List CommentValue} → CommentLine t i j x → NotWithinBreak t j
  line_outside (whites_line s e) = ended_outside e
  line_outside (comment_line s d e) = ended_outside e

  lines_outside : {i j : ℕ} {x : List CommentValue} → NotWithinBreak t i → Chain (CommentLine t) i j x → NotWithinBreak t j
  lines_outside n done = n
  lines_outside n (step s c) = lines_outside (line_outside s) c

  start_outside : IsUtf8 t → {i : ℕ} → LineStart t i → NotWithinBreak t i
  start_outside u at_text = record { apart = λ x y. let same : 0 - 1 ≡ 0 = omega arith in let z = sym (ap (code t) same) ∙ y in omega (arith, x, z) }
  start_outside u (after_break b) = break_outside b
  start_outside u (after_mark {i = i} s m) = record {
    apart = λ x y.
        let n = next_later t i in
        let back : next t (next t i - 1) ≡ next t i = next_ascii t (next t i - 1) (omega (arith, y)) ∙ (omega (arith, n)) in
        let same : next t i - 1 ≡ i = same_place t (next t i - 1) i u (omega (arith, y)) (omega (arith, m)) back in
        let z = sym (ap (code t) same) ∙ y in
        omega (arith, m, z);
  }

  pub outside_end : IsUtf8 t → {i j : ℕ} {x : List CommentValue} → LineEnd t i j x → NotWithinBreak t j
  outside_end u (past_rest r c) = lines_outside (rest_outside r) c
  outside_end u (from_start s c) = lines_outside (start_outside u s) c

  -- no comment line follows the longest end of a line
  pub chosen_still : {i k : ℕ} {ds : List CommentValue} → Chosen (LineEnd t i) k ds → Stuck (Row t k)
  chosen_still {i} {k} {ds} d = record {
    none = λ j x r.
        let c = line_end_rows d.derived in
        let later = r.later in
        let far = chain_forward row_functional c in
        let more = rows_line_end (chain_more c r) (omega (arith, later, far)) in
        let l = d.longest j _ more in
        omega (arith, l, later);
  }

-- the columns that await a `:`
counted_if : (b : Bool) (w : ℕ) (ws : List ℕ) → length (column_if b w ws) ≡ 0 → (b ≡ true → ⊥) × (length ws ≡ 0)
counted_if true w ws e = absurd (omega (arith, e))
counted_if false w ws e = ((λ q. true≢false (sym q)), e)

awaits_counted : {n m : ℕ} {fs : List Frame} {ls : List Layer} → FramesTied n fs ls → length (asked ls) ≡ 0 → AwaitsAt m fs → ⊥
awaits_counted no_frames e a = elim a [ ]
awaits_counted (frame_tied {l = l} {ls = ls} f r) e (awaits_here c y) = (counted_if (asks l.stage) l.column (asked ls) e).0 (sym f.awaits ∙ y)
awaits_counted (frame_tied {l = l} {ls = ls} f r) e (awaits_round b y) = awaits_counted r (counted_if (asks l.stage) l.column (asked ls) e).1 y

pub colons_counted : {n : ℕ} {ls : List Layer} {frames : List Frame} {progress : BlockCursor} {halt : Option ParsedNode} → StackTied n ls frames progress halt → ColonsCounted progress.colons frames
colons_counted s = λ e m a. awaits_counted s.frames_tied (sym s.colons ∙ e) a

-- a node, and the nodes made of it, end at one offset
pub rounds_end : (ls : List Layer) (f : ParsedNode) → (rounds ls f).end ≡ f.end
rounds_end [] f = refl
rounds_end (l ∷ ls) f = rounds_end ls (collection_made l (entry_made l.stage f)) ∙ entry_end l.stage f

-- the last line of those that begin after an offset
module _ {t : List ℕ} {i k p : ℕ} where
  pub last_line_of : LastStart t i k p → LastLine t i k p
  last_line_of l = record {
    from = l.begins;
    ends = l.ended;
    first = l.later;
    inside = l.earlier;
    last = λ g h a d. ⊎_elim
        (λ (b : h < k). let first = l.later in let end = break_forward l.ended in let far = break_forward d in let last = l.last g h (omega (arith, first, end, a)) d b in absurd (omega (arith, far, last, a)))
        (λ (b : k ≤ h). b)
        (cases_lt h k);
  }

pub no_last_line : {t : List ℕ} {i k : ℕ} → NoStart t i k → (j : ℕ) → LastLine t i k j → ⊥
no_last_line n j l = n l.from j l.first l.ends l.inside

-- all may end up to the end of a line, from i to k
module _ {t : List ℕ} (u : IsUtf8 t) {n : ℕ} {ls : List Layer} {frames : List Frame} (f : FramesTied n frames ls) (o : LayersDeepen ls) {i k : ℕ} {ds : List CommentValue} (d : Chosen (LineEnd t i) k ds) where
  pub may_end_at : (AwaitedColon t k frames → ⊥) → Chosen (MayEnd t (asked ls) i) k ds
  may_end_at none = may_end_chosen d (allowed_there f o (λ m c a. none (record { column = m; line = c; awaits = a })))

  pub not_allowed : AwaitedColon t k frames → NoColonAt t k (asked ls) → ⊥
  not_allowed a = refused_there f a.awaits a.line

  pub may_end_before : (LineStart t i → ⊥) → AwaitedColon t k frames → {p : ℕ} → LastStart t i k p → LinesWithoutLast t (asked ls) i p
  may_end_before s a l = lines_without_last u s d (not_allowed a) (last_line_of l)

  pub may_end_nowhere : (LineStart t i → ⊥) → AwaitedColon t k frames → NoStart t i k → Stuck (MayEnd t (asked ls) i)
  may_end_nowhere s a l = one_line_alone u s d (not_allowed a) (no_last_line l)
