-- If the reader finds a node at a character on a line, it also finds the node when it is awaited before that character,
-- with the comments of the separation.
use Rattle.std.proofs.Common.{◌≡◌, ℕ, ℤ, pos, ◌+ℤ◌, ◌<◌, Bool, false, inr, List, [], Option, Some, None, refl, sym, ap, ◌∙◌, subst}
use Rattle.yf_chars.specs.declared.context.Ctx.{Ctx}
use Rattle.yf_lines.specs.Basic.{is_key, Clear}
use Rattle.yf_comments.specs.Comment.{CommentValue}
use Rattle.yf_comments.specs.Comments.{Separate}
use Rattle.yf_grammar.specs.Productions.Meaning.{Meaning, meaning_after}
use Rattle.yf_grammar.specs.FlowReader.Parser.{ParsedNode}
use Rattle.yf_grammar.specs.BlockReader.BlockParser.{Columns, Ahead, headed, past, Awaited, Inline, Whole}
use Rattle.yf_grammar.specs.BlockReader.Halts.{Halts}
use Rattle.yf_grammar.proofs.Ends.GapLemmas.{Visible}
use Rattle.yf_grammar.proofs.FlowReader.Longest.{Longest}
use Rattle.yf_grammar.proofs.FlowReader.ParserLemmas.{after_nothing}
use Rattle.yf_grammar.proofs.BlockOutcomes.BlockClaims.{IsFound, Unheld}
use Rattle.yf_grammar.proofs.BlockOutcomes.BlockGaps.{Came, on_the_line, on_a_line, CameBelow, came_below, gap_reached, past_unheld}
use Rattle.yf_grammar.proofs.BlockContent.HaltGaps.{HaltsCame, halts_on_the_line, halts_on_a_line, HaltsBelow, halts_there, halts_before, gap_halts}
use Rattle.yf_grammar.proofs.BlockOutcomes.BlockItems.{longest_of, longest_some}
use Rattle.yf_grammar.proofs.BlockOutcomes.OutcomeMade.{told_exact, told_longest, headed_unheld, found_moved, longest_moved}
use Rattle.yf_grammar.proofs.FlowStack.AwaitEntries.{found_is}

-- a node found at an offset reaches it
pub longest_found : {o : Option ParsedNode} {j h : ℕ} {x : Meaning} → IsFound o j h x → Longest o j x
longest_found {o} {j} {h} {x} f = longest_of (record { end = j; height = h; json = false; meaning = x }) (f.is ∙ found_is j h false x) (inr (refl, refl))

-- after an `Ahead` that keeps no comments
plainly : {a : Ahead} {cs : List CommentValue} (x : Meaning) → Unheld a → cs ≡ [] → headed a x ≡ meaning_after cs x
plainly x n e = headed_unheld x n ∙ sym (after_nothing x) ∙ ap (λ w. meaning_after w x) (sym e)

past_is_unheld : {a : Ahead} (cs : List CommentValue) → Unheld a → Unheld (past a cs)
past_is_unheld {a} cs n = subst (λ w. Unheld w) (sym (past_unheld cs n)) n

pub past_headed : {a : Ahead} (cs : List CommentValue) (x : Meaning) → Unheld a → headed (past a cs) x ≡ x
past_headed cs x n = ap (λ w. headed w x) (past_unheld cs n) ∙ headed_unheld x n

module _ {t : List ℕ} {e : ℕ} {n : ℤ} {c : Ctx} {a : Ahead} {k j h : ℕ} {cs : List CommentValue} {o : Option ParsedNode} (x : Meaning) where
  below_exact : {l m : ℕ} → Unheld a → ((cols : Columns) (y : Ahead) → Unheld y → (r : Option ParsedNode) → Whole t e (Inline n c cols y k) r → IsFound r j h (headed y x))
      → CameBelow t e n c a l m k cs o → IsFound o j h (meaning_after cs x)
  below_exact v f (came_below {cols = cols} {r = r} g w q) =
      subst (λ z. IsFound z j h (meaning_after cs x)) (sym q) (told_exact cs v (found_moved refl (past_headed cs x v) (f cols (past a cs) (past_is_unheld cs v) r w)))

  came_exact : {b : Bool} {i : ℕ} → Unheld a → ((cols : Columns) (y : Ahead) → Unheld y → (r : Option ParsedNode) → Whole t e (Inline n c cols y k) r → IsFound r j h (headed y x))
      → Came t e b n c a i k cs o → IsFound o j h (meaning_after cs x)
  came_exact v f (on_the_line {cols = cols} q s g w) = found_moved refl (plainly x v q) (f cols a v o w)
  came_exact {i = i} v f (on_a_line g w y q) = below_exact v f q

  pub gap_exact : {b : Bool} {i : ℕ} (d : Ctx) → is_key d ≡ false → Separate t (n +ℤ pos 1) d i k cs → Visible t k → Clear t i j → k < j → Unheld a
      → ((cols : Columns) (y : Ahead) → Unheld y → (r : Option ParsedNode) → Whole t e (Inline n c cols y k) r → IsFound r j h (headed y x)) → Whole t e (Awaited b n c a i) o
      → IsFound o j h (meaning_after cs x)
  gap_exact d key s v z l q f r = came_exact q f (gap_reached d key s v z l r)

module _ {t : List ℕ} {e : ℕ} {ws : List ℕ} {n : ℤ} {c : Ctx} {a : Ahead} {k j : ℕ} {cs : List CommentValue} {o : Option ParsedNode} (x : Meaning) where
  below_longest : {i l m : ℕ} → Unheld a → ((cols : Columns) (y : Ahead) → Unheld y → (r : Option ParsedNode) → Halts t e ws (Inline n c cols y k) r → Longest r j (headed y x))
      → HaltsBelow t e ws n c a i l m k cs o → Longest o j (meaning_after cs x)
  below_longest v f (halts_there {cols = cols} {f = r} g w q) =
      subst (λ z. Longest z j (meaning_after cs x)) (sym q) (told_longest cs v (longest_moved (past_headed cs x v) (f cols (past a cs) (past_is_unheld cs v) (Some r) w)))
  below_longest v f (halts_before {cols = cols} g w y) = longest_some (f cols (past a cs) (past_is_unheld cs v) None w) refl

  came_longest : {b : Bool} {i : ℕ} → Unheld a → ((cols : Columns) (y : Ahead) → Unheld y → (r : Option ParsedNode) → Halts t e ws (Inline n c cols y k) r → Longest r j (headed y x))
      → HaltsCame t e ws b n c a i k cs o → Longest o j (meaning_after cs x)
  came_longest v f (halts_on_the_line {cols = cols} q s g w) = longest_moved (plainly x v q) (f cols a v o w)
  came_longest v f (halts_on_a_line g w y q) = below_longest v f q

  pub gap_longest : {b : Bool} {i : ℕ} (d : Ctx) → is_key d ≡ false → Separate t (n +ℤ pos 1) d i k cs → Visible t k → Clear t i j → k < j → Unheld a
      → ((cols : Columns) (y : Ahead) → Unheld y → (r : Option ParsedNode) → Halts t e ws (Inline n c cols y k) r → Longest r j (headed y x)) → Halts t e ws (Awaited b n c a i) o
      → Longest o j (meaning_after cs x)
  gap_longest d key s v z l q f r = came_longest q f (gap_halts d key s v z l r)
