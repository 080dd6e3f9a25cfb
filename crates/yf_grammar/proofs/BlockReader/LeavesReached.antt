-- From each offset, each leaf production has a longest part with one meaning, or no part: that cannot be refuted. A
-- derived part ends within the text, or at its start.
use Rattle.std.proofs.Common.{◌≡◌, ℕ, ℤ, ◌+◌, ◌≤◌, ⊎_elim, Bool, true, false, List, [], ◌++◌, length, refl, sym, ap, ◌∙◌, arith, true≢false, append-nil}
use Rattle.std.proofs.lemmas.Bool.{cases_Bool}
use Rattle.std.specs.Str.{IsUtf8}
use Rattle.yf_chars.specs.declared.context.Ctx.{Ctx}
use Rattle.yf_chars.specs.Text.{code, next, begins, no_char}
use Rattle.yf_chars.specs.Class.{is_white}
use Rattle.yf_chars.specs.Chain.{Chain, Many, Functional}
use Rattle.yf_chars.specs.Chain.One.{one}
use Rattle.yf_chars.specs.Chain.Chain.{done, step}
use Rattle.yf_chars.proofs.TextLemmas.{code-nowhere, reads_there}
use Rattle.yf_chars.proofs.ChainLemmas.{chain_forward, chain_meet, Meets, one_functional}
use Rattle.yf_chars.proofs.ChainLemmas.Meets.{goes_on, falls_short}
use Rattle.yf_lines.specs.Basic.{is_flow, SeparateInLine}
use Rattle.yf_lines.specs.Basic.SeparateInLine.{by_whites, at_start}
use Rattle.yf_lines.proofs.LineLemmas.{break_within}
use Rattle.yf_comments.specs.Comment.{CommentValue}
use Rattle.yf_comments.specs.Comments.{BreakOrEnd, LineRest, LineEnd, Row, SeparateLines, Separate}
use Rattle.yf_comments.specs.Comments.BreakOrEnd.{by_break, by_end}
use Rattle.yf_comments.specs.Comments.LineRest.{nothing, whites, comment}
use Rattle.yf_comments.specs.Comments.SeparateLines.{in_line, over_lines}
use Rattle.yf_comments.specs.Comments.Separate.{in_key, in_node}
use Rattle.yf_comments.proofs.RowLemmas.{row_functional, rest_tail, separate_whites}
use Rattle.yf_comments.proofs.LineEndLemmas.{line_end_rows, rows_ended}
use Rattle.yf_comments.proofs.SeparateLemmas.{prefix_whites}
use Rattle.yf_plain.specs.Plain.{Plain}
use Rattle.yf_plain.proofs.LineLemmas.{plain_unique}
use Rattle.yf_props.specs.Names.{Alias}
use Rattle.yf_props.proofs.NameLemmas.{alias_unique}
use Rattle.yf_grammar.proofs.Ends.Irrefutable.{Irrefutable, ChosenOrStuck, one_reached, bounded_reached}
use Rattle.yf_grammar.proofs.FlowReader.PlainEnds.{plain_after}
use Rattle.yf_chars.proofs.CharFacts.{end_no_white}

-- two chains with one start and one end have one meaning
chain_still : {A : Type 0} {S : ℕ → ℕ → List A → Type 0} {i j : ℕ} {x : List A} → Functional S → Chain S i j x → j ≤ i → x ≡ []
chain_still f done l = refl
chain_still f (step s c) l = let a = f.forward s in let b = chain_forward f c in absurd (omega arith)

pub chain_one_meaning : {A : Type 0} {S : ℕ → ℕ → List A → Type 0} {i j : ℕ} {x y : List A} → Functional S → Chain S i j x → Chain S i j y → y ≡ x
chain_one_meaning {S = S} {j = j} f c d = go (chain_meet f c d) where
  go : {x y : List _} → Meets S j j x y → y ≡ x
  go {x} (goes_on z e q) = q ∙ ap (λ w. x ++ w) (chain_still f e (omega arith)) ∙ append-nil x
  go {y = y} (falls_short z e q) = sym (q ∙ ap (λ w. y ++ w) (chain_still f e (omega arith)) ∙ append-nil y)

-- within the text, or at the start
pub data Within (t : List ℕ) (i j : ℕ) : Type 0 where
  at_once : j ≡ i → Within t i j
  inside : j ≤ length t → Within t i j

within_join : {t : List ℕ} {i h j : ℕ} → Within t i h → Within t h j → Within t i j
within_join a (inside l) = inside l
within_join (at_once e) (at_once f) = at_once (f ∙ e)
within_join (inside l) (at_once e) = inside (omega arith)

within_far : {t : List ℕ} {i j : ℕ} → Within t i j → j ≤ i + length t
within_far (at_once e) = omega arith
within_far (inside l) = omega arith

module _ {t : List ℕ} (u : IsUtf8 t) where
  one_within : (p : ℕ → Bool) (i : ℕ) → p no_char ≡ false → p (code t i) ≡ true → next t i ≤ length t
  one_within p i n e = ⊎_elim
      (λ (b : begins t i ≡ true). let r = reads_there t i u b in r.within)
      (λ (b : begins t i ≡ false). absurd (true≢false (sym e ∙ ap p (code-nowhere t i b) ∙ n)))
      (cases_Bool (begins t i))

  many_within : {p : ℕ → Bool} {i j : ℕ} {x : List ℕ} → p no_char ≡ false → Many t p i j x → Within t i j
  many_within n done = at_once refl
  many_within {p} n (step (one {i = i} e) c) = within_join (inside (one_within p i n e)) (many_within n c)

  in_line_within : {i j : ℕ} → SeparateInLine t i j → Within t i j
  in_line_within (by_whites m l) = many_within end_no_white m
  in_line_within (at_start s) = at_once refl

  end_within : {i j : ℕ} → BreakOrEnd t i j → j ≤ length t
  end_within (by_break b) = break_within b
  end_within (by_end e) = omega arith

  rest_within : {i j : ℕ} {x : List CommentValue} → LineRest t i j x → j ≤ length t
  rest_within (nothing e) = end_within e
  rest_within (whites s e) = end_within e
  rest_within (comment s c e) = end_within e

  rows_within : {i j : ℕ} {x : List CommentValue} → Chain (Row t) i j x → Within t i j
  rows_within done = at_once refl
  rows_within (step r c) = within_join (inside (rest_within r.rest)) (rows_within c)

  line_end_within : {i j : ℕ} {x : List CommentValue} → LineEnd t i j x → Within t i j
  line_end_within d = rows_within (line_end_rows d)

  lines_within : {n : ℤ} {i j : ℕ} {x : List CommentValue} → SeparateLines t n i j x → Within t i j
  lines_within (in_line s) = in_line_within s
  lines_within (over_lines d p) = within_join (line_end_within d) (many_within end_no_white (prefix_whites p).1)

  separate_within : {n : ℤ} {c : Ctx} {i j : ℕ} {x : List CommentValue} → Separate t n c i j x → Within t i j
  separate_within (in_key e s) = in_line_within s
  separate_within (in_node e s) = lines_within s

  -- ends of lines, and separations
  pub line_end_reached : (i : ℕ) → Irrefutable (ChosenOrStuck (LineEnd t i))
  line_end_reached i = bounded_reached (LineEnd t i) (i + length t) (λ j x d. within_far (line_end_within d))
      (λ j x y d e. chain_one_meaning row_functional (line_end_rows d) (line_end_rows e))

  pub whites_reached : (i : ℕ) → Irrefutable (ChosenOrStuck (Many t is_white i))
  whites_reached i = bounded_reached (Many t is_white i) (i + length t) (λ j x d. within_far (many_within end_no_white d))
      (λ j x y d e. chain_one_meaning (one_functional t is_white) d e)

  -- rows, and white space after them
  record Tail (i j : ℕ) (y : List CommentValue) : Type 0 where
    place : ℕ
    rows : Chain (Row t) i place y
    run : List ℕ
    whites_run : Many t is_white place j run

  tail_of_line : {n : ℤ} {i j : ℕ} {y : List CommentValue} → SeparateLines t n i j y → Tail i j y
  tail_of_line {i = i} (in_line s) = let w = separate_whites s in record { place = i; rows = done; run = w.0; whites_run = w.1 }
  tail_of_line (over_lines {h = h} d p) = let w = prefix_whites p in record { place = h; rows = line_end_rows d; run = w.0; whites_run = w.1 }

  tail_of : {n : ℤ} {c : Ctx} {i j : ℕ} {y : List CommentValue} → Separate t n c i j y → Tail i j y
  tail_of {i = i} (in_key e s) = let w = separate_whites s in record { place = i; rows = done; run = w.0; whites_run = w.1 }
  tail_of (in_node e s) = tail_of_line s

  -- rows over white space have no comment
  no_comments : {i k j : ℕ} {w v : List ℕ} {z : List CommentValue} → Many t is_white i j w → Chain (Row t) i k z → Many t is_white k j v → z ≡ []
  no_comments m done n = refl
  no_comments {k = k} {j = j} m (step {h = h} {x = x} {y = y} r c) n =
      let a = rest_tail m r.rest in
      let b = chain_forward row_functional c in
      let d = chain_forward (one_functional t is_white) n in
      let e = a.0 in
      let last = a.1 (omega arith) in
      let rest = rows_ended c last.1 in
      rw (last.0, rest.1) refl

  tails_one : {i j : ℕ} {x y : List CommentValue} → Tail i j x → Tail i j y → y ≡ x
  tails_one {i} {j} {x} {y} a b = go (chain_meet row_functional a.rows b.rows) where
    go : Meets (Row t) a.place b.place x y → y ≡ x
    go (goes_on z e q) = q ∙ ap (λ w. x ++ w) (no_comments a.whites_run e b.whites_run) ∙ append-nil x
    go (falls_short z e q) = sym (q ∙ ap (λ w. y ++ w) (no_comments b.whites_run e a.whites_run) ∙ append-nil y)

  pub separate_reached : (n : ℤ) (c : Ctx) (i : ℕ) → Irrefutable (ChosenOrStuck (Separate t n c i))
  separate_reached n c i = bounded_reached (Separate t n c i) (i + length t) (λ j x d. within_far (separate_within d)) (λ j x y d e. tails_one (tail_of d) (tail_of e))

  -- aliases and plain scalars
  pub alias_reached : (i : ℕ) → Irrefutable (ChosenOrStuck (Alias t i))
  alias_reached i = one_reached (Alias t i) (λ j k x y a b. alias_unique a b)

  pub plain_reached : (n : ℤ) (c : Ctx) (i : ℕ) → is_flow c ≡ true → Irrefutable (ChosenOrStuck (Plain t n c i))
  plain_reached n c i f = bounded_reached (Plain t n c i) (length t) (λ j x d. let b = plain_after u d.text in b.reads.within) (λ j x y d e. plain_unique f d e)
