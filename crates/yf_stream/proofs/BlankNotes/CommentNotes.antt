-- Comments of line ends, separations and properties: each is within them, and has its note with each floor before them.
use Rattle.std.proofs.Common.{◌≡◌, ℕ, ℤ, ◌<◌, ◌≤◌, Bool, true, false, List, [], ◌∷◌, ◌++◌, sym, subst, arith}
use Rattle.std.specs.Str.{IsUtf8}
use Rattle.yf_chars.specs.declared.context.Ctx.{Ctx}
use Rattle.yf_chars.specs.Chain.{Chain}
use Rattle.yf_chars.specs.Chain.Chain.{done, step}
use Rattle.yf_chars.proofs.ChainLemmas.{chain_forward, one_functional}
use Rattle.yf_chars.specs.Class.{is_nb_char, is_white}
use Rattle.yf_chars.specs.Text.{code, no_char}
use Rattle.yf_lines.specs.Basic.{FlowPrefix}
use Rattle.yf_comments.specs.Comment.{CommentValue}
use Rattle.yf_comments.specs.Comments.{is_gap, HasBlankNote, CommentText, LineRest, LineEnd, Row, Separate}
use Rattle.yf_comments.specs.Comments.HasBlankNote.{noted as noted_before, not_noted as not_noted_before}
use Rattle.yf_comments.specs.Comments.CommentText.{comment_text}
use Rattle.yf_comments.specs.Comments.LineRest.{nothing, whites, comment}
use Rattle.yf_comments.specs.Comments.Separate.{in_key, in_node}
use Rattle.yf_comments.specs.Comments.SeparateLines.{in_line, over_lines}
use Rattle.yf_comments.proofs.RowLemmas.{break_or_end_forward}
use Rattle.yf_comments.proofs.LineEndLemmas.{line_end_rows}
use Rattle.yf_comments.proofs.SeparateLemmas.{prefix_whites}
use Rattle.yf_grammar.specs.Productions.Grammar.{MaySeparate, ValueSeparate}
use Rattle.yf_grammar.specs.Productions.Grammar.MaySeparate.{unseparated, separated}
use Rattle.yf_grammar.specs.Productions.ReadParts.{NotedSince}
use Rattle.yf_grammar.specs.Productions.ReadParts.NotedSince.{noted, not_noted}
use Rattle.yf_grammar.proofs.Ends.Forward.{in_line_forward}
use Rattle.yf_grammar.proofs.Ends.SinceKnown.{since_before, since_zero}
use Rattle.yf_stream.proofs.BlankNotes.FloorLemmas.{note_over}

-- a fact of each element
pub data Each {X : Type 0} (P : X → Type 0) : List X → Type 0 where
  no_element : Each P []
  one_element : {x : X} {xs : List X} → P x → Each P xs → Each P (x ∷ xs)

module _ {X : Type 0} {P : X → Type 0} where
  pub each_join : {xs ys : List X} → Each P xs → Each P ys → Each P (xs ++ ys)
  each_join no_element b = b
  each_join (one_element p a) b = one_element p (each_join a b)

  pub each_left : (xs ys : List X) → Each P (xs ++ ys) → Each P xs
  each_left [] ys e = no_element
  each_left (x ∷ xs) ys (one_element p e) = one_element p (each_left xs ys e)

  pub each_weaker : {Q : X → Type 0} {xs : List X} → ((x : X) → P x → Q x) → Each P xs → Each Q xs
  each_weaker f no_element = no_element
  each_weaker f (one_element {x = x} p a) = one_element (f x p) (each_weaker f a)

  pub each_both : {Q R : X → Type 0} {xs : List X} → ((x : X) → P x → Q x → R x) → Each P xs → Each Q xs → Each R xs
  each_both f no_element b = no_element
  each_both f (one_element {x = x} p a) (one_element q b) = one_element (f x p q) (each_both f a b)

-- a comment between two offsets, with its note if no block scalar is before it
pub record NotedComment (t : List ℕ) (i j : ℕ) (c : CommentValue) : Type 0 where
  pub after : i ≤ c.offset
  pub before : c.offset < j
  pub sign : code t c.offset ≡ 35
  pub note : NotedSince t 0 c.offset c.blank_before

-- a floor before an offset, with a visible character between them; or none
pub data Guard (t : List ℕ) (f i : ℕ) : Type 0 where
  no_floor : f ≡ 0 → Guard t f i
  guarded : (p : ℕ) → code t p < no_char → is_gap (code t p) ≡ false → f ≤ p → p < i → Guard t f i

pub guard_later : {t : List ℕ} {f i j : ℕ} → i ≤ j → Guard t f i → Guard t f j
guard_later l (no_floor e) = no_floor e
guard_later l (guarded p r s m n) = guarded p r s m (omega arith)

pub guard_order : {t : List ℕ} {f i : ℕ} → Guard t f i → f ≤ i
guard_order (no_floor e) = omega arith
guard_order (guarded p r s m n) = omega arith

pub since_guarded : {t : List ℕ} {f i o : ℕ} {b : Bool} → IsUtf8 t → Guard t f i → i ≤ o → NotedSince t 0 o b → NotedSince t f o b
since_guarded {t} {o = o} {b = b} u (no_floor e) l k = subst (λ z. NotedSince t z o b) (sym e) k
since_guarded u (guarded p r s m n) l k = note_over u p r s m (omega arith) (omega arith) k

pub told_since : {t : List ℕ} {f i j : ℕ} (c : CommentValue) → IsUtf8 t → Guard t f i → NotedComment t i j c → NotedSince t f c.offset c.blank_before
told_since c u g k = since_guarded u g k.after k.note

note_zero : {t : List ℕ} {i : ℕ} {b : Bool} → HasBlankNote t i b → NotedSince t 0 i b
note_zero (noted_before d) = noted (since_zero d)
note_zero (not_noted_before n) = not_noted (λ d. n (since_before d))

pub told_wider : {t : List ℕ} {h i j k : ℕ} {cs : List CommentValue} → h ≤ i → j ≤ k → Each (NotedComment t i j) cs → Each (NotedComment t h k) cs
told_wider l m e = each_weaker (λ c d. let a = d.after in let b = d.before in record { after = omega arith; before = omega arith; sign = d.sign; note = d.note }) e

module _ {t : List ℕ} where
  text_told : {i j : ℕ} {x : List CommentValue} → CommentText t i j x → Each (NotedComment t i j) x
  text_told (comment_text e m n) =
      let f = chain_forward (one_functional t is_nb_char) m in one_element (record { after = omega arith; before = omega arith; sign = e; note = note_zero n }) no_element

  pub rest_told : {i j : ℕ} {x : List CommentValue} → LineRest t i j x → Each (NotedComment t i j) x
  rest_told (nothing e) = no_element
  rest_told (whites s e) = no_element
  rest_told (comment s c e) = told_wider (in_line_forward s) (break_or_end_forward e) (text_told c)

  pub rows_order : {i j : ℕ} {x : List CommentValue} → Chain (Row t) i j x → i ≤ j
  rows_order done = omega arith
  rows_order (step r c) = let l = r.later in let f = rows_order c in omega arith

  pub rows_told : {i j : ℕ} {x : List CommentValue} → Chain (Row t) i j x → Each (NotedComment t i j) x
  rows_told done = no_element
  rows_told (step r c) =
      let l = r.later in
      let f = rows_order c in
      each_join (told_wider (omega arith) f (rest_told r.rest)) (told_wider (omega arith) (omega arith) (rows_told c))

  pub line_told : {i j : ℕ} {x : List CommentValue} → LineEnd t i j x → Each (NotedComment t i j) x
  line_told d = rows_told (line_end_rows d)

  prefix_order : {n : ℤ} {i j : ℕ} → FlowPrefix t n i j → i ≤ j
  prefix_order p = chain_forward (one_functional t is_white) (prefix_whites p).1

  pub separate_told : {n : ℤ} {c : Ctx} {i j : ℕ} {x : List CommentValue} → Separate t n c i j x → Each (NotedComment t i j) x
  separate_told (in_key e s) = no_element
  separate_told (in_node e (in_line s)) = no_element
  separate_told (in_node e (over_lines d p)) = told_wider (omega arith) (prefix_order p) (line_told d)

  pub may_told : {n : ℤ} {c : Ctx} {i j : ℕ} {x : List CommentValue} → MaySeparate t n c i j x → Each (NotedComment t i j) x
  may_told unseparated = no_element
  may_told (separated s) = separate_told s

  pub value_told : (n : ℤ) (c : Ctx) (i j : ℕ) (x : List CommentValue) (json : Bool) → ValueSeparate json t n c i j x → Each (NotedComment t i j) x
  value_told n c i j x true s = may_told s
  value_told n c i j x false s = separate_told s
