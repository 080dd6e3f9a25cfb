-- The end and the meaning of a line's rest are unique, and comment lines are a chain of such rests.
use Rattle.std.proofs.Common.{◌≡◌, ◌≢◌, ℕ, ◌+◌, ◌<◌, ◌≤◌, Bool, true, false, ◌⊎◌, inl, inr, ⊎_elim, List, [], ◌∷◌, ◌++◌, length, slice_range, refl, sym, ap, ◌∙◌, subst, arith, MatchBool}
use Rattle.std.proofs.lemmas.Bool.{cases_lt}
use Rattle.yf_chars.specs.Text.{code, no_char, CharAt}
use Rattle.yf_chars.specs.Class.{is_white, is_nb_char, is_printable, is_between, is_break_char}
use Rattle.yf_chars.specs.Chain.{Functional, Stuck, Nowhere, Many}
use Rattle.yf_chars.specs.Chain.Chain.{done}
use Rattle.yf_chars.proofs.TextLemmas.{code-end}
use Rattle.yf_chars.proofs.ChainLemmas.{chain_forward, one_functional, many_chosen, many_more, many_unique}
use Rattle.yf_lines.specs.Basic.{Break, LineStart, SeparateInLine}
use Rattle.yf_lines.specs.Basic.SeparateInLine.{by_whites, at_start}
use Rattle.yf_lines.specs.Basic.LineStart.{after_break}
use Rattle.yf_lines.proofs.BasicLemmas.{break_char, break_forward, break_unique}
use Rattle.yf_comments.specs.Comment.{CommentValue}
use Rattle.yf_comments.specs.Comments.{BlankBefore, HasBlankNote, CommentText, BreakOrEnd, LineRest, Row}
use Rattle.yf_comments.specs.Comments.HasBlankNote.{noted, not_noted}
use Rattle.yf_comments.specs.Comments.CommentText.{comment_text}
use Rattle.yf_comments.specs.Comments.BreakOrEnd.{by_break, by_end}
use Rattle.yf_comments.specs.Comments.LineRest.{nothing, whites, comment}

-- characters that are neither white space nor part of a comment
pub hash_white : (c : ℕ) → c ≡ 35 → is_white c ≡ false
unfolding is_white
hash_white c e = ap is_white e

break_white : (c : ℕ) → (c ≡ 13) ⊎ (c ≡ 10) → is_white c ≡ false
unfolding is_white
break_white c (inl e) = ap is_white e
break_white c (inr e) = ap is_white e

none_white : (c : ℕ) → c ≡ no_char → is_white c ≡ false
unfolding is_white
none_white c e = ap is_white e

break_nb : (c : ℕ) → (c ≡ 13) ⊎ (c ≡ 10) → is_nb_char c ≡ false
unfolding is_nb_char is_printable is_between is_break_char
break_nb c (inl e) = ap is_nb_char e
break_nb c (inr e) = ap is_nb_char e

pub none_nb : (c : ℕ) → c ≡ no_char → is_nb_char c ≡ false
unfolding is_nb_char is_printable is_between is_break_char
none_nb c e = ap is_nb_char e

pub end_code : (t : List ℕ) {i : ℕ} → i ≡ length t → code t i ≡ no_char
end_code t e = ap (code t) e ∙ code-end t

module _ {t : List ℕ} where
  pub end_white : {i j : ℕ} → BreakOrEnd t i j → is_white (code t i) ≡ false
  end_white {i} (by_break b) = break_white (code t i) (break_char b)
  end_white {i} (by_end e) = none_white (code t i) (end_code t e)

  pub end_nb : {i j : ℕ} → BreakOrEnd t i j → is_nb_char (code t i) ≡ false
  end_nb {i} (by_break b) = break_nb (code t i) (break_char b)
  end_nb {i} (by_end e) = none_nb (code t i) (end_code t e)

  end_hash : {i j : ℕ} → code t i ≡ 35 → BreakOrEnd t i j → ⊥
  end_hash e (by_break b) = ⊎_elim (λ (h : _ ≡ 13). absurd (omega arith)) (λ (h : _ ≡ 10). absurd (omega arith)) (break_char b)
  end_hash e (by_end f) = let g = end_code t f in absurd (omega arith)

  pub break_or_end_forward : {i j : ℕ} → BreakOrEnd t i j → i ≤ j
  break_or_end_forward (by_break b) = let h = break_forward b in omega arith
  break_or_end_forward (by_end e) = omega arith

  break_not_end : {i j : ℕ} → Break t i j → i ≡ length t → ⊥
  break_not_end b e = let g = end_code t e in
      ⊎_elim (λ (h : _ ≡ 13). absurd (omega arith)) (λ (h : _ ≡ 10). absurd (omega arith)) (break_char b)

  pub end_unique : {i j k : ℕ} → BreakOrEnd t i j → BreakOrEnd t i k → j ≡ k
  end_unique (by_break a) (by_break b) = break_unique a b
  end_unique (by_break a) (by_end e) = absurd (break_not_end a e)
  end_unique (by_end e) (by_break a) = absurd (break_not_end a e)
  end_unique (by_end e) (by_end f) = refl

  -- the next line begins there or the text ends
  pub end_next : {i j : ℕ} → BreakOrEnd t i j → LineStart t j ⊎ (j ≡ length t)
  end_next (by_break b) = inl (after_break b)
  end_next (by_end e) = inr e

  pub noted_unique : {i : ℕ} {a b : Bool} → HasBlankNote t i a → HasBlankNote t i b → a ≡ b
  noted_unique (noted p) (noted q) = refl
  noted_unique (noted p) (not_noted q) = absurd (q p)
  noted_unique (not_noted p) (noted q) = absurd (p q)
  noted_unique (not_noted p) (not_noted q) = refl

  pub text_hash : {i j : ℕ} {x : List CommentValue} → CommentText t i j x → code t i ≡ 35
  text_hash (comment_text e m n) = e

  text_later : {i j : ℕ} {x : List CommentValue} → CommentText t i j x → i < j
  text_later (comment_text e m n) = let h = chain_forward (one_functional t is_nb_char) m in omega arith

  pub text_unique : {i j k : ℕ} {x y : List CommentValue} → CommentText t i j x → is_nb_char (code t j) ≡ false
      → CommentText t i k y → is_nb_char (code t k) ≡ false → (j ≡ k) × (x ≡ y)
  text_unique {i} (comment_text {j = j} {b = a} e m n) p (comment_text {j = k} {b = b} f l o) q =
      let same : j ≡ k = (many_unique t is_nb_char m p l q).0 in
      let note : a ≡ b = noted_unique n o in
      (same, cc)

  pub separate_whites : {i j : ℕ} → SeparateInLine t i j → (w : List ℕ) × Many t is_white i j w
  separate_whites (by_whites {x = x} m l) = (x, m)
  separate_whites (at_start s) = ([], done)

-- the rest of a line, by the end of its white space
data RestView (t : List ℕ) : ℕ → ℕ → List CommentValue → Type 0 where
  bare_view : {i h j : ℕ} {w : List ℕ} → Many t is_white i h w → BreakOrEnd t h j → RestView t i j []
  comment_view : {i h k j : ℕ} {w : List ℕ} {x : List CommentValue} → Many t is_white i h w → CommentText t h k x → BreakOrEnd t k j → RestView t i j x

module _ {t : List ℕ} where
  rest_view : {i j : ℕ} {x : List CommentValue} → LineRest t i j x → RestView t i j x
  rest_view (nothing e) = bare_view done e
  rest_view (whites s e) = bare_view (separate_whites s).1 e
  rest_view (comment s c e) = comment_view (separate_whites s).1 c e

  view_unique : {i j k : ℕ} {x y : List CommentValue} → RestView t i j x → RestView t i k y → (j ≡ k) × (x ≡ y)
  view_unique (bare_view {h = h} {j = j} m e) (bare_view {h = g} {j = k} n f) =
      let same : h ≡ g = (many_unique t is_white m (end_white e) n (end_white f)).0 in
      let f' : BreakOrEnd t h k = subst (λ v. BreakOrEnd t v k) (sym same) f in
      (end_unique e f', refl)
  view_unique (bare_view {h = h} m e) (comment_view {h = g} n c f) =
      let same : g ≡ h = (many_unique t is_white n (hash_white (code t g) (text_hash c)) m (end_white e)).0 in
      absurd (end_hash (ap (code t) (sym same) ∙ text_hash c) e)
  view_unique (comment_view {h = g} n c f) (bare_view {h = h} m e) =
      let same : g ≡ h = (many_unique t is_white n (hash_white (code t g) (text_hash c)) m (end_white e)).0 in
      absurd (end_hash (ap (code t) (sym same) ∙ text_hash c) e)
  view_unique (comment_view {h = h} {k = k} {j = j} {x = x} m c e) (comment_view {h = g} {k = l} {j = o} {x = y} n d f) =
      let same : h ≡ g = (many_unique t is_white m (hash_white (code t h) (text_hash c)) n (hash_white (code t g) (text_hash d))).0 in
      let d' : CommentText t h l y = subst (λ v. CommentText t v l y) (sym same) d in
      let both = text_unique c (end_nb e) d' (end_nb f) in
      let f' : BreakOrEnd t k o = subst (λ v. BreakOrEnd t v o) (sym both.0) f in
      (end_unique e f', both.1)

  view_forward : {i j : ℕ} {x : List CommentValue} → RestView t i j x → (i ≤ j) × (j ≡ i → x ≡ [])
  view_forward (bare_view m e) =
      let a = chain_forward (one_functional t is_white) m in
      let b = break_or_end_forward e in
      (omega arith, λ _. refl)
  view_forward (comment_view m c e) =
      let a = chain_forward (one_functional t is_white) m in
      let b = break_or_end_forward e in
      let d = text_later c in
      (omega arith, λ (same : _ ≡ _). absurd (omega arith))

  pub rest_unique : {i j k : ℕ} {x y : List CommentValue} → LineRest t i j x → LineRest t i k y → (j ≡ k) × (x ≡ y)
  rest_unique r s = view_unique (rest_view r) (rest_view s)

  pub row_functional : Functional (Row t)
  row_functional = record {
    one_end = λ a b. (rest_unique a.rest b.rest).0;
    one_meaning = λ a b. (rest_unique a.rest b.rest).1;
    forward = λ a. a.later;
  }

  -- an empty rest has no comment
  pub rest_still : {i j : ℕ} {x : List CommentValue} → LineRest t i j x → j ≤ i → (j ≡ i) × (x ≡ [])
  rest_still r l =
      let f = view_forward (rest_view r) in
      let e : _ ≡ _ = omega arith in
      (e, f.1 e)

  no_whites : {i h : ℕ} {w : List ℕ} → Many t is_white i h w → i ≡ length t → h ≡ i
  no_whites {i} {h} m e =
      let c = many_chosen t is_white (done {i = i}) (none_white (code t i) (end_code t e)) in
      let a = c.longest h _ m in
      let b = chain_forward (one_functional t is_white) m in
      omega arith

  view_at_end : {i j : ℕ} {x : List CommentValue} → RestView t i j x → i ≡ length t → i < j → ⊥
  view_at_end {i} {j} (bare_view m e) f l =
      let same = no_whites m f in
      let e' : BreakOrEnd t i j = subst (λ v. BreakOrEnd t v j) same e in
      let still = end_unique e' (by_end f) in
      absurd (omega arith)
  view_at_end (comment_view m c e) f l =
      let same = no_whites m f in
      let g = end_code t (same ∙ f) in
      let h = text_hash c in
      absurd (omega arith)

  pub rest_at_end : {i j : ℕ} {x : List CommentValue} → LineRest t i j x → i ≡ length t → i < j → ⊥
  rest_at_end r e l = view_at_end (rest_view r) e l

  -- the white space at the start of a rest ends before the rest does, or with it at the end of the text
  view_tail : {i j k : ℕ} {w : List ℕ} {x : List CommentValue} → Many t is_white i j w → RestView t i k x
      → (j ≤ k) × (j ≡ k → (x ≡ []) × (k ≡ length t))
  view_tail {j = j} {k = k} {w = w} m (bare_view {h = h} n e) =
      let a = (many_chosen t is_white n (end_white e)).longest j w m in
      let b = break_or_end_forward e in
      (omega arith, λ (same : j ≡ k). (refl, still_end (omega arith) e))
    where
      still_end : {h k : ℕ} → k ≤ h → BreakOrEnd t h k → k ≡ length t
      still_end l (by_break b) = let f = break_forward b in absurd (omega arith)
      still_end l (by_end e) = e
  view_tail {j = j} {k = k} {w = w} m (comment_view {h = h} n c e) =
      let a = (many_chosen t is_white n (hash_white (code t h) (text_hash c))).longest j w m in
      let b = break_or_end_forward e in
      let d = text_later c in
      (omega arith, λ (same : j ≡ k). absurd (omega arith))

  pub rest_tail : {i j k : ℕ} {w : List ℕ} {x : List CommentValue} → Many t is_white i j w → LineRest t i k x
      → (j ≤ k) × (j ≡ k → (x ≡ []) × (k ≡ length t))
  rest_tail m r = view_tail m (rest_view r)

  -- nothing is left of a line
  view_hash : {i h k : ℕ} {w : List ℕ} {x : List CommentValue} → Many t is_white i h w → CommentText t h k x → is_nb_char (code t k) ≡ false
      → Nowhere (BreakOrEnd t k) → {j : ℕ} {y : List CommentValue} → RestView t i j y → ⊥
  view_hash {h = h} m c n none (bare_view {h = g} o e) =
      let same = (many_unique t is_white m (hash_white (code t h) (text_hash c)) o (end_white e)).0 in
      end_hash (ap (code t) (sym same) ∙ text_hash c) e
  view_hash {h = h} {k = k} m c n none (comment_view {h = g} {k = l} {j = j} {x = y} o d e) =
      let same = (many_unique t is_white m (hash_white (code t h) (text_hash c)) o (hash_white (code t g) (text_hash d))).0 in
      let d' : CommentText t h l y = subst (λ v. CommentText t v l y) (sym same) d in
      let both = text_unique c n d' (end_nb e) in
      none.none j (subst (λ v. BreakOrEnd t v j) (sym both.0) e)

  pub stuck_after_comment : {i h k : ℕ} {x : List CommentValue} → SeparateInLine t i h → CommentText t h k x → is_nb_char (code t k) ≡ false
      → Nowhere (BreakOrEnd t k) → Stuck (LineRest t i)
  stuck_after_comment s c n none = record { none = λ j y r. view_hash (separate_whites s).1 c n none (rest_view r) }

  view_bare : {i h : ℕ} {w : List ℕ} → Many t is_white i h w → is_white (code t h) ≡ false → code t h ≢ 35
      → Nowhere (BreakOrEnd t h) → {j : ℕ} {y : List CommentValue} → RestView t i j y → ⊥
  view_bare {h = h} m s n none (bare_view {h = g} {j = j} o e) =
      let same = (many_unique t is_white m s o (end_white e)).0 in
      none.none j (subst (λ v. BreakOrEnd t v j) (sym same) e)
  view_bare {h = h} m s n none (comment_view {h = g} o d e) =
      let same = (many_unique t is_white m s o (hash_white (code t g) (text_hash d))).0 in
      n (ap (code t) same ∙ text_hash d)

  pub stuck_after_whites : {i h : ℕ} → SeparateInLine t i h → is_white (code t h) ≡ false → code t h ≢ 35
      → Nowhere (BreakOrEnd t h) → Stuck (LineRest t i)
  stuck_after_whites s w n none = record { none = λ j y r. view_bare (separate_whites s).1 w n none (rest_view r) }

  -- neither white space nor the start of a line
  pub no_separation : {i j : ℕ} → is_white (code t i) ≡ false → (LineStart t i → ⊥) → SeparateInLine t i j → ⊥
  no_separation {i} {j} w n (by_whites {x = x} m l) =
      let c = (many_chosen t is_white (done {i = i}) w).longest j x m in
      absurd (omega arith)
  no_separation w n (at_start s) = n s

  rest_alone : {i j : ℕ} {x : List CommentValue} → ((h : ℕ) → SeparateInLine t i h → ⊥) → Nowhere (BreakOrEnd t i) → LineRest t i j x → ⊥
  rest_alone {j = j} n none (nothing e) = none.none j e
  rest_alone n none (whites {h = h} s e) = n h s
  rest_alone n none (comment {h = h} s c e) = n h s

  pub stuck_alone : {i : ℕ} → ((h : ℕ) → SeparateInLine t i h → ⊥) → Nowhere (BreakOrEnd t i) → Stuck (LineRest t i)
  stuck_alone n none = record { none = λ j x r. rest_alone n none r }

  pub separate_from : {i h : ℕ} {w : List ℕ} → Many t is_white i h w → LineStart t i → SeparateInLine t i h
  separate_from {i} {h} m s =
      let l = chain_forward (one_functional t is_white) m in
      ⊎_elim (λ (a : i < h). by_whites m a)
      (λ (a : h ≤ i). let e : i ≡ h = omega arith in subst (λ v. SeparateInLine t i v) e (at_start s))
      (cases_lt i h)

-- one more character of a run, as a reader takes it
pub many_read : {t : List ℕ} {p : ℕ → Bool} {i j c k : ℕ} {x : List ℕ} → Many t p i j x → CharAt t j c k → p c ≡ true → (y : List ℕ) × Many t p i k y
many_read {t} {p} {i} {j} {c} {k} {x} m r e =
    let more = many_more t p m (ap p r.char ∙ e) in
    (x ++ code t j ∷ [], subst (λ v. Many t p i v (x ++ code t j ∷ [])) r.end more)

pub noted_from : {t : List ℕ} {i : ℕ} (b : Bool) → MatchBool b (BlankBefore t i) (BlankBefore t i → ⊥) → HasBlankNote t i b
noted_from true h = noted h
noted_from false h = not_noted h

pub text_from : {t : List ℕ} {i j : ℕ} (x : List ℕ) (b : Bool) → code t i ≡ 35 → (y : List ℕ) × Many t is_nb_char (i + 1) j y
    → x ≡ slice_range t i j → MatchBool b (BlankBefore t i) (BlankBefore t i → ⊥)
    → CommentText t i j (record { text = x; offset = i; blank_before = b } ∷ [])
text_from {t} {i} {j} x b e m s h =
    subst (λ v. CommentText t i j (record { text = v; offset = i; blank_before = b } ∷ [])) (sym s) (comment_text e m.1 (noted_from b h))

module _ {t : List ℕ} where
  end_moves : {i j : ℕ} → BreakOrEnd t i j → (i < j) ⊎ (i ≡ length t)
  end_moves (by_break b) = inl (break_forward b)
  end_moves (by_end e) = inr e

  view_moves : {i j : ℕ} {x : List CommentValue} → RestView t i j x → i < length t → i < j
  view_moves (bare_view m e) l =
      let a = chain_forward (one_functional t is_white) m in
      let b = break_or_end_forward e in
      ⊎_elim (λ (h : _ < _). omega arith) (λ (h : _ ≡ length t). omega arith) (end_moves e)
  view_moves (comment_view m c e) l =
      let a = chain_forward (one_functional t is_white) m in
      let b = break_or_end_forward e in
      let d = text_later c in
      omega arith

  pub rest_moves : {i j : ℕ} {x : List CommentValue} → LineRest t i j x → i < length t → i < j
  rest_moves r l = view_moves (rest_view r) l

  pub stuck_at_solid : {i h : ℕ} {w : List ℕ} → Many t is_white i h w → is_white (code t h) ≡ false → code t h ≢ 35
      → Nowhere (BreakOrEnd t h) → Stuck (LineRest t i)
  stuck_at_solid m s n none = record { none = λ j y r. view_bare m s n none (rest_view r) }
