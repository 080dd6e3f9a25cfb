-- Laws for the reader of double-quoted scalars.
use Rattle.std.proofs.Common.{◌≡◌, ◌≢◌, ℕ, ◌+◌, Bool, List, [], ◌∷◌, ◌++◌, Option, Some, None, refl, sym, ap, ◌∙◌, subst, inl, inr, arith, append_assoc, append-nil, encode_utf8_all, encode_utf8, SomeIff}
use Rattle.std.proofs.lemmas.Bool.{true≢false}
use Rattle.std.proofs.lemmas.List.Elements.{All-append, All-cons, All-nil}
use Rattle.std.proofs.lemmas.Str.{encodes-append}
use Rattle.std.specs.Char.{IsScalar}
use Rattle.std.specs.List.{All}
use Rattle.std.specs.Str.{IsUtf8, IsCharBoundary}
use Rattle.yf_chars.specs.Text.{code, no_char}
use Rattle.yf_chars.specs.Class.{is_nb_json}
use Rattle.yf_chars.specs.Chain.{Chain}
use Rattle.yf_chars.specs.Chain.Chain.{done}
use Rattle.yf_chars.specs.Escape.{Escape}
use Rattle.yf_chars.proofs.EscapeLemmas.{escape_backslash, escape_no_sign}
use Rattle.yf_chars.proofs.ChainLemmas.{chain_more}
use Rattle.yf_chars.proofs.CharFacts.{end_no_json}
use Rattle.yf_lines.specs.Basic.{Clear}
use Rattle.yf_lines.proofs.BasicLemmas.{clear_join, clear_back}
use Rattle.yf_lines.proofs.ClearLemmas.{clear_char, not_forbidden}
use Rattle.yf_quoted.specs.Quoted.{DoubleChar, Piece, goods, text_of, bad_escapes}
use Rattle.yf_quoted.specs.Quoted.Piece.{good, bad}
use Rattle.yf_quoted.specs.Quoted.DoubleChar.{unescaped, escaped, wrong}
use Rattle.yf_quoted.specs.Body.{Gap, Step, DoubleBreaks, DoubleGap, NoDoubleGap, Simple, NoSimple, NoDoubleChar, DoubleRead, NoDoubleBody, piece, shown, gap_bytes}
use Rattle.yf_quoted.proofs.BodyLemmas.{no_body}
use Rattle.yf_quoted.proofs.DoubleLemmas.{Written, written, double_laws, no_quote_char}
use Rattle.yf_quoted.proofs.DoubleLemmas.Written.{itself, by_escape}

pub no_simple_end : {t : List ℕ} {i : ℕ} → code t i ≡ no_char → NoSimple t i
no_simple_end e = record { none = λ j n m a. true≢false (sym j ∙ ap is_nb_json e ∙ end_no_json) }

-- characters
pub clear_escape : {t : List ℕ} {i j v : ℕ} → Escape t i j v → Clear t i j
clear_escape {t} e = let n = escape_no_sign e in record { none = λ h l m f. let s = n.none h l m in not_forbidden t h s.0 s.1 f }

pub no_char_end : {t : List ℕ} {i : ℕ} → code t i ≡ no_char → NoDoubleChar t i
no_char_end {t} {i} e = record { none = λ j y d a. go (written d) } where
  go : {j : ℕ} {y : List Piece} → Written t i j y → ⊥
  go (itself b q f p x) = true≢false (sym f ∙ ap is_nb_json e ∙ end_no_json)
  go (by_escape v f) = let b = escape_backslash f in omega arith

pub simple_char : {t : List ℕ} {i j c : ℕ} → IsUtf8 t → Simple t i j → code t i ≡ c → DoubleChar t i j (piece (Some c) i ∷ []) × Clear t i j
simple_char {t} {i} {j} u s e =
    let d : DoubleChar t i j (good (code t i) ∷ []) = subst (λ k. DoubleChar t i k (good (code t i) ∷ [])) s.reads.end (unescaped s.json s.no_backslash s.no_quote) in
    (subst (λ w. DoubleChar t i j (good w ∷ [])) e d, clear_char u s.reads s.allowed)

pub escape_char : {t : List ℕ} {i j v : ℕ} (o : Option ℕ) → Escape t i j v → SomeIff o (IsScalar v) v → DoubleChar t i j (piece o i ∷ []) × Clear t i j
escape_char None e s = (wrong e s, clear_escape e)
escape_char {t} {i} {j} (Some c) e s = (subst (λ w. DoubleChar t i j (good w ∷ [])) (sym s.1) (escaped e s.0), clear_escape e)

-- texts of pieces
text_of_append : (x y : List Piece) → text_of (x ++ y) ≡ text_of x ++ text_of y
text_of_append [] y = refl
text_of_append (good c ∷ x) y = ap (λ w. c ∷ w) (text_of_append x y)
text_of_append (bad p ∷ x) y = ap (λ w. 0xFFFD ∷ w) (text_of_append x y)

pub pieces_bytes : (x y : List Piece) → encode_utf8_all (text_of (x ++ y)) ≡ encode_utf8_all (text_of x) ++ encode_utf8_all (text_of y)
pieces_bytes x y = ap encode_utf8_all (text_of_append x y) ∙ encodes-append (text_of x) (text_of y)

pub piece_bytes : (o : Option ℕ) (p : ℕ) → encode_utf8_all (text_of (piece o p ∷ [])) ≡ encode_utf8 (shown o)
piece_bytes (Some c) p = append-nil (encode_utf8 c)
piece_bytes None p = append-nil (encode_utf8 0xFFFD)

-- the bad escapes of two parts
bad_append : (x y : List Piece) → bad_escapes (x ++ y) ≡ bad_escapes x ++ bad_escapes y
bad_append [] y = refl
bad_append (good c ∷ x) y = bad_append x y
bad_append (bad p ∷ x) y = ap (λ w. p ∷ w) (bad_append x y)

-- of a part after one without any
bad_more : (x y z : List Piece) → bad_escapes y ≡ [] → bad_escapes (x ++ (y ++ z)) ≡ bad_escapes x ++ bad_escapes z
bad_more x y z n =
    bad_append x (y ++ z) ∙ ap (λ w. bad_escapes x ++ w) (bad_append y z ∙ ap (λ w. w ++ bad_escapes z) n)

pub bad_none : (x y : List Piece) → bad_escapes y ≡ [] → bad_escapes (x ++ y) ≡ bad_escapes x
bad_none x y n = bad_append x y ∙ ap (λ w. bad_escapes x ++ w) n ∙ append-nil (bad_escapes x)

-- the text so far
pub record SoFar (t : List ℕ) (o : Option ℕ) (i j : ℕ) (bytes wrong : List ℕ) : Type 0 where
  pub text : List Piece
  pub steps : Chain (Step t goods (DoubleChar t) (DoubleBreaks t o)) i j text
  pub is : bytes ≡ encode_utf8_all (text_of text)
  pub escapes : wrong ≡ bad_escapes text

pub nothing_yet : {t : List ℕ} {o : Option ℕ} {bytes wrong : List ℕ} (i : ℕ) → bytes ≡ [] → wrong ≡ [] → SoFar t o i i bytes wrong
nothing_yet i e n = record { text = []; steps = done; is = e; escapes = n }

pub one_more : {t : List ℕ} {o : Option ℕ} {i j blank_end feeds k l : ℕ} {space : Bool} {bytes with_gap with_char wrong noted : List ℕ} (v : Option ℕ)
    → SoFar t o i j bytes wrong → DoubleGap t o j blank_end space feeds k → DoubleChar t k l (piece v k ∷ []) × Clear t k l
    → with_gap ≡ bytes ++ gap_bytes t j blank_end space feeds → with_char ≡ with_gap ++ encode_utf8 (shown v)
    → noted ≡ wrong ++ bad_escapes (piece v k ∷ []) → SoFar t o i l with_char noted
one_more {t} {j = j} {blank_end = blank_end} {feeds = feeds} {k = k} {space = space} v s g c p q n =
    let shape = encode_utf8_all (text_of s.text) in
    record {
      text = s.text ++ (g.text ++ piece v k ∷ []);
      steps = chain_more s.steps (record { at = k; front = g.text; char = piece v k ∷ []; gap = g.gap; is = c.0; clear = clear_join g.clear c.1; text = refl });
      is = q ∙ ap (λ w. w ++ encode_utf8 (shown v)) (p ∙ ap (λ w. w ++ gap_bytes t j blank_end space feeds) s.is ∙ ap (λ w. shape ++ w) g.bytes)
          ∙ append_assoc shape (encode_utf8_all (text_of g.text)) (encode_utf8 (shown v))
          ∙ ap (λ w. shape ++ (encode_utf8_all (text_of g.text) ++ w)) (sym (piece_bytes v k))
          ∙ ap (λ w. shape ++ w) (sym (pieces_bytes g.text (piece v k ∷ []))) ∙ sym (pieces_bytes s.text (g.text ++ piece v k ∷ []));
      escapes = n ∙ ap (λ w. w ++ bad_escapes (piece v k ∷ [])) s.escapes ∙ sym (bad_more s.text g.text (piece v k ∷ []) g.no_bad);
    }

pub closed : {t : List ℕ} {o : Option ℕ} {i j blank_end feeds k : ℕ} {space : Bool} {bytes with_gap wrong : List ℕ}
    → SoFar t o i j bytes wrong → DoubleGap t o j blank_end space feeds k → code t k ≡ 34
    → with_gap ≡ bytes ++ gap_bytes t j blank_end space feeds → DoubleRead t o i with_gap wrong (k + 1)
closed {t} {j = j} {blank_end = blank_end} {feeds = feeds} {k = k} {space = space} s g q p = record {
  text = s.text ++ g.text;
  close = k;
  body = record { at = _; front = s.text; last = g.text; steps = s.steps; gap = g.gap; clear = g.clear; closing = q; text = refl };
  end = refl;
  is = p ∙ ap (λ w. w ++ gap_bytes t j blank_end space feeds) s.is ∙ ap (λ w. encode_utf8_all (text_of s.text) ++ w) g.bytes ∙ sym (pieces_bytes s.text g.text);
  escapes = s.escapes ∙ sym (bad_none s.text g.text g.no_bad);
}

-- nothing goes on
pub no_gap_body : {t : List ℕ} {o : Option ℕ} {i j : ℕ} {bytes wrong : List ℕ} → SoFar t o i j bytes wrong → NoDoubleGap t o j → NoDoubleBody t o i
no_gap_body {t} {o} s n = record {
  none = no_body (double_laws t o) no_quote_char s.steps (record { none = λ k y st. n.none st.at st.front st.gap (inl (k, st.char, st.is)) })
      (λ k y g q. n.none k y g (inr q));
}

pub no_char_body : {t : List ℕ} {o : Option ℕ} {i j blank_end feeds k : ℕ} {space : Bool} {bytes wrong : List ℕ} → SoFar t o i j bytes wrong
    → DoubleGap t o j blank_end space feeds k → code t k ≢ 34 → NoDoubleChar t k → NoDoubleBody t o i
no_char_body {t} {o} {j = j} {k = k} s g q n = record { none = no_body (double_laws t o) no_quote_char s.steps (record { none = stuck }) shut } where
  shut : (h : ℕ) (y : List Piece) → Gap t goods (DoubleBreaks t o) j h y → code t h ≡ 34 → ⊥
  shut h y d e = q (sym (ap (code t) (g.only h y d (inr e)).0) ∙ e)

  stuck : (h : ℕ) (y : List Piece) → Step t goods (DoubleChar t) (DoubleBreaks t o) j h y → ⊥
  stuck h y st =
      let same = g.only st.at st.front st.gap (inl (h, st.char, st.is)) in
      let f = (double_laws t o).order j k g.text g.gap in
      n.none h st.char (subst (λ m. DoubleChar t m h st.char) same.0 st.is) (clear_back f st.clear)

-- offsets of bad escapes
pub bad_places : (t : List ℕ) (v : Option ℕ) {p : ℕ} (old : List ℕ) {noted : List ℕ} → noted ≡ old ++ bad_escapes (piece v p ∷ [])
    → All (IsCharBoundary t) old → IsCharBoundary t p → All (IsCharBoundary t) noted
bad_places t (Some c) {p} old e a b = subst (λ w. All (IsCharBoundary t) w) (sym (e ∙ append-nil old)) a
bad_places t None {p} old e a b =
    let whole = All-append (IsCharBoundary t) old (p ∷ []) a (All-cons (IsCharBoundary t) p [] b (All-nil (IsCharBoundary t))) in
    subst (λ w. All (IsCharBoundary t) w) (sym e) whole
