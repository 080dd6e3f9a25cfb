-- The comments of a reading are written as comments, without the white space that ends them.
use Rattle.std.proofs.Common.{◌≡◌, ℕ, ◌<◌, ◌≤◌, Bool, true, false, List, [], ◌∷◌, ◌++◌, refl, sym, ap, ◌∙◌, subst, arith, ⊎_elim}
use Rattle.std.proofs.lemmas.Bool.{cases_lt}
use Rattle.std.proofs.lemmas.Bool.Decides.{nat_tests}
use Rattle.std.proofs.lemmas.Str.{encode_ascii}
use Rattle.std.specs.Prelude.{◌&&◌, if◌then◌else◌}
use Rattle.std.specs.List.{list_all}
use Rattle.std.specs.Str.{IsUtf8}
use lib.Utf8.{encode, encodes}
use Rattle.yf_chars.specs.Class.{is_white}
use Rattle.yf_chars.proofs.TextLemmas.{reads_byte}
use Rattle.yf_lines.specs.LineText.{AllNb, IsLineText}
use Rattle.yf_comments.specs.Comment.{CommentValue}
use Rattle.yf_comments.specs.GapLines.{IsRemark}
use Rattle.yf_props.proofs.NamesMade.{many_each, many_stretch, stretch_char, stretch_slice}
use Rattle.yf_events.specs.declared.lists.Lists.{Lists}
use Rattle.yf_grammar.proofs.Documents.CommentOrder.{Ascend, no_more, one_more, CommentIsAt}
use Rattle.yf_stream.specs.ReadingOf.{ReadingOf}
use Rattle.yf_stream.proofs.Offsets.ReadingOrder.{reading_ascends}
use Rattle.yf_laws.specs.Layouts.RowComments.{AreRemarks, no_remark, one_remark}
use Rattle.yf_forms.specs.Nodes.Lines.{trimmed}
use Rattle.yf_laws.proofs.Writable.DirectivesFit.{all_nb}
use Rattle.yf_laws.proofs.Texts.HighBytes.{AllHigh, all_high}
use Rattle.yf_chars.proofs.CharBounds.{nb_below}
use Rattle.yf_chars.proofs.CharFacts.{hash_no_white}

-- Bytes of characters outside ASCII are not white space.

abbrev NoWhites : List ℕ → Type 0
NoWhites [] = Unit {0}
NoWhites (b ∷ bs) = (is_white b ≡ false) × NoWhites bs

high_no_white : (b : ℕ) → 128 ≤ b → is_white b ≡ false
unfolding is_white
high_no_white b l = grind (arith, nat_tests)

high_no_whites : (c : ℕ) → 128 ≤ c → NoWhites (encode c)
high_no_whites c l = go (encode c) (all_high c l) where
  go : (xs : List ℕ) → AllHigh xs → NoWhites xs
  go [] a = tt
  go (x ∷ xs) a = (high_no_white x a.0, go xs a.1)

-- Without the white space that ends it, a line's text is one.

trimmed_past : (x y : List ℕ) → NoWhites x → trimmed (x ++ y) ≡ x ++ trimmed y
trimmed_past [] y n = refl
trimmed_past (b ∷ x) y n =
    let first : (is_white b && list_all is_white (x ++ y)) ≡ false = ap (λ p. p && list_all is_white (x ++ y)) n.0 in
    ap (λ p. if p then [] else b ∷ trimmed (x ++ y)) first ∙ ap (λ w. b ∷ w) (trimmed_past x y n.1)

-- characters of a line with these bytes
record LineChars (w : List ℕ) : Type 0 where
  chars : List ℕ
  bytes : encodes chars ≡ w
  each : AllNb chars

line_chars : (cs : List ℕ) → AllNb cs → LineChars (trimmed (encodes cs))
line_chars [] a = record { chars = []; bytes = refl; each = tt }
line_chars (c ∷ cs) a = ⊎_elim (λ (l : c < 128). low l (line_chars cs a.1)) (λ (l : 128 ≤ c). high l (line_chars cs a.1)) (cases_lt c 128) where
  more : LineChars (trimmed (encodes cs)) → LineChars (encode c ++ trimmed (encodes cs))
  more r = let e : encodes r.chars ≡ trimmed (encodes cs) = r.bytes in record { chars = c ∷ r.chars; bytes = ap (λ w. encode c ++ w) e; each = (a.0, r.each) }

  high : 128 ≤ c → LineChars (trimmed (encodes cs)) → LineChars (trimmed (encode c ++ encodes cs))
  high l r = subst (λ w. LineChars w) (sym (trimmed_past (encode c) (encodes cs) (high_no_whites c l))) (more r)

  by : (p : Bool) → LineChars (c ∷ trimmed (encodes cs)) → LineChars (if p then [] else c ∷ trimmed (encodes cs))
  by true r = record { chars = []; bytes = refl; each = tt }
  by false r = r

  low : c < 128 → LineChars (trimmed (encodes cs)) → LineChars (trimmed (encode c ++ encodes cs))
  low l r =
      let one : encode c ≡ c ∷ [] = encode_ascii c l in
      let follows : LineChars (c ∷ trimmed (encodes cs)) = subst (λ w. LineChars (w ++ trimmed (encodes cs))) one (more r) in
      subst (λ w. LineChars (trimmed (w ++ encodes cs))) (sym one) (by (list_all is_white (c ∷ encodes cs)) follows)

trimmed_line : {w : List ℕ} → IsLineText w → IsLineText (trimmed w)
trimmed_line a =
    let r = line_chars a.chars a.each in
    subst (λ w. IsLineText (trimmed w)) a.bytes (record { chars = r.chars; bytes = r.bytes; each = r.each })

trimmed_remark : {w : List ℕ} → IsRemark w → IsRemark (trimmed w)
trimmed_remark a = record {
  follows = trimmed a.follows;
  is = ap trimmed a.is ∙ trimmed_past (35 ∷ []) a.follows (hash_no_white, tt);
  line = trimmed_line a.line;
}

-- Comments that are in a text.

comment_remark : {t : List ℕ} {i : ℕ} {text : List ℕ} → IsUtf8 t → CommentIsAt t i text → IsRemark text
comment_remark {t} {i} u a =
    let sign = reads_byte t i 35 u a.sign (omega arith) in
    let whole = stretch_char sign (many_stretch u nb_below sign.within a.chain) in
    record {
      follows = encodes a.characters;
      is = a.is ∙ (stretch_slice whole ∙ ap (λ w. w ++ encodes a.characters) (encode_ascii 35 (omega arith)));
      line = record { chars = a.characters; bytes = refl; each = all_nb (λ c e. e) a.characters (many_each a.chain) };
    }

ascending_remarks : {t : List ℕ} {i j : ℕ} {cs : List CommentValue} → IsUtf8 t → Ascend t i cs j → AreRemarks cs
ascending_remarks u (no_more l) = no_remark
ascending_remarks u (one_more l s a) = one_remark (trimmed_remark (comment_remark u s)) (ascending_remarks u a)

-- of a reading
pub reading_remarks : {t : List ℕ} {r : Lists} → IsUtf8 t → ReadingOf t r → AreRemarks r.comments
reading_remarks u a = ascending_remarks u (reading_ascends a)
