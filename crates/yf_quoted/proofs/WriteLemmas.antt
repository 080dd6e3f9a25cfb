-- Written quoted scalars are read again.
use Rattle.std.proofs.Common.{◌≡◌, ◌≢◌, ℕ, zero, suc, ◌+◌, ◌<◌, ◌≤◌, ℤ, Bool, true, false, List, [], ◌∷◌, ◌++◌, ◌&&◌, Some, length, take, drop, get_or, flat_map, refl, sym, ap, ◌∙◌, subst, inl, inr, ◌⊎◌, ⊎_elim, arith, append_assoc, append-nil, add-zero, encode_utf8_all, if◌then◌else◌, get_or-drop}
use Rattle.std.proofs.Math.Seq.{take-append_seam, drop-append_seam}
use Rattle.std.proofs.lemmas.Bool.{cases_Bool, cases_eq, ne_eqb, and_parts}
use Rattle.std.proofs.lemmas.Bool.Decides.{nat_tests}
use Rattle.std.proofs.lemmas.List.{length-append, length-drop, drop-drop}
use Rattle.std.proofs.lemmas.Grind.{flat_map-append}
use Rattle.std.proofs.lemmas.Str.{encodes-append, length-encode, IsCharBoundary-before_ascii, IsCharBoundary-from_take}
use lib.Utf8.{encode, scalars, scalar}
use Rattle.std.specs.Char.{digit_value, len_utf8}
use Rattle.std.specs.Str.{IsUtf8}
use Rattle.std.specs.String.Boundary.{IsSplitPoint}
use Rattle.std.proofs.Math.Bool.{and-false}
use Rattle.yf_chars.specs.declared.context.Ctx.{Ctx}
use Rattle.yf_chars.specs.Text.{code, next, CharAt}
use Rattle.yf_chars.specs.Class.{is_between, is_printable, is_break_char, is_nb_char, is_nb_json}
use Rattle.yf_chars.specs.Chain.{Chain, Chosen}
use Rattle.yf_chars.specs.Chain.Chain.{done, step}
use Rattle.yf_chars.specs.Escape.{Escape, NumericEscape, named, spelled}
use Rattle.yf_chars.specs.Escape.Escape.{by_letter, by_two, by_four, by_half, by_pair, by_eight}
use Rattle.yf_chars.specs.Hidden.{spelled_out}
use Rattle.yf_chars.specs.Spelled.{ReadsBack, SpellsChar}
use Rattle.yf_chars.specs.Spelled.SpellsChar.{as_escape, as_itself}
use Rattle.yf_chars.proofs.EscapeLemmas.{named_below, digit_below, no_name, unnamed_lf, unnamed_cr}
use Rattle.yf_chars.proofs.SpelledLemmas.{IsAt, is_at_char, is_at_ascii, out_back, reads_back}
use Rattle.yf_chars.proofs.TextLemmas.{reads_byte}
use Rattle.yf_chars.proofs.CharFacts.{feed_no_nb, return_no_nb, mark_no_nb}
use Rattle.yf_lines.specs.Basic.{LineStart, Clear, is_block}
use Rattle.yf_lines.proofs.BasicLemmas.{clear_join, clear_nothing}
use Rattle.yf_lines.proofs.ClearLemmas.{clear_char, line_start_after}
use Rattle.yf_lines.proofs.RestLemmas.{nb_not}
use Rattle.yf_lines.specs.declared.invisible.Invisible.{Invisible}
use Rattle.yf_lines.specs.declared.invisible.Invisible.TheVariants.{Plain, Escaped}
use Rattle.yf_lines.specs.declared.quotes.Quotes.TheVariants.{Single, Double}
use Rattle.yf_quoted.specs.Quoted.{SingleChar, DoubleChar, Piece, goods, text_of, bad_escapes, SingleQuoted, DoubleQuoted}
use Rattle.yf_quoted.specs.Quoted.Piece.{good}
use Rattle.yf_quoted.specs.Quoted.SingleChar.{doubled, unquoted}
use Rattle.yf_quoted.specs.Quoted.DoubleChar.{unescaped, escaped}
use Rattle.yf_quoted.specs.Written.{all_nb, quotes_for, twice, single_bytes, double_bytes, double_bytes_in, BytesGrown, SingleBack, DoubleBack}
use Rattle.yf_quoted.proofs.BodyLemmas.{chars_body}
use Rattle.yf_quoted.proofs.GapLemmas.{text_of_goods, no_bad_goods}
use Rattle.yf_quoted.proofs.QuotedLemmas.{double_chosen}
use Rattle.yf_quoted.proofs.SingleReadLemmas.{line_derived, line_chosen}
use Rattle.yf_quoted.proofs.ReadLemmas.{clear_escape}
use Rattle.yf_quoted.proofs.ScalarLemmas.{some_width, body_map}
use Rattle.yf_quoted.proofs.DoubleLemmas.{char_functional, double_means}

-- strings that grow
pub cut_grown : {old new : List ℕ} {n : ℕ} → BytesGrown old new → n ≡ length old → take n new ≡ old
cut_grown {old} {new} {n} g e = ap (λ k. take k new) e ∙ ap (take (length old)) g.is ∙ take-append_seam old g.more

pub split_grown : {old new : List ℕ} {n : ℕ} → IsUtf8 old → IsUtf8 new → BytesGrown old new → n ≡ length old → IsSplitPoint new n
split_grown {old} {new} {n} u v g e =
    let within : n ≤ length new = omega (arith, e, ap length g.is, length-append old g.more) in
    let b = IsCharBoundary-from_take new n v within (subst IsUtf8 (sym (cut_grown g e)) u) in
    (within, λ z l a. b.1 l a)

pub grown_by : {old new : List ℕ} (more : List ℕ) → new ≡ old ++ more → BytesGrown old new
grown_by more e = record { more = more; is = e }

pub grown_more : {old mid new : List ℕ} → BytesGrown old mid → BytesGrown mid new → BytesGrown old new
grown_more {old} a b = grown_by (a.more ++ b.more) (b.is ∙ ap (λ w. w ++ b.more) a.is ∙ append_assoc old a.more b.more)

pub grown_if : {old new : List ℕ} (b : Bool) (more : List ℕ) → new ≡ (if b then old ++ more else old) → BytesGrown old new
grown_if true more e = grown_by more e
grown_if {old} false more e = grown_by [] (e ∙ sym (append-nil old))

-- text that is written character by character
pub one_written : {new : List ℕ} (f : ℕ → List ℕ) (start : List ℕ) {mid : List ℕ} (cs : List ℕ) (c : ℕ) → mid ≡ start ++ encode_utf8_all (flat_map f cs)
    → new ≡ mid ++ encode_utf8_all (f c) → new ≡ start ++ encode_utf8_all (flat_map f (cs ++ c ∷ []))
one_written f start cs c e g =
    let front = encode_utf8_all (flat_map f cs) in
    let last : flat_map f (c ∷ []) ≡ f c = append-nil (f c) in
    let both : encode_utf8_all (flat_map f (cs ++ c ∷ [])) ≡ front ++ encode_utf8_all (f c) =
    ap encode_utf8_all (flat_map-append f cs (c ∷ [])) ∙ encodes-append (flat_map f cs) (flat_map f (c ∷ [])) ∙ ap (λ w. front ++ encode_utf8_all w) last in
    g ∙ ap (λ w. w ++ encode_utf8_all (f c)) e ∙ append_assoc start front (encode_utf8_all (f c)) ∙ ap (λ w. start ++ w) (sym both)

pub all_written : {first mid new : List ℕ} (f : ℕ → List ℕ) (old : List ℕ) (quote : ℕ) (ys cs : List ℕ) → first ≡ old ++ quote ∷ []
    → mid ≡ first ++ encode_utf8_all (flat_map f ys) → ys ≡ cs → new ≡ mid ++ quote ∷ [] → new ≡ old ++ (quote ∷ encode_utf8_all (flat_map f cs) ++ quote ∷ [])
all_written f old quote ys cs a b e d =
    let middle = encode_utf8_all (flat_map f cs) in
    d ∙ ap (λ w. w ++ quote ∷ []) (b ∙ ap (λ w. w ++ encode_utf8_all (flat_map f ys)) a ∙ ap (λ v. (old ++ quote ∷ []) ++ encode_utf8_all (flat_map f v)) e)
    ∙ ap (λ w. w ++ quote ∷ []) (append_assoc old (quote ∷ []) middle) ∙ append_assoc old (quote ∷ middle) (quote ∷ [])

nb_json : (c : ℕ) → is_nb_char c ≡ true → is_nb_json c ≡ true
unfolding is_nb_char is_printable is_break_char is_nb_json is_between
nb_json c e = grind (arith, nat_tests)

pub nb_at : (cs : List ℕ) (n c : ℕ) → n < length cs → c ≡ get_or cs n c → is_nb_char c ≡ false → all_nb cs ≡ false
nb_at [] n c l e f = absurd (omega arith)
nb_at (d ∷ cs) zero c l e f = rw (sym (ap is_nb_char e) ∙ f) refl
nb_at (d ∷ cs) (suc n) c l e f = ap (λ w. is_nb_char d && w) (nb_at cs n c (omega arith) e f) ∙ and-false (is_nb_char d)

pub nb_more : (cs : List ℕ) (c : ℕ) → all_nb cs ≡ true → is_nb_char c ≡ true → all_nb (cs ++ c ∷ []) ≡ true
nb_more [] c a e = rw e refl
nb_more (d ∷ cs) c a e = let p = and_parts (is_nb_char d) (all_nb cs) a in rw (p.0, nb_more cs c p.1 e) refl

pub nb_chosen : (cs : List ℕ) → quotes_for cs Single ≡ Single → all_nb cs ≡ true
nb_chosen cs e =
    ⊎_elim (λ (a : all_nb cs ≡ true). a)
    (λ (f : all_nb cs ≡ false). let other : quotes_for cs Single ≡ Double = rw f refl in absurd (apart (sym other ∙ e)))
    (cases_Bool (all_nb cs))
  where
    apart : Double ≡ Single → ⊥
    apart e = cc

-- no line begins after a character that is neither a break nor a byte order mark
pub record NoLine (t : List ℕ) (i : ℕ) : Type 0 where
  pub none : LineStart t i → ⊥

no_line_after : {t : List ℕ} {i c j : ℕ} → IsUtf8 t → CharAt t i c j → c ≢ 10 → c ≢ 13 → c ≢ 0xFEFF → NoLine t j
no_line_after {t} {i} {c} {j} u r lf cr mark = record { none = λ s. go r.later (line_start_after u s) } where
  go : i < j → (j ≡ 0) ⊎ ((k : ℕ) × (d : ℕ) × CharAt t k d j × ((d ≡ 10) ⊎ ((d ≡ 13) ⊎ (d ≡ 0xFEFF)))) → ⊥
  go l (inl z) = omega arith
  go l (inr w) =
      let same : w.1 ≡ c = sym w.2.back ∙ r.back in
      ⊎_elim (λ (e : w.1 ≡ 10). lf (sym same ∙ e)) (λ (f : (w.1 ≡ 13) ⊎ (w.1 ≡ 0xFEFF)).
      ⊎_elim (λ (e : w.1 ≡ 13). cr (sym same ∙ e)) (λ (e : w.1 ≡ 0xFEFF). mark (sym same ∙ e)) f) w.3

-- the last character of an escape, a letter or a digit
record LastOf (t : List ℕ) (j : ℕ) : Type 0 where
  from : ℕ
  char : ℕ
  reads : CharAt t from char j
  low : char < 128
  no_lf : char ≢ 10
  no_cr : char ≢ 13

last_letter : {t : List ℕ} (i : ℕ) {v : ℕ} → IsUtf8 t → named (code t (i + 1)) ≡ Some v → LastOf t (i + 2)
last_letter {t} i {v} u e =
    let c = code t (i + 1) in
    let low = named_below c v e in
    let place : i + 1 + 1 ≡ i + 2 = omega arith in
    record {
      from = i + 1;
      char = c;
      reads = subst (λ k. CharAt t (i + 1) c k) place (reads_byte t (i + 1) c u refl low);
      low = low;
      no_lf = λ q. no_name 10 unnamed_lf q e;
      no_cr = λ q. no_name 13 unnamed_cr q e;
    }

digit_no : (d : ℕ) → (digit_value d < 16 → ⊥) → (c : ℕ) → digit_value c < 16 → c ≢ d
digit_no d n c l e = n (subst (λ w. digit_value w < 16) e l)

last_digit : {t : List ℕ} {i c v : ℕ} (k : ℕ) → IsUtf8 t → NumericEscape t i c (suc k) v → LastOf t (i + 2 + suc k)
last_digit {t} {i} k u n =
    let d = code t (i + 2 + k) in
    let small : digit_value d < 16 = n.digits.each k (omega arith) in
    let low = digit_below d small in
    let place : i + 2 + k + 1 ≡ i + 2 + suc k = omega arith in
    record {
      from = i + 2 + k;
      char = d;
      reads = subst (λ j. CharAt t (i + 2 + k) d j) place (reads_byte t (i + 2 + k) d u refl low);
      low = low;
      no_lf = digit_no 10 (λ l. omega arith) d small;
      no_cr = digit_no 13 (λ l. omega arith) d small;
    }

last_to : {t : List ℕ} {j k : ℕ} → j ≡ k → LastOf t j → LastOf t k
last_to {t} e l = subst (λ m. LastOf t m) e l

last_of : {t : List ℕ} {i j v : ℕ} → IsUtf8 t → Escape t i j v → LastOf t j
last_of u (by_letter {i = i} b e) = last_letter i u e
last_of u (by_two n) = last_to (omega arith) (last_digit 1 u n)
last_of u (by_four n h) = last_to (omega arith) (last_digit 3 u n)
last_of u (by_half n h o) = last_to (omega arith) (last_digit 3 u n)
last_of u (by_pair n h m l) = last_to (omega arith) (last_digit 3 u m)
last_of u (by_eight n) = last_to (omega arith) (last_digit 7 u n)

-- characters in a row: they cover no forbidden line, no line begins after them, and the bytes that remain are r
record Walked {A : Type 0} (t : List ℕ) (C : ℕ → ℕ → List A → Type 0) (i j : ℕ) (x : List A) (r : List ℕ) : Type 0 where
  chars : Chain C i j x
  clear : Clear t i j
  rest : IsAt t j r
  inside : NoLine t j

record Stepped {A : Type 0} (t : List ℕ) (C : ℕ → ℕ → List A → Type 0) (i j : ℕ) (x : List A) (r : List ℕ) : Type 0 where
  is : C i j x
  clear : Clear t i j
  rest : IsAt t j r
  inside : NoLine t j

module _ {A : Type 0} {t : List ℕ} {C : ℕ → ℕ → List A → Type 0} where
  walk_nothing : {i : ℕ} {r : List ℕ} → IsAt t i r → NoLine t i → Walked t C i i [] r
  walk_nothing {i} s n = record { chars = done; clear = clear_nothing t i; rest = s; inside = n }

  walk_more : {i h j : ℕ} {x y : List A} {r s : List ℕ} → Stepped t C i h x r → Walked t C h j y s → Walked t C i j (x ++ y) s
  walk_more a b = record { chars = step a.is b.chars; clear = clear_join a.clear b.clear; rest = b.rest; inside = b.inside }

  walk_to : {i j k : ℕ} {x : List A} {r : List ℕ} → j ≡ k → Walked t C i j x r → Walked t C i k x r
  walk_to {i} {x = x} {r = r} e w = subst (λ m. Walked t C i m x r) e w

  -- the characters of a text, each written by f and good
  walk : (f : ℕ → List ℕ) (g : List ℕ → List A) → g [] ≡ [] → ((c : ℕ) (cs : List ℕ) → g (c ∷ cs) ≡ g (c ∷ []) ++ g cs)
      → (P : ℕ → Bool)
      → ((c i : ℕ) (r : List ℕ) → P c ≡ true → IsAt t i (encode_utf8_all (f c) ++ r) → NoLine t i → Stepped t C i (i + length (encode_utf8_all (f c))) (g (c ∷ [])) r)
      → (all : List ℕ → Bool) → ((c : ℕ) (cs : List ℕ) → all (c ∷ cs) ≡ true → (P c ≡ true) × (all cs ≡ true))
      → (cs : List ℕ) (i : ℕ) (r : List ℕ) → all cs ≡ true → IsAt t i (encode_utf8_all (flat_map f cs) ++ r) → NoLine t i
      → Walked t C i (i + length (encode_utf8_all (flat_map f cs))) (g cs) r
  walk f g z m P one all each [] i r a s n = subst (λ v. Walked t C i (i + 0) v r) (sym z) (walk_to (sym (add-zero i)) (walk_nothing s n))
  walk f g z m P one all each (c ∷ cs) i r a s n =
      let front = encode_utf8_all (f c) in
      let back = encode_utf8_all (flat_map f cs) in
      let both : encode_utf8_all (f c ++ flat_map f cs) ≡ front ++ back = encodes-append (f c) (flat_map f cs) in
      let p = each c cs a in
      let s' : IsAt t i (front ++ (back ++ r)) = subst (λ w. IsAt t i w) (ap (λ w. w ++ r) both ∙ append_assoc front back r) s in
      let first = one c i (back ++ r) p.0 s' n in
      let more = walk f g z m P one all each cs (i + length front) r p.1 first.rest first.inside in
      let end : i + length front + length back ≡ i + length (encode_utf8_all (f c ++ flat_map f cs)) = omega (arith, ap length both, length-append front back) in
      subst (λ v. Walked t C i (i + length (encode_utf8_all (f c ++ flat_map f cs))) v r) (sym (m c cs)) (walk_to end (walk_more first more))

-- single quotes
single_one : {t : List ℕ} → IsUtf8 t → (c i : ℕ) (r : List ℕ) → is_nb_char c ≡ true → IsAt t i (encode_utf8_all (twice c) ++ r) → NoLine t i
    → Stepped t (SingleChar t) i (i + length (encode_utf8_all (twice c))) (c ∷ []) r
unfolding encode
single_one {t} u c i r e s n = ⊎_elim (λ (q : c ≡ 39). pair q s) (λ (q : c ≢ 39). itself q s) (cases_eq c 39) where
  pair : c ≡ 39 → IsAt t i (encode_utf8_all (twice c) ++ r) → Stepped t (SingleChar t) i (i + length (encode_utf8_all (twice c))) (c ∷ []) r
  pair q s =
      let two : encode_utf8_all (twice c) ≡ 39 ∷ 39 ∷ [] = rw q refl in
      let s' : IsAt t i (39 ∷ 39 ∷ r) = subst (λ w. IsAt t i (w ++ r)) two s in
      let first = is_at_ascii 39 u (omega arith) s' in
      let second = is_at_ascii 39 u (omega arith) first.1 in
      let place : i + 1 + 1 ≡ i + 2 = omega arith in
      let end : i + 2 ≡ i + length (encode_utf8_all (twice c)) = ap (λ w. i + length w) (sym two) in
      let here : Stepped t (SingleChar t) i (i + 2) (39 ∷ []) r = record {
        is = doubled first.0.char second.0.char;
        clear = subst (λ k. Clear t i k) place (clear_join (clear_char u first.0 (λ f. n.none f.start))
            (clear_char u second.0 (λ f. (no_line_after u first.0 (λ z. omega arith) (λ z. omega arith) (λ z. omega arith)).none f.start)));
        rest = subst (λ k. IsAt t k r) place second.1;
        inside = subst (λ k. NoLine t k) place (no_line_after u second.0 (λ z. omega arith) (λ z. omega arith) (λ z. omega arith));
      } in
      subst (λ k. Stepped t (SingleChar t) i k (c ∷ []) r) end (subst (λ v. Stepped t (SingleChar t) i (i + 2) (v ∷ []) r) (sym q) here)

  itself : c ≢ 39 → IsAt t i (encode_utf8_all (twice c) ++ r) → Stepped t (SingleChar t) i (i + length (encode_utf8_all (twice c))) (c ∷ []) r
  itself q s =
      let alone : encode_utf8_all (twice c) ≡ encode c = rw (ne_eqb c 39 q) (append-nil (encode c)) in
      let got = is_at_char c u (subst (λ w. IsAt t i (w ++ r)) alone s) in
      let end : i + len_utf8 c ≡ i + length (encode_utf8_all (twice c)) = omega (arith, ap length alone, length-encode c) in
      let json : is_nb_json (code t i) ≡ true = ap is_nb_json got.0.char ∙ nb_json c e in
      let is : SingleChar t i (next t i) (code t i ∷ []) = unquoted json (λ z. q (sym got.0.char ∙ z)) in
      let is' : SingleChar t i (i + len_utf8 c) (code t i ∷ []) = subst (λ k. SingleChar t i k (code t i ∷ [])) got.0.end is in
      let here : Stepped t (SingleChar t) i (i + len_utf8 c) (c ∷ []) r = record {
        is = subst (λ v. SingleChar t i (i + len_utf8 c) (v ∷ [])) got.0.char is';
        clear = clear_char u got.0 (λ f. n.none f.start);
        rest = got.1;
        inside = no_line_after u got.0 (nb_not 10 c feed_no_nb e) (nb_not 13 c return_no_nb e) (nb_not 0xFEFF c mark_no_nb e);
      } in
      subst (λ k. Stepped t (SingleChar t) i k (c ∷ []) r) end here

-- double quotes
is_at_past : (t : List ℕ) (i : ℕ) (x r : List ℕ) → drop i t ≡ x ++ r → drop (i + length x) t ≡ r
is_at_past t i x r e = sym (drop-drop (length x) i t) ∙ ap (drop (length x)) e ∙ drop-append_seam x r

double_one : (f : ℕ → List ℕ) → ((c : ℕ) → scalar c ≡ true → ReadsBack (encode_utf8_all (f c)) c) → {t : List ℕ} → IsUtf8 t → (c i : ℕ) (r : List ℕ) → scalar c ≡ true
    → IsAt t i (encode_utf8_all (f c) ++ r) → NoLine t i → Stepped t (DoubleChar t) i (i + length (encode_utf8_all (f c))) (good c ∷ []) r
double_one f back {t} u c i r e s n = go refl ((back c e).holds t i r u s.boundary s.bytes) where
  go : {j : ℕ} → j ≡ i + length (encode_utf8_all (f c)) → SpellsChar t c i j → Stepped t (DoubleChar t) i j (good c ∷ []) r
  go {j} q (as_escape g) =
      let l = last_of u g in
      record {
        is = escaped g e;
        clear = clear_escape g;
        rest = record { bytes = ap (λ k. drop k t) q ∙ is_at_past t i (encode_utf8_all (f c)) r s.bytes; boundary = l.reads.boundary };
        inside = no_line_after u l.reads l.no_lf l.no_cr (λ z. let w = l.low in omega arith);
      }
  go {j} q (as_itself read nb no_quote no_backslash) =
      let json : is_nb_json (code t i) ≡ true = ap is_nb_json read.char ∙ nb_json c nb in
      let is : DoubleChar t i (next t i) (good (code t i) ∷ []) = unescaped json (λ z. no_backslash (sym read.char ∙ z)) (λ z. no_quote (sym read.char ∙ z)) in
      let is' : DoubleChar t i j (good (code t i) ∷ []) = subst (λ k. DoubleChar t i k (good (code t i) ∷ [])) read.end is in
      record {
        is = subst (λ v. DoubleChar t i j (good v ∷ [])) read.char is';
        clear = clear_char u read (λ z. n.none z.start);
        rest = record { bytes = ap (λ k. drop k t) q ∙ is_at_past t i (encode_utf8_all (f c)) r s.bytes; boundary = read.boundary };
        inside = no_line_after u read (nb_not 10 c feed_no_nb nb) (nb_not 13 c return_no_nb nb) (nb_not 0xFEFF c mark_no_nb nb);
      }

-- the quotes around them
ascii_is_at : {t : List ℕ} {i : ℕ} (b : ℕ) (r : List ℕ) → b < 128 → drop i t ≡ b ∷ r → IsAt t i (b ∷ r)
ascii_is_at {t} {i} b r l e =
    let long : length (drop i t) ≡ suc (length r) = ap length e in
    let within : i < length t = omega (arith, length-drop i t) in
    let byte : get_or t i 0 ≡ b = ap (λ k. get_or t k 0) (sym (add-zero i)) ∙ sym (get_or-drop i t 0 0) ∙ ap (λ w. get_or w 0 0) e in
    record { bytes = e; boundary = IsCharBoundary-before_ascii t i within (rw byte l) }

record Framed {A : Type 0} (t : List ℕ) (C : ℕ → ℕ → List A → Type 0) (quote i j : ℕ) (x : List A) : Type 0 where
  opening : code t i ≡ quote
  closing : code t j ≡ quote
  inside : Chain C (i + 1) j x
  clear : Clear t (i + 1) j

framed : {A : Type 0} {t : List ℕ} {C : ℕ → ℕ → List A → Type 0} {quote i : ℕ} {x : List A} (middle rest : List ℕ) → IsUtf8 t → quote < 45 → 13 < quote
    → drop i t ≡ (quote ∷ middle ++ quote ∷ []) ++ rest
    → ((r : List ℕ) → IsAt t (i + 1) (middle ++ r) → NoLine t (i + 1) → Walked t C (i + 1) (i + 1 + length middle) x r)
    → Framed t C quote i (i + 1 + length middle) x
framed {t = t} {quote = quote} {i = i} middle rest u l m e inner =
    let shape : drop i t ≡ quote ∷ (middle ++ (quote ∷ rest)) = e ∙ ap (λ w. quote ∷ w) (append_assoc middle (quote ∷ []) rest) in
    let first = is_at_ascii quote u (omega arith) (ascii_is_at quote (middle ++ (quote ∷ rest)) (omega arith) shape) in
    let walked = inner (quote ∷ rest) first.1 (no_line_after u first.0 (λ z. omega arith) (λ z. omega arith) (λ z. omega arith)) in
    let last = is_at_ascii quote u (omega arith) walked.rest in
    record { opening = first.0.char; closing = last.0.char; inside = walked.chars; clear = walked.clear }

frame_length : (middle : List ℕ) (quote i : ℕ) → i + 1 + length middle + 1 ≡ i + length (quote ∷ middle ++ quote ∷ [])
frame_length middle quote i = omega (arith, length-append middle (quote ∷ []))

single_frame : {t : List ℕ} {i : ℕ} (cs rest : List ℕ) → all_nb cs ≡ true → IsUtf8 t → drop i t ≡ single_bytes cs ++ rest
    → Framed t (SingleChar t) 39 i (i + 1 + length (encode_utf8_all (flat_map twice cs))) cs
single_frame {t} {i} cs rest a u e =
    let middle = encode_utf8_all (flat_map twice cs) in
    let inner : (r : List ℕ) → IsAt t (i + 1) (middle ++ r) → NoLine t (i + 1) → Walked t (SingleChar t) (i + 1) (i + 1 + length middle) cs r =
    λ r s q. walk twice (λ x. x) refl (λ c cs. refl) is_nb_char (single_one u) all_nb (λ c cs h. and_parts (is_nb_char c) (all_nb cs) h) cs (i + 1) r a s q in
    framed middle rest u (omega arith) (omega arith) e inner

pub single_back : (cs : List ℕ) → all_nb cs ≡ true → SingleBack (single_bytes cs) cs
single_back cs a = record { derived = derived; chosen = chosen } where
  derived : (t : List ℕ) (i : ℕ) (rest : List ℕ) (n : ℤ) (c : Ctx) → IsUtf8 t → drop i t ≡ single_bytes cs ++ rest → is_block c ≡ false
      → SingleQuoted t n c i (i + length (single_bytes cs)) cs
  derived t i rest n c u e b =
      let f = single_frame cs rest a u e in
      let w = some_width n c b in
      subst (λ k. SingleQuoted t n c i k cs) (frame_length (encode_utf8_all (flat_map twice cs)) 39 i) (line_derived u w.1 f.opening f.inside f.clear f.closing)

  chosen : (t : List ℕ) (i : ℕ) (rest : List ℕ) (n : ℤ) (c : Ctx) → IsUtf8 t → drop i t ≡ single_bytes cs ++ rest → is_block c ≡ false
      → code t (i + length (single_bytes cs)) ≢ 39 → Chosen (SingleQuoted t n c i) (i + length (single_bytes cs)) cs
  chosen t i rest n c u e b q =
      let f = single_frame cs rest a u e in
      let w = some_width n c b in
      let end = frame_length (encode_utf8_all (flat_map twice cs)) 39 i in
      subst (λ k. Chosen (SingleQuoted t n c i) k cs) end (line_chosen u w.1 f.opening f.inside f.clear f.closing (λ z. q (ap (code t) (sym end) ∙ z)))

-- a text in double quotes with each character written so that it is read again
pub double_back_by : (f : ℕ → List ℕ) → ((c : ℕ) → scalar c ≡ true → ReadsBack (encode_utf8_all (f c)) c) → (cs : List ℕ) → scalars cs ≡ true
    → DoubleBack (34 ∷ encode_utf8_all (flat_map f cs) ++ 34 ∷ []) cs
double_back_by f back cs a = record { chosen = chosen } where
  chosen : (t : List ℕ) (i : ℕ) (rest : List ℕ) (n : ℤ) (c : Ctx) → IsUtf8 t → drop i t ≡ (34 ∷ encode_utf8_all (flat_map f cs) ++ 34 ∷ []) ++ rest → is_block c ≡ false
      → (y : List Piece) × (text_of y ≡ cs) × (bad_escapes y ≡ []) × Chosen (DoubleQuoted t n c i) (i + length (34 ∷ encode_utf8_all (flat_map f cs) ++ 34 ∷ [])) y
  chosen t i rest n c u e b =
      let middle = encode_utf8_all (flat_map f cs) in
      let w = some_width n c b in
      let inner : (r : List ℕ) → IsAt t (i + 1) (middle ++ r) → NoLine t (i + 1) → Walked t (DoubleChar t) (i + 1) (i + 1 + length middle) (goods cs) r = λ r s q. walk f goods refl (λ c cs. refl) scalar (double_one f back u) scalars (λ c cs h. and_parts (scalar c) (scalars cs) h) cs (i + 1) r a s q in
      let g = framed middle rest u (omega arith) (omega arith) e inner in
      let body = chars_body {B = λ i j x. ⊥} (char_functional t) (double_means t) (λ i j x b. b) g.inside g.closing g.clear in (
        goods cs,
        text_of_goods cs,
        no_bad_goods cs,
        subst (λ k. Chosen (DoubleQuoted t n c i) k (goods cs)) (frame_length middle 34 i) (double_chosen u w.1 g.opening (body_map (λ i j x b. absurd b) body)),
      )

pub double_back : (cs : List ℕ) → scalars cs ≡ true → DoubleBack (double_bytes cs) cs
double_back cs a = double_back_by spelled reads_back cs a

pub double_in_back : (i : Invisible) (cs : List ℕ) → scalars cs ≡ true → DoubleBack (double_bytes_in i cs) cs
double_in_back Plain cs a = double_back cs a
double_in_back Escaped cs a = double_back_by spelled_out out_back cs a
